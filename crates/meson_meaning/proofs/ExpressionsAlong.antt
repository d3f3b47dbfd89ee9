-- An expression gives what it gave, without the literals that are left out of lists.
use Rattle.std.proofs.Common.{◌≡◌, ℕ, List, [], ◌∷◌, ◌++◌, Option, Some, None, refl, sym, ap, subst, ◌∙◌}
use Rattle.std.specs.Prelude.{Bool, true, false, map, flat_map, if◌then◌else◌, bytes_eq, codes, option_map}
use Rattle.std.proofs.lemmas.List.{map-append}
use Rattle.meson_syntax.specs.declared.operator.Operator.{Operator}
use Rattle.meson_syntax.specs.Tree.{Name, Expression, identifier, boolean, integer, string, paren, array, dictionary, call, unary, row, postfix, conditional, Operands, no_operands, operand, Tail, method, index, Tails, no_tails, tail, Listing, listing, plain, named, pair, Arguments, no_arguments, argument}
use Rattle.meson_calls.specs.Calls.{Call}
use Rattle.meson_calls.specs.Roles.{one_of}
use Rattle.meson_variables.specs.Expansion.{are_plus}
use Rattle.meson_following.specs.Names.{named_by}
use Rattle.meson_meaning.specs.Expressions.{Sort, another_called, builtin_objects, call_with, called, eval, eval_arguments, eval_listing, eval_operands, eval_sum, eval_tail, eval_tails, is_logical, literal_in, making, may_end, of_another, of_files, of_target, read_as, sort_of, sum, target_made, used_in, with_effect}
use Rattle.meson_meaning.specs.States.{Choices, Going, State, and_then, any_name, asks, chosen, on, out_of_file, out_of_turn, stops, touched, with_making, with_named, with_use}
use Rattle.meson_meaning.specs.Values.{Atom, Given, Literal, Value, a_literal, a_named, an_entry, anything, atoms_of, elements_of, given, in_folder, other, several, text, values_of}
use Rattle.meson_meaning.specs.Without.{Loses, literal_as, arguments_without, atoms_without, each_one, expression_without, kept_before, later_ones, listing_without, literal_goes, loses, loses_after, may_go, nothing, operands_without, state_without, tail_without, tails_without, value_without}
use Rattle.meson_meaning.proofs.Alongs.{Along, asks_along, chosen_along, going_without, if_along, making_along, named_along, on_along, same_along, step_along, then_along, touched_along, use_along}
use Rattle.meson_meaning.proofs.CallParts.{literal_in_stays, naming_kept, plus_stays, sort_stays}
use Rattle.meson_meaning.proofs.GivenLists.{atoms-append, atoms_kept, elements_kept, folders_kept, givens_without, put_before, sources_kept, target_uses_kept, values_kept}

module _ {S T : Type 0} (to : S → T) (gone : S → Bool) (ch : Choices) (file : ℕ) where
  abbrev vw : Value S → Value T
  vw = value_without to gone

  abbrev less : State S → State T
  less = state_without to gone

  abbrev aw : List (Atom S) → List (Atom T)
  aw = atoms_without to gone

  -- a computation of a value
  abbrev Gives : (small : State T → Going T (Value T)) (large : State S → Going S (Value S)) → Type 0
  Gives small large = Along to gone vw small large

  abbrev Lists : (small : State T → Going T (List (Value T))) (large : State S → Going S (List (Value S))) → Type 0
  Lists small large = Along to gone (map vw) small large

  -- ---- parts

  pub used_along : (s : S) (vs : List (Value S)) (ws : List (Value T)) → ws ≡ map vw vs → Gives (used_in (to s) ws) (used_in s vs)
  used_along s vs ws is = record { at_state = λ st. ap (on anything) (use_along to gone s vs ws st is) }

  several_along : (xs : List (Atom S)) (ys : List (Atom T)) → ys ≡ aw xs → Gives (on (several ys)) (on (several xs))
  several_along xs ys is = on_along to gone vw (several xs) (several ys) (ap several is)

  -- a list, or a text
  abbrev either_kind : {U : Type 0} → Option (Literal U) → ℕ → State U → Going U (Value U)
  either_kind t n = chosen n (on (several (other ∷ atoms_of (text t)))) (on (text None))

  pub sum_along : (u v : Value S) → Gives (sum ch (vw u) (vw v)) (sum ch u v)
  sum_along (several xs) v = several_along (xs ++ atoms_of v) (aw xs ++ atoms_of (vw v)) (ap (λ ys. aw xs ++ ys) (atoms_kept to gone v) ∙ sym (atoms-append to gone xs (atoms_of v)))
  sum_along (text t) (several ys) = record { at_state = λ st. refl }
  sum_along (text t) (text u) = record { at_state = λ st. refl }
  sum_along (text t) anything = record { at_state = λ st. refl }
  sum_along anything (several ys) = record { at_state = λ st. refl }
  sum_along anything (text t) = asks_along to gone ch (either_kind (option_map (literal_as to gone) t)) (either_kind t) (λ n. chosen_along to gone n (several_along (other ∷ atoms_of (text t)) (other ∷ atoms_of (vw (text t))) (ap (λ ys. other ∷ ys) (atoms_kept to gone (text t)))) (on_along to gone vw (text None) (text None) refl))
  sum_along anything anything = record { at_state = λ st. refl }

  read_along : (builtin : Bool) (v : Option (Value S)) (st : State S) → read_as builtin (option_map vw v) (less st) ≡ going_without to gone vw (read_as builtin v st)
  read_along true None st = refl
  read_along false None st = refl
  read_along true (Some v) st = refl
  read_along false (Some v) st = refl

  end_along : (o : Operator) (small : State T → Going T (List (Value T))) (large : State S → Going S (List (Value S))) → Lists small large → Lists (may_end ch o [] small) (may_end ch o [] large)
  end_along o small large along =
      if_along to gone (is_logical o) (is_logical o) refl (asks_along to gone ch (λ n. chosen n small (on [])) (λ n. chosen n large (on [])) (λ n. chosen_along to gone n along (on_along to gone (map vw) [] [] refl))) along

  -- ---- calls

  effect_by : (c : Call S) (d : Call T) → d.function ≡ c.function → named_by d ≡ named_by c → (st : State S) → (sets unsets enters : Bool)
      → (if sets then with_named ch (named_by d) (Some anything) (less st) else (if unsets then with_named ch (named_by d) None (less st) else (if enters then touched ch any_name (less st) else less st)))
      ≡ less (if sets then with_named ch (named_by c) (Some anything) st else (if unsets then with_named ch (named_by c) None st else (if enters then touched ch any_name st else st)))
  effect_by c d same is st true unsets enters = ap (λ naming. with_named ch naming (Some anything) (less st)) is ∙ named_along to gone ch (named_by c) (Some anything) st
  effect_by c d same is st false true enters = ap (λ naming. with_named ch naming None (less st)) is ∙ named_along to gone ch (named_by c) None st
  effect_by c d same is st false false true = touched_along to gone ch any_name st
  effect_by c d same is st false false false = refl

  another_along : (f : List ℕ) (l : Listing S) → Gives (another_called ch (call_with f (listing_without to gone nothing l))) (another_called ch (call_with f l))
  another_along f l = record { at_state = λ st. go st (bytes_eq f (codes "error")) (bytes_eq f (codes "subdir_done")) }
    where
      go : (st : State S) (fails leaves : Bool)
          → (if fails then stops (less st) else (if leaves then out_of_file (less st) else on anything (with_effect ch (call_with f (listing_without to gone nothing l)) (less st))))
          ≡ going_without to gone vw (if fails then stops st else (if leaves then out_of_file st else on anything (with_effect ch (call_with f l) st)))
      go st true leaves = refl
      go st false true = refl
      go st false false =
          ap (on anything) (effect_by (call_with f l) (call_with f (listing_without to gone nothing l)) refl (naming_kept to gone f l) st (bytes_eq f (codes "set_variable")) (bytes_eq f (codes "unset_variable")) (bytes_eq f (codes "subdir")))

  called_along : (s : S) (f : List ℕ) (l : Listing S) (sort : Sort) (gs : List (Given S))
      → Gives (called ch file (to s) (call_with f (listing_without to gone (loses sort) l)) sort (givens_without to gone (loses sort) gs)) (called ch file s (call_with f l) sort gs)
  called_along s f l of_files gs =
      several_along (map (in_folder file) (flat_map elements_of gs)) (map (in_folder file) (flat_map elements_of (givens_without to gone each_one gs)))
      (ap (map (in_folder file)) (elements_kept to gone gs) ∙ folders_kept to gone file (flat_map elements_of gs))
  called_along s f l of_target gs = record { at_state = λ st. ap (on anything) (made st) }
    where
      made : (st : State S) → target_made file (to s) (givens_without to gone later_ones gs) (less st) ≡ less (target_made file s gs st)
      made st = ap (with_making (making file (to s) (givens_without to gone later_ones gs))) (use_along to gone s _ _ st (target_uses_kept to gone gs))
          ∙ making_along to gone (making file s gs) (making file (to s) (givens_without to gone later_ones gs)) _ (ap (λ xs. record { call = to s; file = file; sources = xs }) (sources_kept to gone gs))
  called_along s f l of_another gs = step_along to gone (with_use (to s) (flat_map values_of (givens_without to gone nothing gs))) (with_use s (flat_map values_of gs))
      (λ st. use_along to gone s (flat_map values_of gs) (flat_map values_of (givens_without to gone nothing gs)) st (values_kept to gone gs)) (another_along f l)

  call_along : (s : S) (f : List ℕ) (l : Listing S) (gs : List (Given S))
      → Gives (called ch file (to s) (call_with f (listing_without to gone (loses (sort_of (call_with f l))) l)) (sort_of (call_with f (listing_without to gone (loses (sort_of (call_with f l))) l))) (givens_without to gone (loses (sort_of (call_with f l))) gs))
      (called ch file s (call_with f l) (sort_of (call_with f l)) gs)
  call_along s f l gs =
      subst (λ sort. Gives (called ch file (to s) (call_with f (listing_without to gone (loses (sort_of (call_with f l))) l)) sort (givens_without to gone (loses (sort_of (call_with f l))) gs)) (called ch file s (call_with f l) (sort_of (call_with f l)) gs))
      (sym (sort_stays to gone f l)) (called_along s f l (sort_of (call_with f l)) gs)

  -- ---- arguments

  -- a computation of arguments
  abbrev Givens : Loses → (small : State T → Going T (List (Given T))) (large : State S → Going S (List (Given S))) → Type 0
  Givens m small large = Along to gone (givens_without to gone m) small large

  abbrev ew : Expression S → Expression T
  ew = expression_without to gone

  abbrev args : Loses → Arguments S → Arguments T
  args = arguments_without to gone

  abbrev ev : {U : Type 0} → Expression U → State U → Going U (Value U)
  ev = eval ch file

  abbrev evs : {U : Type 0} → Arguments U → State U → Going U (List (Given U))
  evs = eval_arguments ch file

  abbrev literal_moved : Option (Literal S) → Option (Literal T)
  literal_moved = option_map (literal_as to gone)

  given_head : (m : Loses) (o : Option (Literal S)) (v : Value S) (e : Expression S) (gs : List (Given S)) → may_go m (literal_goes gone o) ≡ false
      → given (literal_moved o) (vw v) ∷ givens_without to gone (loses_after m (plain e)) gs ≡ givens_without to gone m (given o v ∷ gs)
  given_head nothing None v e gs stays = refl
  given_head nothing (Some l) v e gs stays = refl
  given_head later_ones None v e gs stays = refl
  given_head later_ones (Some l) v e gs stays = refl
  given_head each_one None v e gs stays = refl
  given_head each_one (Some l) v e gs stays = ap (λ b. put_before to gone b (a_literal (literal_as to gone l)) (givens_without to gone each_one gs)) (sym stays)

  -- a literal that goes is no longer evaluated
  given_gone : (m : Loses) (o : Option (Literal S)) (v : Value S) (e : Expression S) (gs : List (Given S)) → may_go m (literal_goes gone o) ≡ true
      → givens_without to gone (loses_after m (plain e)) gs ≡ givens_without to gone m (given o v ∷ gs)
  given_gone nothing o v e gs goes = absurd cc
  given_gone later_ones o v e gs goes = absurd cc
  given_gone each_one None v e gs goes = absurd cc
  given_gone each_one (Some l) v e gs goes = ap (λ b. put_before to gone b (a_literal (literal_as to gone l)) (givens_without to gone each_one gs)) (sym goes)

  may_go_literal : (m : Loses) (o : Option (Literal S)) → may_go m (literal_goes gone o) ≡ true → (l : Literal S) × (o ≡ Some l)
  may_go_literal nothing o goes = absurd cc
  may_go_literal later_ones o goes = absurd cc
  may_go_literal each_one None goes = absurd cc
  may_go_literal each_one (Some l) goes = (l, refl)

  literal_value : (e : Expression S) (l : Literal S) → literal_in e ≡ Some l → (st : State S) → ev e st ≡ on (text (Some l)) st
  literal_value (string s q x) l is st = ap (λ o. on (text o) st) is
  literal_value (identifier s x) l is st = absurd cc
  literal_value (boolean s b) l is st = absurd cc
  literal_value (integer s x) l is st = absurd cc
  literal_value (paren s e) l is st = absurd cc
  literal_value (array l') l is st = absurd cc
  literal_value (dictionary l') l is st = absurd cc
  literal_value (call s f l') l is st = absurd cc
  literal_value (unary s o e) l is st = absurd cc
  literal_value (row s e os) l is st = absurd cc
  literal_value (postfix s e ts) l is st = absurd cc
  literal_value (conditional s c y n) l is st = absurd cc

  -- what comes after the value of an element
  abbrev then_more : {U : Type 0} → Expression U → (more : State U → Going U (List (Given U))) → Value U → State U → Going U (List (Given U))
  then_more e more v now = and_then (more now) (λ gs. on (given (literal_in e) v ∷ gs))

  gone_along : (m : Loses) (e : Expression S) (more : Arguments S) → may_go m (literal_goes gone (literal_in e)) ≡ true
      → Givens (loses_after m (plain e)) (evs (args (loses_after m (plain e)) more)) (evs more)
      → Givens m (evs (args (loses_after m (plain e)) more)) (λ st. and_then (ev e st) (then_more e (evs more)))
  gone_along m e more goes rest = record { at_state = λ st. rest.at_state st ∙ go (evs more st) ∙ ap (λ n. going_without to gone (givens_without to gone m) (and_then n (then_more e (evs more)))) (sym (literal_value e found.0 found.1 st)) }
    where
      found : (l : Literal S) × (literal_in e ≡ Some l)
      found = may_go_literal m (literal_in e) goes

      go : (n : Going S (List (Given S))) → going_without to gone (givens_without to gone (loses_after m (plain e))) n ≡ going_without to gone (givens_without to gone m) (and_then n (λ gs. on (given (literal_in e) (text (Some found.0)) ∷ gs)))
      go (on gs st) = ap (λ hs. on hs (less st)) (given_gone m (literal_in e) (text (Some found.0)) e gs goes)
      go (out_of_turn ended st) = refl
      go (out_of_file st) = refl
      go (stops st) = refl

  kept_along : (m : Loses) (e : Expression S) (more : Arguments S) → may_go m (literal_goes gone (literal_in e)) ≡ false → Gives (ev (ew e)) (ev e)
      → Givens (loses_after m (plain e)) (evs (args (loses_after m (plain e)) more)) (evs more)
      → Givens m (λ st. and_then (ev (ew e) st) (then_more (ew e) (evs (args (loses_after m (plain e)) more)))) (λ st. and_then (ev e st) (then_more e (evs more)))
  kept_along m e more stays first rest =
      then_along to gone (then_more (ew e) (evs (args (loses_after m (plain e)) more))) (then_more e (evs more)) first
      (λ v. then_along to gone (λ gs. on (given (literal_in (ew e)) (vw v) ∷ gs)) (λ gs. on (given (literal_in e) v ∷ gs)) rest
      (λ gs. on_along to gone (givens_without to gone m) (given (literal_in e) v ∷ gs) (given (literal_in (ew e)) (vw v) ∷ givens_without to gone (loses_after m (plain e)) gs)
      (ap (λ o. given o (vw v) ∷ givens_without to gone (loses_after m (plain e)) gs) (literal_in_stays to gone e) ∙ given_head m (literal_in e) v e gs stays)))

  plain_along : (m : Loses) (e : Expression S) (more : Arguments S) → Gives (ev (ew e)) (ev e) → Givens (loses_after m (plain e)) (evs (args (loses_after m (plain e)) more)) (evs more)
      → Givens m (evs (args m (argument (plain e) more))) (evs (argument (plain e) more))
  plain_along m e more first rest = go (may_go m (literal_goes gone (literal_in e))) refl
    where
      go : (b : Bool) → may_go m (literal_goes gone (literal_in e)) ≡ b
          → Givens m (evs (kept_before (may_go m (literal_goes gone (literal_in e))) (plain (ew e)) (args (loses_after m (plain e)) more))) (λ st. and_then (ev e st) (then_more e (evs more)))
      go true is = same_along to gone (ap (λ b. evs (kept_before b (plain (ew e)) (args (loses_after m (plain e)) more))) is) (gone_along m e more is rest)
      go false is = same_along to gone (ap (λ b. evs (kept_before b (plain (ew e)) (args (loses_after m (plain e)) more))) is) (kept_along m e more is first rest)

  -- with a name
  named_head : (m : Loses) (s : S) (x : Name S) (e : Expression S) (more : Arguments S) → evs (args m (argument (named s x e) more)) ≡ (λ st. and_then (ev (ew e) st) (λ v now. and_then (evs (args m more) now) (λ gs. on (a_named x.text v ∷ gs))))
  named_head nothing s x e more = refl
  named_head later_ones s x e more = refl
  named_head each_one s x e more = refl

  named_given : (m : Loses) (x : List ℕ) (v : Value S) (gs : List (Given S)) → a_named x (vw v) ∷ givens_without to gone m gs ≡ givens_without to gone m (a_named x v ∷ gs)
  named_given nothing x v gs = refl
  named_given later_ones x v gs = refl
  named_given each_one x v gs = refl

  pair_head : (m : Loses) (s : S) (e f : Expression S) (more : Arguments S) → evs (args m (argument (pair s e f) more))
      ≡ (λ st. and_then (ev (ew e) st) (λ v now. and_then (ev (ew f) now) (λ w after. and_then (evs (args m more) after) (λ gs. on (an_entry v w ∷ gs)))))
  pair_head nothing s e f more = refl
  pair_head later_ones s e f more = refl
  pair_head each_one s e f more = refl

  entry_given : (m : Loses) (v w : Value S) (gs : List (Given S)) → an_entry (vw v) (vw w) ∷ givens_without to gone m gs ≡ givens_without to gone m (an_entry v w ∷ gs)
  entry_given nothing v w gs = refl
  entry_given later_ones v w gs = refl
  entry_given each_one v w gs = refl

  -- ---- the induction

  mutual
    pub expression_along : (e : Expression S) → Gives (ev (ew e)) (ev e)
    expression_along (identifier s x) = record { at_state = λ st. read_along (one_of builtin_objects x) (st.variables x) st }
    expression_along (boolean s b) = record { at_state = λ st. refl }
    expression_along (integer s x) = record { at_state = λ st. refl }
    expression_along (string s q x) = on_along to gone vw (text (literal_in (string s q x))) (text (literal_in (string (to s) q x))) (ap text (literal_in_stays to gone (string s q x)))
    expression_along (paren s e) = expression_along e
    expression_along (array l) =
        then_along to gone (λ gs. on (several (flat_map elements_of gs))) (λ gs. on (several (flat_map elements_of gs))) (listing_along each_one l)
        (λ gs. several_along (flat_map elements_of gs) (flat_map elements_of (givens_without to gone each_one gs)) (elements_kept to gone gs))
    expression_along (dictionary (listing s trailing list)) =
        then_along to gone (λ gs. used_in (to s) (flat_map values_of gs)) (λ gs. used_in s (flat_map values_of gs)) (arguments_along nothing list)
        (λ gs. used_along s (flat_map values_of gs) (flat_map values_of (givens_without to gone nothing gs)) (values_kept to gone gs))
    expression_along (call s f l) =
        then_along to gone
        (called ch file (to s) (call_with f.text (listing_without to gone (loses (sort_of (call_with f.text l))) l)) (sort_of (call_with f.text (listing_without to gone (loses (sort_of (call_with f.text l))) l))))
        (called ch file s (call_with f.text l) (sort_of (call_with f.text l)))
        (listing_along (loses (sort_of (call_with f.text l))) l) (call_along s f.text l)
    expression_along (unary s o e) =
        then_along to gone (λ v. used_in (to s) (v ∷ [])) (λ v. used_in s (v ∷ [])) (expression_along e) (λ v. used_along s (v ∷ []) (vw v ∷ []) refl)
    expression_along (row s e os) =
        then_along to gone
        (λ v now. if are_plus (operands_without to gone os) then eval_sum ch file (operands_without to gone os) v now else and_then (eval_operands ch file (operands_without to gone os) now) (λ vs. used_in (to s) (v ∷ vs)))
        (λ v now. if are_plus os then eval_sum ch file os v now else and_then (eval_operands ch file os now) (λ vs. used_in s (v ∷ vs)))
        (expression_along e)
        (λ v. if_along to gone (are_plus (operands_without to gone os)) (are_plus os) (plus_stays to gone os) (sums_along os v)
        (then_along to gone (λ vs. used_in (to s) (vw v ∷ vs)) (λ vs. used_in s (v ∷ vs)) (operands_along os) (λ vs. used_along s (v ∷ vs) (vw v ∷ map vw vs) refl)))
    expression_along (postfix s e ts) =
        then_along to gone
        (λ v now. and_then (eval_tails ch file (tails_without to gone ts) now) (λ vs. used_in (to s) (v ∷ vs)))
        (λ v now. and_then (eval_tails ch file ts now) (λ vs. used_in s (v ∷ vs)))
        (expression_along e)
        (λ v. then_along to gone (λ vs. used_in (to s) (vw v ∷ vs)) (λ vs. used_in s (v ∷ vs)) (tails_along ts) (λ vs. used_along s (v ∷ vs) (vw v ∷ map vw vs) refl))
    expression_along (conditional s c y n) =
        then_along to gone
        (λ v now. asks ch (λ a. chosen a (ev (ew y)) (ev (ew n))) (with_use (to s) (v ∷ []) now))
        (λ v now. asks ch (λ a. chosen a (ev y) (ev n)) (with_use s (v ∷ []) now))
        (expression_along c)
        (λ v. step_along to gone (with_use (to s) (vw v ∷ [])) (with_use s (v ∷ [])) (λ st. use_along to gone s (v ∷ []) (vw v ∷ []) st refl)
        (asks_along to gone ch (λ a. chosen a (ev (ew y)) (ev (ew n))) (λ a. chosen a (ev y) (ev n)) (λ a. chosen_along to gone a (expression_along y) (expression_along n))))

    sums_along : (os : Operands S) (v : Value S) → Gives (eval_sum ch file (operands_without to gone os) (vw v)) (eval_sum ch file os v)
    sums_along no_operands v = record { at_state = λ st. refl }
    sums_along (operand o e more) v =
        then_along to gone
        (λ w now. and_then (sum ch (vw v) w now) (λ u after. eval_sum ch file (operands_without to gone more) u after))
        (λ w now. and_then (sum ch v w now) (λ u after. eval_sum ch file more u after))
        (expression_along e)
        (λ w. then_along to gone (λ u after. eval_sum ch file (operands_without to gone more) u after) (λ u after. eval_sum ch file more u after) (sum_along v w) (λ u. sums_along more u))

    operands_along : (os : Operands S) → Lists (eval_operands ch file (operands_without to gone os)) (eval_operands ch file os)
    operands_along no_operands = record { at_state = λ st. refl }
    operands_along (operand o e more) =
        end_along o
        (λ now. and_then (ev (ew e) now) (λ v after. and_then (eval_operands ch file (operands_without to gone more) after) (λ vs. on (v ∷ vs))))
        (λ now. and_then (ev e now) (λ v after. and_then (eval_operands ch file more after) (λ vs. on (v ∷ vs))))
        (then_along to gone
        (λ v after. and_then (eval_operands ch file (operands_without to gone more) after) (λ vs. on (v ∷ vs)))
        (λ v after. and_then (eval_operands ch file more after) (λ vs. on (v ∷ vs)))
        (expression_along e)
        (λ v. then_along to gone (λ vs. on (vw v ∷ vs)) (λ vs. on (v ∷ vs)) (operands_along more) (λ vs. on_along to gone (map vw) (v ∷ vs) (vw v ∷ map vw vs) refl)))

    tail_along : (t : Tail S) → Lists (eval_tail ch file (tail_without to gone t)) (eval_tail ch file t)
    tail_along (method s f (listing r trailing list)) =
        then_along to gone (λ gs. on (flat_map values_of gs)) (λ gs. on (flat_map values_of gs)) (arguments_along nothing list)
        (λ gs. on_along to gone (map vw) (flat_map values_of gs) (flat_map values_of (givens_without to gone nothing gs)) (values_kept to gone gs))
    tail_along (index s e) =
        then_along to gone (λ v. on (v ∷ [])) (λ v. on (v ∷ [])) (expression_along e) (λ v. on_along to gone (map vw) (v ∷ []) (vw v ∷ []) refl)

    tails_along : (ts : Tails S) → Lists (eval_tails ch file (tails_without to gone ts)) (eval_tails ch file ts)
    tails_along no_tails = record { at_state = λ st. refl }
    tails_along (tail t more) =
        then_along to gone
        (λ vs now. and_then (eval_tails ch file (tails_without to gone more) now) (λ ws. on (vs ++ ws)))
        (λ vs now. and_then (eval_tails ch file more now) (λ ws. on (vs ++ ws)))
        (tail_along t)
        (λ vs. then_along to gone (λ ws. on (map vw vs ++ ws)) (λ ws. on (vs ++ ws)) (tails_along more) (λ ws. on_along to gone (map vw) (vs ++ ws) (map vw vs ++ map vw ws) (sym (map-append vw vs ws))))

    pub listing_along : (m : Loses) (l : Listing S) → Givens m (eval_listing ch file (listing_without to gone m l)) (eval_listing ch file l)
    listing_along m (listing s trailing list) = arguments_along m list

    arguments_along : (m : Loses) (list : Arguments S) → Givens m (evs (args m list)) (evs list)
    arguments_along m no_arguments = record { at_state = λ st. refl }
    arguments_along m (argument (plain e) more) = plain_along m e more (expression_along e) (arguments_along (loses_after m (plain e)) more)
    arguments_along m (argument (named s x e) more) =
        same_along to gone (named_head m s x e more)
        (then_along to gone
        (λ v now. and_then (evs (args m more) now) (λ gs. on (a_named x.text v ∷ gs)))
        (λ v now. and_then (evs more now) (λ gs. on (a_named x.text v ∷ gs)))
        (expression_along e)
        (λ v. then_along to gone (λ gs. on (a_named x.text (vw v) ∷ gs)) (λ gs. on (a_named x.text v ∷ gs)) (arguments_along m more)
        (λ gs. on_along to gone (givens_without to gone m) (a_named x.text v ∷ gs) (a_named x.text (vw v) ∷ givens_without to gone m gs) (named_given m x.text v gs))))
    arguments_along m (argument (pair s e f) more) =
        same_along to gone (pair_head m s e f more)
        (then_along to gone
        (λ v now. and_then (ev (ew f) now) (λ w after. and_then (evs (args m more) after) (λ gs. on (an_entry v w ∷ gs))))
        (λ v now. and_then (ev f now) (λ w after. and_then (evs more after) (λ gs. on (an_entry v w ∷ gs))))
        (expression_along e)
        (λ v. then_along to gone
        (λ w after. and_then (evs (args m more) after) (λ gs. on (an_entry (vw v) w ∷ gs)))
        (λ w after. and_then (evs more after) (λ gs. on (an_entry v w ∷ gs)))
        (expression_along f)
        (λ w. then_along to gone (λ gs. on (an_entry (vw v) (vw w) ∷ gs)) (λ gs. on (an_entry v w ∷ gs)) (arguments_along m more)
        (λ gs. on_along to gone (givens_without to gone m) (an_entry v w ∷ gs) (an_entry (vw v) (vw w) ∷ givens_without to gone m gs) (entry_given m v w gs)))))
