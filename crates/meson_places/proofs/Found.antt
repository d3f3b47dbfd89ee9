-- What a search for a call finds is at its place, and no other call has the name.
use Rattle.std.proofs.Common.{◌≡◌, ℕ, zero, suc, ◌<◌, List, [], ◌∷◌, length, get_or, Some, None, Option, Result, Ok, Err, refl, sym, ap, ◌∙◌, subst, inl, inr, arith}
use Rattle.std.specs.Prelude.{Bool, true, false, ◌⊎◌, ◌&&◌, not, filter, bytes_eq, if◌then◌else◌, option_map}
use Rattle.std.specs.List.{Contains, cons_option, filter_map}
use Rattle.std.proofs.lemmas.Slice.Eq.{bytes_eq-Decides}
use Rattle.meson_lex.specs.declared.kinds.Span.{Span}
use Rattle.meson_splice.specs.Patch.{then_ok}
use Rattle.meson_syntax.specs.Tree.{Expression, Statement, evaluate, assign, selection, iteration, breaks, continues}
use Rattle.meson_syntax.proofs.parsing.Steps.{some-injective}
use Rattle.meson_syntax.proofs.paths.Every.{Every}
use Rattle.meson_calls.specs.declared.call.CallRef.{CallRef}
use Rattle.meson_calls.specs.Calls.{Call, call_of, part_call, all_chosen, calls, first_literal}
use Rattle.meson_calls.specs.Calls as literals
use Rattle.meson_calls.specs.declared.refusal.Refusal.{Refusal}
use Rattle.meson_calls.specs.Finding.{only_one}
use Rattle.meson_calls.specs.Loading.{project}
use Rattle.meson_calls.specs.Notes.{Note, a_call, an_assignment, a_loop, note_of, noted, notes, is_set}
use Rattle.meson_calls.specs.Parts.{Part, parts}
use Rattle.meson_calls.specs.Parts as part
use Rattle.meson_calls.specs.Project.{Project, Placed, child, expression_at, placed}
use Rattle.meson_calls.proofs.CallsReached.{InProject, every_chosen, every_part}
use Rattle.meson_calls.proofs.ExpressionsAt.{assigned_stands, expression_stands}
use Rattle.meson_steps.specs.declared.argument.Callee.{Callee}
use Rattle.meson_steps.specs.declared.argument.PlaceName.TheVariants as name
use Rattle.meson_places.specs.Laws.{FindsOneCall, IsNamedCall, IsOnlyCall, IsSetTo}
use Rattle.meson_places.specs.Names.{calls_callee, calls_other, found_within, is_searched, named_place, places_by_id, searched, searched_file}

-- ---- elements of lists

abbrev pub Among : {X : Type 0} → List X → X → Type 0
Among [] x = ⊥
Among (y ∷ ys) x = (y ≡ x) ⊎ Among ys x

pub among : {X : Type 0} (xs : List X) (x : X) (k : ℕ) → k < length xs → get_or xs k x ≡ x → Among xs x
among [] x k within at_k = absurd (omega (arith, within))
among (y ∷ ys) x zero within at_k = inl at_k
among (y ∷ ys) x (suc k) within at_k = let below : k < length ys = omega (arith, within) in inr (among ys x k below at_k)

pub contained : {X : Type 0} (xs : List X) (x : X) → Among xs x → Contains xs x
contained [] x m = absurd m
contained (y ∷ ys) x (inl same) = (0, omega arith, same)
contained (y ∷ ys) x (inr m) = let c = contained ys x m in let within : suc c.0 < suc (length ys) = omega (arith, c.1) in (suc c.0, within, c.2)

pub given : {X Y : Type 0} (f : X → Option Y) (xs : List X) (x : X) (y : Y) → Among xs x → f x ≡ Some y → Among (filter_map f xs) y
given f [] x y m gives = absurd m
given {X} {Y} f (z ∷ zs) x y (inl same) gives = first (f z) (ap f same ∙ gives)
  where
    first : (o : Option Y) → o ≡ Some y → Among (cons_option o (filter_map f zs)) y
    first None e = absurd (let no : ⊥ = cc in no)
    first (Some w) e = inl (some-injective w y e)
given {X} {Y} f (z ∷ zs) x y (inr m) gives = later (f z) (given f zs x y m gives)
  where
    later : (o : Option Y) → Among (filter_map f zs) y → Among (cons_option o (filter_map f zs)) y
    later None n = n
    later (Some w) n = inr n

-- what is among the values that a function gives is the value of one of the elements
pub record IsGiven {X Y : Type 0} (f : X → Option Y) (xs : List X) (y : Y) : Type 0 where
  pub of : X
  pub is_among : Among xs of
  pub gives : f of ≡ Some y

pub given_by : {X Y : Type 0} (f : X → Option Y) (xs : List X) (y : Y) → Among (filter_map f xs) y → IsGiven f xs y
given_by f [] y m = absurd m
given_by {X} {Y} f (x ∷ xs) y m = go (f x) refl (given_by f xs y) m
  where
    later : IsGiven f xs y → IsGiven f (x ∷ xs) y
    later g = record { of = g.of; is_among = inr g.is_among; gives = g.gives }

    go : (o : Option Y) → f x ≡ o → (Among (filter_map f xs) y → IsGiven f xs y) → Among (cons_option o (filter_map f xs)) y → IsGiven f (x ∷ xs) y
    go None is rest n = later (rest n)
    go (Some w) is rest (inl same) = record { of = x; is_among = inl refl; gives = is ∙ ap Some same }
    go (Some w) is rest (inr n) = later (rest n)

pub kept : {X : Type 0} (test : X → Bool) (xs : List X) (x : X) → Among xs x → test x ≡ true → Among (filter test xs) x
kept test [] x m holds = absurd m
kept {X} test (y ∷ ys) x (inl same) holds = go (test y) (ap test same ∙ holds)
  where
    go : (b : Bool) → b ≡ true → Among (if b then y ∷ filter test ys else filter test ys) x
    go true h = inl same
    go false h = absurd (let no : ⊥ = cc in no)
kept {X} test (y ∷ ys) x (inr m) holds = go (test y) (kept test ys x m holds)
  where
    go : (b : Bool) → Among (filter test ys) x → Among (if b then y ∷ filter test ys else filter test ys) x
    go true n = inr n
    go false n = n

pub kept_by : {X : Type 0} (test : X → Bool) (xs : List X) (x : X) → Among (filter test xs) x → (test x ≡ true) × Among xs x
kept_by test [] x m = absurd m
kept_by {X} test (y ∷ ys) x m = go (test y) refl (kept_by test ys x) m
  where
    later : (test x ≡ true) × Among ys x → (test x ≡ true) × Among (y ∷ ys) x
    later k = (k.0, inr k.1)

    go : (b : Bool) → test y ≡ b → (Among (filter test ys) x → (test x ≡ true) × Among ys x) → Among (if b then y ∷ filter test ys else filter test ys) x → (test x ≡ true) × Among (y ∷ ys) x
    go true is rest (inl same) = (sym (ap test same) ∙ is, inl same)
    go true is rest (inr n) = later (rest n)
    go false is rest n = later (rest n)

pub every_among : {X : Type 0} (P : X → Type 0) (xs : List X) (x : X) → Every P xs → Among xs x → P x
every_among P [] x every m = absurd m
every_among P (y ∷ ys) x every (inl same) = subst P same every.0
every_among P (y ∷ ys) x every (inr m) = every_among P ys x every.1 m

-- ---- what notes say is at their places

abbrev NoteThere : Project Span → Placed (Note Span) → Type 0
NoteThere p m = elim m.it [
  | a_call c ↦ (e : Expression Span) × (expression_at p m.place ≡ Some e) × (call_of e ≡ Some c)
  | an_assignment x sets e ↦ expression_at p (child m.place 0) ≡ Some e
  | a_loop xs ↦ Unit {0}
]

call_there : (p : Project Span) (q : Placed (Part Span)) (e : Expression Span) → InProject 0 p q → q.it ≡ part.an_expression e → (m : Note Span) → option_map a_call (call_of e) ≡ Some m → NoteThere p (placed q.place m)
call_there p q e i same m is = go (call_of e) refl is
  where
    go : (o : Option (Call Span)) → call_of e ≡ o → option_map a_call o ≡ Some m → NoteThere p (placed q.place m)
    go None h k = absurd (let no : ⊥ = cc in no)
    go (Some c) h k = subst (λ n. NoteThere p (placed q.place n)) (some-injective (a_call c) m k) (e, expression_stands p q e i same, h)

statement_there : (p : Project Span) (q : Placed (Part Span)) (s : Statement Span) → InProject 0 p q → q.it ≡ part.a_statement s → (m : Note Span) → note_of (part.a_statement s) ≡ Some m → NoteThere p (placed q.place m)
statement_there p q (assign s x a e) i same m is = subst (λ n. NoteThere p (placed q.place n)) (some-injective (an_assignment x.text (is_set a) e) m is) (assigned_stands p q s x a e i same)
statement_there p q (iteration s xs e b) i same m is = subst (λ n. NoteThere p (placed q.place n)) (some-injective (a_loop xs) m is) tt
statement_there p q (evaluate e) i same m is = absurd (let no : ⊥ = cc in no)
statement_there p q (selection s bs o) i same m is = absurd (let no : ⊥ = cc in no)
statement_there p q (breaks s) i same m is = absurd (let no : ⊥ = cc in no)
statement_there p q (continues s) i same m is = absurd (let no : ⊥ = cc in no)

note_there : (p : Project Span) (q : Placed (Part Span)) (m : Note Span) → InProject 0 p q → note_of q.it ≡ Some m → NoteThere p (placed q.place m)
note_there p q m i is = go q.it refl is
  where
    go : (x : Part Span) → q.it ≡ x → note_of x ≡ Some m → NoteThere p (placed q.place m)
    go (part.an_expression e) same h = call_there p q e i same m h
    go (part.a_statement s) same h = statement_there p q s i same m h

every_note : (p : Project Span) → Every (NoteThere p) (notes p)
every_note p = every_chosen (InProject 0 p) (NoteThere p) note_of (λ q m i is. note_there p q m i is) (parts p) (every_part 0 p)

-- ---- a call among the parts is noted

pub call_noted : (ps : List (Placed (Part Span))) (q : Placed (Call Span)) → Among (all_chosen part_call ps) q → Among (noted ps) (placed q.place (a_call q.it))
call_noted [] q m = absurd m
call_noted (x ∷ ps) q m = go x.it (call_noted ps q) m
  where
    by_call : (o : Option (Call Span)) → (Among (all_chosen part_call ps) q → Among (noted ps) (placed q.place (a_call q.it))) → Among (cons_option (option_map (placed x.place) o) (all_chosen part_call ps)) q
        → Among (cons_option (option_map (placed x.place) (option_map a_call o)) (noted ps)) (placed q.place (a_call q.it))
    by_call None rest n = rest n
    by_call (Some c) rest (inl same) = inl (ap (λ (r : Placed (Call Span)). placed r.place (a_call r.it)) same)
    by_call (Some c) rest (inr n) = inr (rest n)

    by_note : (o : Option (Note Span)) → Among (noted ps) (placed q.place (a_call q.it)) → Among (cons_option (option_map (placed x.place) o) (noted ps)) (placed q.place (a_call q.it))
    by_note None n = n
    by_note (Some k) n = inr n

    go : (y : Part Span) → (Among (all_chosen part_call ps) q → Among (noted ps) (placed q.place (a_call q.it))) → Among (cons_option (option_map (placed x.place) (part_call y)) (all_chosen part_call ps)) q
        → Among (cons_option (option_map (placed x.place) (note_of y)) (noted ps)) (placed q.place (a_call q.it))
    go (part.an_expression e) rest n = by_call (call_of e) rest n
    go (part.a_statement s) rest n = by_note (note_of (part.a_statement s)) (rest n)

-- ---- one note

both : (a b : Bool) → (a && b) ≡ true → (a ≡ true) × (b ≡ true)
both true b h = (refl, h)
both false b h = absurd (let no : ⊥ = cc in no)

module _ (p : Project Span) (f : Callee) (id : List ℕ) where
  set_call : (e : Expression Span) (o : Option (Call Span)) → call_of e ≡ o → calls_other f id o ≡ true → (c : Call Span) × (call_of e ≡ Some c) × (calls_callee f c ≡ true)
  set_call e None is holds = absurd (let no : ⊥ = cc in no)
  set_call e (Some c) is holds = (c, is, (both (calls_callee f c) (not (literals.is id (first_literal c))) holds).0)

  named_here : (q : CallRef) (n : Note Span) → NoteThere p (placed q n) → Among (notes p) (placed q n) → (c : CallRef) → named_place (name.Call f id) (placed q n) ≡ Some c → IsNamedCall p f id c
  named_here q (a_call k) there m c gives = go (calls_callee f k) (literals.is id (first_literal k)) refl refl gives
    where
      go : (a b : Bool) → calls_callee f k ≡ a → literals.is id (first_literal k) ≡ b → (if a && b then Some q else None) ≡ Some c → IsNamedCall p f id c
      go true true one text g =
          let here : IsNamedCall p f id q = record { value = there.0; is_at = there.1; call = k; is_call = there.2; is_one = one; is_named = inl text } in
          subst (IsNamedCall p f id) (some-injective q c g) here
      go true false one text g = absurd (let no : ⊥ = cc in no)
      go false b one text g = absurd (let no : ⊥ = cc in no)
  named_here q (an_assignment x sets e) there m c gives = go sets (bytes_eq x id) (calls_other f id (call_of e)) refl refl refl gives
    where
      go : (a b d : Bool) → sets ≡ a → bytes_eq x id ≡ b → calls_other f id (call_of e) ≡ d → (if a && (b && d) then Some (child q 0) else None) ≡ Some c → IsNamedCall p f id c
      go true true true set is other g =
          let s = set_call e (call_of e) refl other in
          let same : x ≡ id = (bytes_eq-Decides x id).0 is in
          let there_is = subst (λ y. Among (notes p) (placed q (an_assignment y true e))) same (subst (λ b. Among (notes p) (placed q (an_assignment x b e))) set m) in
          let by_variable : IsSetTo p id (child q 0) = record { statement = q; value = e; is_there = contained (notes p) (placed q (an_assignment id true e)) there_is; is_place = refl } in
          let here : IsNamedCall p f id (child q 0) = record { value = e; is_at = there; call = s.0; is_call = s.1; is_one = s.2; is_named = inr by_variable } in
          subst (IsNamedCall p f id) (some-injective (child q 0) c g) here
      go true true false set is other g = absurd (let no : ⊥ = cc in no)
      go true false d set is other g = absurd (let no : ⊥ = cc in no)
      go false b d set is other g = absurd (let no : ⊥ = cc in no)
  named_here q (a_loop xs) there m c gives = absurd (let no : ⊥ = cc in no)

  call_gives : (q : Placed (Call Span)) → calls_callee f q.it ≡ true → literals.is id (first_literal q.it) ≡ true → named_place (name.Call f id) (placed q.place (a_call q.it)) ≡ Some q.place
  call_gives q one text =
      ap (λ a. if a && literals.is id (first_literal q.it) then Some q.place else None) one ∙ ap (λ b. if b then Some q.place else None) text

pub one_of : (xs : List CallRef) (c : CallRef) → only_one xs ≡ Ok c → xs ≡ c ∷ []
one_of [] c h = absurd (let no : ⊥ = cc in no)
one_of (x ∷ []) c h = let same : x ≡ c = cc in ap (λ y. y ∷ []) same
one_of (x ∷ y ∷ more) c h = absurd (let no : ⊥ = cc in no)

lone : (x y : CallRef) → Among (x ∷ []) y → y ≡ x
lone x y (inl same) = sym same
lone x y (inr none) = absurd none

pub finds_one_call : FindsOneCall
finds_one_call l s f id named c h = go (searched_file l.files s.folder) refl h
  where
    go : (r : Result (Option ℕ) Refusal) → searched_file l.files s.folder ≡ r → then_ok r (λ w. found_within l w s.name) ≡ Ok c → IsOnlyCall l s f id c
    go (Err e) is k = absurd (let no : ⊥ = cc in no)
    go (Ok within) is k =
        let p = project l in
        let all = places_by_id (name.Call f id) (notes p) in
        let g : only_one (searched within all) ≡ Ok c = sym (ap (found_within l within) named) ∙ k in
        let alone = one_of (searched within all) c g in
        let is_kept = kept_by (is_searched within) all c (subst (λ xs. Among xs c) (sym alone) (inl refl)) in
        let by = given_by (named_place (name.Call f id)) (notes p) c is_kept.1 in
        record {
          within = within;
          is_within = is;
          in_files = is_kept.0;
          found = named_here p f id by.of.place by.of.it (every_among (NoteThere p) (notes p) by.of (every_note p) by.is_among) by.is_among c by.gives;
          only = λ q contains searched_too one text.
              let noted_too = call_noted (parts p) q (among (calls p) q contains.0 contains.1 contains.2) in
              let found_too = given (named_place (name.Call f id)) (notes p) (placed q.place (a_call q.it)) q.place noted_too (call_gives p f id q one text) in
              lone c q.place (subst (λ xs. Among xs q.place) alone (kept (is_searched within) all q.place found_too searched_too));
        }
