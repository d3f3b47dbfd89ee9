-- What tells of variables and of targets after strings have gone from lists.
use Rattle.meson_syntax.specs.declared.operator.Assignment.TheVariants as assignment
use Rattle.meson_calls.specs.declared.call.Role.TheVariants as role
use Rattle.meson_sources.proofs.told.Variables as tells
use Rattle.meson_sources.proofs.Words.{cons_option, All, if◌then◌else◌, is_some, option_and_then, option_map, ◌&&◌, [], ap, append-nil, ap₂, arith, Bool, false}
use Rattle.meson_sources.proofs.Words.{inl, inr, List, None, Option, refl, Some, subst, suc, sym, true, ℕ, ◌++◌, ◌+◌, ◌∙◌, ◌∷◌, ◌≡◌, a_block, a_statement}
use Rattle.meson_sources.proofs.Words.{an_expression, nth, argument, Arguments, arguments_of, array, assign, call, Expression, identifier, iteration, Listing}
use Rattle.meson_sources.proofs.Words.{listing, Name, named, no_arguments, Nowhere, pair, Plain, plain, row, Statement, string, child_nodes, is_empty, call_of}
use Rattle.meson_sources.proofs.Words.{first_literal, literal_of, parts_of_file, child, place, has_role, is_target_call, one_of, target_functions, CallRef}
use Rattle.meson_sources.proofs.Words.{by_each_child, MayStandBetween, arguments_without, but, each_without, expression_without, from_child, Gone}
use Rattle.meson_sources.proofs.Words.{statement_without, tree_without}
use Rattle.meson_sources.proofs.gone.Losses.{no_true, EachLoses, Loses, holds_none, IsExpression, children_are, fits, gone_string, nth_without, root_without}
use Rattle.meson_sources.proofs.gone.Losses.{Lost, at_child, at_itself, child_in, call_lost, gone_at, strings_lost}
use Rattle.meson_sources.proofs.gone.Marks.{FirstStays}
use Rattle.meson_sources.proofs.gone.Places.{Fits, any_without, children_left, each_child}
use Rattle.meson_sources.proofs.gone.Spots.{but_none}
use Rattle.meson_sources.proofs.met.Ways.{node_level}
use Rattle.meson_sources.proofs.told.Targets.{a_target, call_by, first_plain, SameNames, a_variable, call_tells, first_is, in_all, in_any, node_tells, own}
use Rattle.meson_sources.proofs.told.Targets.{tell_call}
use Rattle.meson_sources.proofs.told.Variables.{children_alike, matters, told, node_told, of_any, of_children}
use Rattle.meson_sources.proofs.trees.Elements.{root, Node}
use Rattle.meson_sources.proofs.trees.Scenes.{NodeIn, SameTells, file_tells}

-- ==== What the call of a target tells stays the same after strings have gone from lists: its function, and its first argument if that is a literal.

no_literal : (e : Expression Nowhere) → holds_none e ≡ true → literal_of e ≡ None
no_literal (string t q x) is = absurd cc
no_literal _ is = refl

module _ (gone : CallRef → ℕ → Bool) where
  literal_left : (c : CallRef) (e now : Expression Nowhere) → Loses gone c e now → literal_of now ≡ literal_of e
  literal_left c (string t q x) now l = ap literal_of l
  literal_left c (identifier t x) now l = ap literal_of l
  literal_left c (array l) now loses = ap literal_of loses.1
  literal_left c (call t f l) now loses = ap literal_of loses.2
  literal_left c (row t e os) now loses = ap literal_of loses.2
  literal_left c _ now loses = no_literal now loses

  pub own_left : (c : CallRef) (k : ℕ) (f : List ℕ) (xs ys : Arguments Nowhere) → FirstStays gone c k xs → EachLoses gone c k xs ys → call_by f (first_plain ys) ≡ call_by f (first_plain xs)
  own_left c k f no_arguments ys first l = ap (λ z. call_by f (first_plain z)) l
  own_left c k f (argument a more) ys first (inl l) =
      let stays = subst (λ z. FirstStays gone c k (argument z more)) l.1.is_string first in
      let both : true ≡ false = sym l.0 ∙ stays in absurd cc
  own_left c k f (argument (plain e) more) ys first (inr l) =
      ap (λ z. call_by f (first_plain z)) (l.3 ∙ ap (λ b. argument b l.2) l.4.1) ∙ ap (λ t. if one_of target_functions f && true then Some (a_target f t) else None) (literal_left (child c k) e l.4.0 l.4.2)
  own_left c k f (argument (named t x e) more) ys first (inr l) = ap (λ z. call_by f (first_plain z)) (l.3 ∙ ap (λ b. argument b l.2) l.4.2) ∙ own_left c (k + 1) f more l.2 first l.5
  own_left c k f (argument (pair t e g) more) ys first (inr l) = ap (λ z. call_by f (first_plain z)) (l.3 ∙ ap (λ b. argument b l.2) l.4.2) ∙ own_left c (k + 1) f more l.2 first l.5

  pub first_literal_left : (c : CallRef) (k : ℕ) (xs ys : Arguments Nowhere) → FirstStays gone c k xs → EachLoses gone c k xs ys → option_and_then literal_of (first_plain ys) ≡ option_and_then literal_of (first_plain xs)
  first_literal_left c k no_arguments ys first l = ap (λ z. option_and_then literal_of (first_plain z)) l
  first_literal_left c k (argument a more) ys first (inl l) =
      let stays = subst (λ z. FirstStays gone c k (argument z more)) l.1.is_string first in
      let both : true ≡ false = sym l.0 ∙ stays in absurd cc
  first_literal_left c k (argument (plain e) more) ys first (inr l) =
      ap (λ z. option_and_then literal_of (first_plain z)) (l.3 ∙ ap (λ b. argument b l.2) l.4.1) ∙ literal_left (child c k) e l.4.0 l.4.2
  first_literal_left c k (argument (named t x e) more) ys first (inr l) = ap (λ z. option_and_then literal_of (first_plain z)) (l.3 ∙ ap (λ b. argument b l.2) l.4.2) ∙ first_literal_left c (k + 1) more l.2 first l.5
  first_literal_left c k (argument (pair t e g) more) ys first (inr l) = ap (λ z. option_and_then literal_of (first_plain z)) (l.3 ∙ ap (λ b. argument b l.2) l.4.2) ∙ first_literal_left c (k + 1) more l.2 first l.5

-- ==== What the parts of trees tell of variables and of targets stays when strings go from lists of sources.

-- ---- the first argument without a name

-- whether it has this number, counted from k on
abbrev pub FirstIs : ℕ → ℕ → Arguments Nowhere → Type 0
FirstIs k n no_arguments = ⊥
FirstIs k n (argument (plain e) more) = n ≡ k
FirstIs k n (argument (named t x e) more) = FirstIs (k + 1) n more
FirstIs k n (argument (pair t e f) more) = FirstIs (k + 1) n more

pub first_stays : (gone : CallRef → ℕ → Bool) (c : CallRef) (xs : Arguments Nowhere) (k : ℕ) → ((n : ℕ) → FirstIs k n xs → gone c n ≡ false) → FirstStays gone c k xs
first_stays gone c no_arguments k stays = tt
first_stays gone c (argument (plain e) more) k stays = stays k refl
first_stays gone c (argument (named t x e) more) k stays = first_stays gone c more (k + 1) stays
first_stays gone c (argument (pair t e f) more) k stays = first_stays gone c more (k + 1) stays

abbrev pub IsFirstOf : ℕ → Listing Nowhere → Type 0
IsFirstOf n (listing r trailing list) = FirstIs 0 n list

-- ---- lists from which an element may go

-- It is the list of an array, or of a call that tells nothing of variables, and the element is not the first argument of a target.
abbrev pub MayGo : Node → ℕ → Type 0
MayGo (an_expression (array l)) n = Unit {0}
MayGo (an_expression (call s f l)) n = (matters f.text ≡ false) × (one_of target_functions f.text ≡ true → IsFirstOf n l → ⊥)
MayGo _ n = ⊥

module _ (trees : List Plain) (stand : All MayStandBetween trees) (gone : CallRef → ℕ → Bool) (lost : (c : CallRef) (n : ℕ) → gone c n ≡ true → (y : Node) → NodeIn trees c y → Lost y n)
    (may : (c : CallRef) (n : ℕ) → gone c n ≡ true → (y : Node) → NodeIn trees c y → MayGo y n) where
  abbrev at : CallRef → Gone
  at = gone_at gone

  module _ (s : Nowhere) (f : Name Nowhere) (r : Nowhere) (z : Bool) (list : Arguments Nowhere) (c : CallRef) (h : NodeIn trees c (an_expression (call s f (listing r z list)))) where
    abbrev left : Arguments Nowhere
    left = arguments_of (but (at c []) (arguments_without (at c) 0 list))

    each : EachLoses gone c 0 list left
    each = call_lost trees gone lost s f r z list c (node_level trees stand c (call s f (listing r z list)) h) h

    call_names : call_by f.text (first_plain left) ≡ call_by f.text (first_plain list)
    call_names = go (one_of target_functions f.text) refl
      where
        go : (b : Bool) → one_of target_functions f.text ≡ b → call_by f.text (first_plain left) ≡ call_by f.text (first_plain list)
        go true yea = own_left gone c 0 f.text list left (first_stays gone c list 0 (λ n first. no_true (gone c n) (λ is. (may c n is _ h).1 yea first))) each
        go false nay =
            ap (λ b. if b && is_some (first_plain left) then Some (a_target f.text (option_and_then literal_of (first_plain left))) else None) nay
            ∙ sym (ap (λ b. if b && is_some (first_plain list) then Some (a_target f.text (option_and_then literal_of (first_plain list))) else None) nay)

    call_owns : tells.tell_call c.file (call_of (expression_without (at c) (call s f (listing r z list)))) ≡ tells.tell_call c.file (call_of (call s f (listing r z list)))
    call_owns = go (matters f.text) refl
      where
        go : (b : Bool) → matters f.text ≡ b → tells.tell_call c.file (call_of (expression_without (at c) (call s f (listing r z list)))) ≡ tells.tell_call c.file (call_of (call s f (listing r z list)))
        go true yea =
            let stays : FirstStays gone c 0 list = first_stays gone c list 0 (λ n first. no_true (gone c n) (λ is. let none = sym yea ∙ (may c n is _ h).0 in cc)) in
            ap (λ l. if matters f.text then Some (tells.a_call c.file f.text l) else None)
            (ap (option_and_then literal_of) (first_is 0 left) ∙ first_literal_left gone c 0 list left stays each ∙ sym (ap (option_and_then literal_of) (first_is 0 list)))
        go false nay =
            ap (λ b. if b then Some (tells.a_call c.file f.text (first_literal (record { function = f.text; arguments = listing r (if is_empty (but (at c []) (arguments_without (at c) 0 list)) then false else z) left }))) else None) nay
            ∙ sym (ap (λ b. if b then Some (tells.a_call c.file f.text (first_literal (record { function = f.text; arguments = listing r z list }))) else None) nay)

  -- a string tells nothing
  gone_tells : (c : CallRef) (x y : Node) (n : ℕ) → NodeIn trees c x → nth (child_nodes x) n ≡ Some y → at c [] n ≡ true → (in_any y ≡ []) × ((p : CallRef) → of_any p y ≡ [])
  gone_tells c x y n h is goes =
      let w = gone_string trees stand gone (strings_lost trees gone lost) c x y n h is (sym (at_itself gone c n) ∙ goes) in
      (ap in_any w.2, λ p. ap (of_any p) w.2)

  -- ---- of targets

  all_left : (f : ℕ → Bool) (g : Gone) (n : ℕ) (xs : List Node) → ((j : ℕ) (y : Node) → nth xs j ≡ Some y → f j ≡ true → in_any y ≡ []) → ((j : ℕ) (y : Node) → nth xs j ≡ Some y → in_any (any_without (from_child (n + j) g) y) ≡ in_any y)
      → in_all (but f (each_child g n xs)) ≡ in_all xs
  all_left f g n [] none same = refl
  all_left f g n (x ∷ xs) none same =
      let z : n + 0 ≡ n = omega arith in
      let rest = all_left (λ j. f (suc j)) g (suc n) xs (λ j. none (suc j)) (λ j y is. let k : n + suc j ≡ suc n + j = omega arith in sym (ap (λ i. in_any (any_without (from_child i g) y)) k) ∙ same (suc j) y is) in
      go (f 0) refl rest (sym (ap (λ i. in_any (any_without (from_child i g) x)) z) ∙ same 0 x refl)
    where
      go : (b : Bool) → f 0 ≡ b → in_all (but (λ j. f (suc j)) (each_child g (suc n) xs)) ≡ in_all xs → in_any (any_without (from_child n g) x) ≡ in_any x
          → in_all (if b then but (λ j. f (suc j)) (each_child g (suc n) xs) else any_without (from_child n g) x ∷ but (λ j. f (suc j)) (each_child g (suc n) xs)) ≡ in_any x ++ in_all xs
      go true is rest here = rest ∙ ap (λ l. l ++ in_all xs) (sym (none 0 x refl is))
      go false is rest here = ap₂ (λ l m. l ++ m) here rest

  abbrev NamesSame : CallRef → Node → Type 0
  NamesSame c x = NodeIn trees c x → (in_any (any_without (at c) x) ≡ in_any x) × (own (any_without (at c) x) ≡ own x)

  child_names : (c : CallRef) (n : ℕ) (y : Node) → (in_any (any_without (at (child c n)) y) ≡ in_any y) × (own (any_without (at (child c n)) y) ≡ own y) → (in_any (any_without (from_child n (at c)) y) ≡ in_any y) × (own (any_without (from_child n (at c)) y) ≡ own y)
  child_names c n y same = subst (λ g. (in_any (any_without g y) ≡ in_any y) × (own (any_without g y) ≡ own y)) (sym (at_child gone c n)) same

  -- whether it is a target's call is seen of what it tells
  target_told : (e : Expression Nowhere) → is_target_call (Some e) ≡ is_some (tell_call (call_of e))
  target_told (call s f l) = go (has_role role.Target (record { function = f.text; arguments = l }))
    where
      go : (b : Bool) → b ≡ is_some (if b then Some (a_target f.text (first_literal (record { function = f.text; arguments = l }))) else None)
      go true = refl
      go false = refl
  target_told _ = refl

  own_names : (c : CallRef) (x : Node) → NodeIn trees c x → ((n : ℕ) (y : Node) → nth (child_nodes x) n ≡ Some y → own (any_without (from_child n (at c)) y) ≡ own y) → own (any_without (at c) x) ≡ own x
  own_names c (an_expression (call s f (listing r z list))) h children =
      call_tells f.text r (if is_empty (but (at c []) (arguments_without (at c) 0 list)) then false else z) (left s f r z list c h) ∙ call_names s f r z list c h ∙ sym (call_tells f.text r z list)
  own_names c (an_expression _) h children = refl
  own_names c (a_statement (assign s x assignment.Set e)) h children =
      ap (λ b. if b then Some (a_variable x.text) else None) (target_told (expression_without (from_child 0 (at c)) e) ∙ ap is_some (children 0 (an_expression e) refl) ∙ sym (target_told e))
  own_names c (a_statement _) h children = refl
  own_names c (a_block b) h children = refl

  names_step : (c : CallRef) (x : Node) → ((n : ℕ) (y : Node) → nth (child_nodes x) n ≡ Some y → NamesSame (child c n) y) → NamesSame c x
  names_step c x children h =
      let same : (n : ℕ) (y : Node) → nth (child_nodes x) n ≡ Some y → (in_any (any_without (from_child n (at c)) y) ≡ in_any y) × (own (any_without (from_child n (at c)) y) ≡ own y) =
      λ n y is. child_names c n y (children n y is (child_in trees c x y n h is)) in
      let owns = own_names c x h (λ n y is. (same n y is).1) in
      let all = all_left (at c []) (at c) 0 (child_nodes x) (λ j y is goes. (gone_tells c x y j h is goes).0) (λ j y is. let z : 0 + j ≡ j = omega arith in ap (λ i. in_any (any_without (from_child i (at c)) y)) z ∙ (same j y is).0) in
      (node_tells (any_without (at c) x) ∙ ap₂ cons_option owns (ap in_all (children_left (at c) x (fits trees stand gone (strings_lost trees gone lost) c x h)) ∙ all) ∙ sym (node_tells x), owns)

  pub names_kept : (c : CallRef) (x : Node) → NodeIn trees c x → in_any (any_without (at c) x) ≡ in_any x
  names_kept c x h = (by_each_child child NamesSame names_step c x h).0

  -- ---- of variables

  expression_alike : (p : CallRef) (n m : ℕ) (e : Expression Nowhere) → of_any (child p n) (an_expression e) ≡ of_any (child p m) (an_expression e)
  expression_alike p n m e = sym (append-nil _) ∙ children_alike p n m (argument (plain e) no_arguments) ∙ append-nil _

  -- what is told of a child stays
  abbrev ChildTold : CallRef → Gone → ℕ → Node → Type 0
  ChildTold c g n y = of_any (child c n) (any_without (from_child n g) y) ≡ of_any (child c n) y

  abbrev EachTold : CallRef → Gone → ℕ → List Node → Type 0
  EachTold c g n xs = (j : ℕ) (y : Node) → nth xs j ≡ Some y → ChildTold c g (n + j) y

  first_told : (c : CallRef) (g : Gone) (n : ℕ) (x : Node) (xs : List Node) → EachTold c g n (x ∷ xs) → ChildTold c g n x
  first_told c g n x xs same = let z : n + 0 ≡ n = omega arith in subst (λ k. ChildTold c g k x) z (same 0 x refl)

  more_told : (c : CallRef) (g : Gone) (n : ℕ) (x : Node) (xs : List Node) → EachTold c g n (x ∷ xs) → EachTold c g (suc n) xs
  more_told c g n x xs same j y is = let k : n + suc j ≡ suc n + j = omega arith in subst (λ k. ChildTold c g k y) k (same (suc j) y is)

  each_told : (c : CallRef) (g : Gone) (n m : ℕ) → n ≡ m → (xs : List Node) → EachTold c g n xs → of_children c m (each_child g n xs) ≡ of_children c m xs
  each_told c g n m is [] same = refl
  each_told c g n m is (x ∷ xs) same =
      ap₂ (λ l k. l ++ k) (subst (λ k. of_any (child c k) (any_without (from_child n g) x) ≡ of_any (child c k) x) is (first_told c g n x xs same))
      (each_told c g (suc n) (m + 1) (omega (arith, is)) xs (more_told c g n x xs same))

  -- of the children of a list wherever they stand then
  list_told : (c : CallRef) (g : Gone) (f : ℕ → Bool) (n m k : ℕ) → n ≡ k → (xs : List Node) → ((j : ℕ) (y : Node) → nth xs j ≡ Some y → IsExpression y) → ((j : ℕ) (y : Node) → nth xs j ≡ Some y → f j ≡ true → (p : CallRef) → of_any p y ≡ []) → EachTold c g n xs
      → of_children c m (but f (each_child g n xs)) ≡ of_children c k xs
  list_told c g f n m k is [] are none same = refl
  list_told c g f n m k is (x ∷ xs) are none same =
      go (f 0) refl (λ i. list_told c g (λ j. f (suc j)) (suc n) i (k + 1) (omega (arith, is)) xs (λ j. are (suc j)) (λ j. none (suc j)) (more_told c g n x xs same))
    where
      here : of_any (child c m) (any_without (from_child n g) x) ≡ of_any (child c k) x
      here =
          let e = are 0 x refl in
          ap (λ y. of_any (child c m) (any_without (from_child n g) y)) e.1 ∙ expression_alike c m n (expression_without (from_child n g) e.0)
          ∙ sym (ap (λ y. of_any (child c n) (any_without (from_child n g) y)) e.1) ∙ first_told c g n x xs same ∙ ap (λ i. of_any (child c i) x) is

      go : (b : Bool) → f 0 ≡ b → ((i : ℕ) → of_children c i (but (λ j. f (suc j)) (each_child g (suc n) xs)) ≡ of_children c (k + 1) xs)
          → of_children c m (if b then but (λ j. f (suc j)) (each_child g (suc n) xs) else any_without (from_child n g) x ∷ but (λ j. f (suc j)) (each_child g (suc n) xs)) ≡ of_any (child c k) x ++ of_children c (k + 1) xs
      go true gone_here rest = rest m ∙ ap (λ l. l ++ of_children c (k + 1) xs) (sym (none 0 x refl gone_here (child c k)))
      go false stays rest = ap₂ (λ l z. l ++ z) here (rest (m + 1))

  abbrev Tells : CallRef → Node → Type 0
  Tells c x = NodeIn trees c x → of_any c (any_without (at c) x) ≡ of_any c x

  own_told : (c : CallRef) (x : Node) → NodeIn trees c x → tells.own c (any_without (at c) x) ≡ tells.own c x
  own_told c (an_expression (call s f (listing r z list))) h = call_owns s f r z list c h
  own_told c (an_expression _) h = refl
  own_told c (a_statement s) h = refl_statement s
    where
      refl_statement : (s : Statement Nowhere) → tells.tell_statement c (statement_without (at c) s) ≡ tells.tell_statement c s
      refl_statement (assign s x a e) = refl
      refl_statement (iteration s xs e b) = refl
      refl_statement _ = refl
  own_told c (a_block b) h = refl

  told_step : (c : CallRef) (x : Node) → ((n : ℕ) (y : Node) → nth (child_nodes x) n ≡ Some y → Tells (child c n) y) → Tells c x
  told_step c x children h = node_told c (any_without (at c) x) ∙ ap₂ cons_option (own_told c x h) (by_fits (fits trees stand gone (strings_lost trees gone lost) c x h)) ∙ sym (node_told c x)
    where
      same : EachTold c (at c) 0 (child_nodes x)
      same j y is =
          let z : j ≡ 0 + j = omega arith in
          subst (λ k. ChildTold c (at c) k y) z (subst (λ g. of_any (child c j) (any_without g y) ≡ of_any (child c j) y) (sym (at_child gone c j)) (children j y is (child_in trees c x y j h is)))

      by_fits : Fits (at c) x → of_children c 0 (child_nodes (any_without (at c) x)) ≡ of_children c 0 (child_nodes x)
      by_fits (inl none) =
          ap (of_children c 0) (children_left (at c) x (inl none) ∙ but_none (at c []) none (each_child (at c) 0 (child_nodes x))) ∙ each_told c (at c) 0 0 refl (child_nodes x) same
      by_fits (inr w) =
          ap (of_children c 0) (children_left (at c) x (inr w))
          ∙ list_told c (at c) (at c []) 0 0 0 refl (child_nodes x) (children_are x w.0 w.1 w.2) (λ j y is goes. (gone_tells c x y j h is goes).1) same

  pub told_kept : (c : CallRef) (x : Node) → NodeIn trees c x → of_any c (any_without (at c) x) ≡ of_any c x
  told_kept c x h = by_each_child child Tells told_step c x h

  -- ---- of all files

  abbrev after : List Plain
  after = each_without (λ i path k. gone (place i path) k) trees

  whole : (i : ℕ) (t : Plain) → nth trees i ≡ Some t → NodeIn trees (place i []) (root t)
  whole i t is = record { tree = t; is_tree = is; is_node = refl }

  pub tells_left : (i : ℕ) → SameTells (0 + i) (nth trees i) (nth after i)
  tells_left i = subst (λ o. SameTells (0 + i) (nth trees i) o) (sym (nth_without (λ i path k. gone (place i path) k) trees i)) (go (nth trees i) refl)
    where
      go : (o : Option Plain) → nth trees i ≡ o → SameTells (0 + i) o (option_map (tree_without (λ path k. gone (place i path) k)) o)
      go None is = tt
      go (Some t) is =
          let now = tree_without (λ path k. gone (place i path) k) t in
          let z : i ≡ 0 + i = omega arith in
          subst (λ k. told (parts_of_file k now) ≡ told (parts_of_file k t)) z
          (file_tells i now ∙ ap (of_any (place i [])) (root_without (λ path k. gone (place i path) k) t) ∙ told_kept (place i []) (root t) (whole i t is) ∙ sym (file_tells i t))

  pub names_left : (i : ℕ) → SameNames (nth trees i) (nth after i)
  names_left i = subst (λ o. SameNames (nth trees i) o) (sym (nth_without (λ i path k. gone (place i path) k) trees i)) (go (nth trees i) refl)
    where
      go : (o : Option Plain) → nth trees i ≡ o → SameNames o (option_map (tree_without (λ path k. gone (place i path) k)) o)
      go None is = tt
      go (Some t) is = ap in_any (root_without (λ path k. gone (place i path) k) t) ∙ names_kept (place i []) (root t) (whole i t is)
