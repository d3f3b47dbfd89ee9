-- What is met in the arguments of a call.
use Rattle.meson_syntax.specs.declared.operator.Bracket.TheVariants as bracket
use Rattle.meson_sources.proofs.Words.{cons_option, filter_map, bytes_eq, if◌then◌else◌, Ok, option_map, ◌⊎◌, [], ap, arith, Bool, false, inl, inr, length}
use Rattle.meson_sources.proofs.Words.{List, map, None, refl, Some, subst, suc, sym, true, zero, ℕ, ◌++◌, ◌+◌, ◌∙◌, ◌∷◌, ◌≡◌, ◌≤◌, an_expression, Any}
use Rattle.meson_sources.proofs.Words.{arguments_parts, LevelArguments, LevelExpression, holds_pairs, Argument, argument, Arguments, arguments_of, bare_name}
use Rattle.meson_sources.proofs.Words.{erase_arguments, Expression, Name, named, no_arguments, Nowhere, pair, plain, Bracket, kept_number, Numbered, numbered}
use Rattle.meson_sources.proofs.Words.{value_with_name, value_without_name, once, rest, sources_key, child, CallRef, both_expanded, Expansion, fixed, in_list}
use Rattle.meson_sources.proofs.Words.{nothing_met, Slot, Stand, list_of_slot, Differ, strings, extra_key}
use Rattle.meson_sources.proofs.met.Outcomes.{Outcome, Along, joined, nothing_both, still, along_same, along_first, along_behind}
use Rattle.meson_sources.proofs.trees.Places.{below, below_child}
use Rattle.meson_sources.proofs.trees.Shapes.{Becomes, differ_none, differ_here, differ_there}
use Rattle.meson_sources.proofs.trees.Skeletons.{blanks, same_arguments, blank}

-- ==== The arguments of a call that hold sources, in two projects where one argument may have become another.

abbrev pub Expand : Type 0
Expand = Expression Nowhere → Stand → List (List ℕ) → Expansion Nowhere

-- what numbered expressions hold, one after another
abbrev pub list_with : Expand → CallRef → (ℕ → Slot) → List (Numbered (Expression Nowhere)) → List (List ℕ) → Expansion Nowhere
list_with expand c slot [] f = nothing_met f
list_with expand c slot (a ∷ more) f =
    let first = expand a.value (record { place = child c a.number; slot = slot a.number; variable = None }) f in
    both_expanded first (list_with expand c slot more first.followed)

abbrev pub plains : {S : Type 0} → ℕ → Arguments S → List (Numbered (Expression S))
plains k xs = filter_map (kept_number value_without_name) (numbered k xs)

abbrev pub keyed : {S : Type 0} → List ℕ → ℕ → Arguments S → List (Numbered (Expression S))
keyed key k xs = filter_map (kept_number (value_with_name key)) (numbered k xs)

abbrev pub keys : {S : Type 0} → ℕ → Arguments S → List (Numbered (Expression S))
keys k xs = keyed sources_key k xs

-- those behind the first, or all
abbrev pub but_first : {X : Type 0} → Bool → List X → List X
but_first true xs = rest xs
but_first false xs = xs

-- the sources of a call with these arguments
abbrev pub whole : Expand → CallRef → Arguments Nowhere → List (List ℕ) → Expansion Nowhere
whole expand c xs f =
    let first = list_with expand c (in_list c) (rest (plains 0 xs)) f in both_expanded first (list_with expand c (λ n. fixed) (keys 0 xs) first.followed)

module _ (new : List (List ℕ)) (bad : CallRef → Type 0) (seen : List (List ℕ) → Bool) (away : CallRef → Type 0) (older newer : Any Nowhere) (t : CallRef) (b : Bool) (one two : Expand)
    (same : (e : Expression Nowhere) (s u : Stand) (f g : List (List ℕ)) → g ≡ f → away s.place → ((q : CallRef) → list_of_slot s.slot ≡ Some q → bad q → ⊥) → Outcome new bad seen f (one e s f) (two e u g)) (c : CallRef) where
  abbrev Out : List (List ℕ) → Expansion Nowhere → Expansion Nowhere → Type 0
  Out = Outcome new bad seen

  abbrev AwayFrom : ℕ → Type 0
  AwayFrom n = (k : ℕ) → n ≤ k → away (child c k)

  -- ---- arguments that are the same in both

  slot_fine : (n : ℕ) → (bad c → ⊥) → (q : CallRef) → list_of_slot (in_list c n) ≡ Some q → bad q → ⊥
  slot_fine n fine q is z = let equal : c ≡ q = cc in fine (rw equal z)

  plains_same : (some : Bool) (xs : Arguments Nowhere) (k m : ℕ) → (bad c → ⊥) → AwayFrom k → (f g : List (List ℕ)) → g ≡ f
      → Out f (list_with one c (in_list c) (but_first some (plains k xs)) f) (list_with two c (in_list c) (but_first some (plains m xs)) g)
  plains_same true no_arguments k m fine all f g equal = nothing_both new bad seen f g equal
  plains_same false no_arguments k m fine all f g equal = nothing_both new bad seen f g equal
  plains_same true (argument (plain e) more) k m fine all f g equal = plains_same false more (k + 1) (m + 1) fine (λ j le. all j (omega (arith, le))) f g equal
  plains_same false (argument (plain e) more) k m fine all f g equal =
      let o = same e (record { place = child c k; slot = in_list c k; variable = None }) (record { place = child c m; slot = in_list c m; variable = None }) f g equal (all k (omega arith)) (slot_fine k fine) in
      joined new bad seen f _ _ _ _ o (plains_same false more (k + 1) (m + 1) fine (λ j le. all j (omega (arith, le))) _ _ o.followed)
  plains_same some (argument (named s x e) more) k m fine all f g equal = plains_same some more (k + 1) (m + 1) fine (λ j le. all j (omega (arith, le))) f g equal
  plains_same some (argument (pair s e d) more) k m fine all f g equal = plains_same some more (k + 1) (m + 1) fine (λ j le. all j (omega (arith, le))) f g equal

  -- with one more argument of the key, or without
  abbrev with_key : Expand → ℕ → Bool → Expression Nowhere → List (Numbered (Expression Nowhere)) → List (List ℕ) → Expansion Nowhere
  with_key expand k z e more f = list_with expand c (λ n. fixed) (cons_option (option_map (λ y. record { number = k; value = y }) (if z then Some e else None)) more) f

  abbrev KeysOut : List (Numbered (Expression Nowhere)) → List (Numbered (Expression Nowhere)) → Type 0
  KeysOut us vs = (f g : List (List ℕ)) → g ≡ f → Out f (list_with one c (λ n. fixed) us f) (list_with two c (λ n. fixed) vs g)

  key_same : (z : Bool) (e : Expression Nowhere) (k m : ℕ) (more more2 : List (Numbered (Expression Nowhere))) → away (child c k) → KeysOut more more2 → (f g : List (List ℕ)) → g ≡ f
      → Out f (with_key one k z e more f) (with_key two m z e more2 g)
  key_same true e k m more more2 far others f g equal =
      let o = same e (record { place = child c k; slot = fixed; variable = None }) (record { place = child c m; slot = fixed; variable = None }) f g equal far (λ q none. absurd cc) in
      joined new bad seen f _ _ _ _ o (others _ _ o.followed)
  key_same false e k m more more2 far others f g equal = others f g equal

  pub keys_same : (xs : Arguments Nowhere) (k m : ℕ) → AwayFrom k → KeysOut (keys k xs) (keys m xs)
  keys_same no_arguments k m all f g equal = nothing_both new bad seen f g equal
  keys_same (argument (plain e) more) k m all f g equal = keys_same more (k + 1) (m + 1) (λ j le. all j (omega (arith, le))) f g equal
  keys_same (argument (named s x e) more) k m all f g equal =
      key_same (bytes_eq x.text sources_key) e k m (keys (k + 1) more) (keys (m + 1) more) (all k (omega arith)) (λ h i is. keys_same more (k + 1) (m + 1) (λ j le. all j (omega (arith, le))) h i is) f g equal
  keys_same (argument (pair s e d) more) k m all f g equal = keys_same more (k + 1) (m + 1) (λ j le. all j (omega (arith, le))) f g equal

  pub whole_same : (xs : Arguments Nowhere) → (bad c → ⊥) → AwayFrom 0 → (f g : List (List ℕ)) → g ≡ f → Out f (whole one c xs f) (whole two c xs g)
  whole_same xs fine all f g equal = let o = plains_same true xs 0 0 fine all f g equal in joined new bad seen f _ _ _ _ o (keys_same xs 0 0 all _ _ o.followed)

  -- ---- one argument that has another node on the way

  module _ (way : (path : List ℕ) (e e2 : Expression Nowhere) (s u : Stand) (f g : List (List ℕ)) → Becomes older newer path (an_expression e) (an_expression e2) → LevelExpression e → t ≡ below s.place path → g ≡ f → seen f ≡ true
      → Along new bad seen b (one e s f) (two e2 u g))
      (m : ℕ) (path : List ℕ) (leads : t ≡ below c (m ∷ path)) (aside : (j : ℕ) → (m ≡ j → ⊥) → away (child c j)) (fine : bad c → ⊥) (y next : Any Nowhere) (on_way : Becomes older newer path y next) where
    abbrev Way : Expansion Nowhere → Expansion Nowhere → Type 0
    Way = Along new bad seen b

    abbrev PlainsOut : List (Numbered (Expression Nowhere)) → List (Numbered (Expression Nowhere)) → Type 0
    PlainsOut us vs = (f g : List (List ℕ)) → g ≡ f → Out f (list_with one c (in_list c) us f) (list_with two c (in_list c) vs g)

    abbrev PlainsWay : List (Numbered (Expression Nowhere)) → List (Numbered (Expression Nowhere)) → Type 0
    PlainsWay us vs = (f g : List (List ℕ)) → g ≡ f → seen f ≡ true → Way (list_with one c (in_list c) us f) (list_with two c (in_list c) vs g)

    abbrev KeysWay : List (Numbered (Expression Nowhere)) → List (Numbered (Expression Nowhere)) → Type 0
    KeysWay us vs = (f g : List (List ℕ)) → g ≡ f → seen f ≡ true → Way (list_with one c (λ n. fixed) us f) (list_with two c (λ n. fixed) vs g)

    -- either those without a name are on the way, or those of the key
    abbrev pub Ways : (ps qs us vs : List (Numbered (Expression Nowhere))) → Type 0
    Ways ps qs us vs = (PlainsWay ps qs × KeysOut us vs) ⊎ (PlainsOut ps qs × KeysWay us vs)

    behind_it : (k : ℕ) → m ≡ k → AwayFrom (k + 1)
    behind_it k is j le = aside j (λ equal. omega (arith, is, le, equal))

    way_here : (e e2 : Expression Nowhere) (k : ℕ) (slot : Slot) → m ≡ k → an_expression e ≡ y → an_expression e2 ≡ next → LevelExpression e → (f g : List (List ℕ)) → g ≡ f → seen f ≡ true
        → Way (one e (record { place = child c k; slot = slot; variable = None }) f) (two e2 (record { place = child c k; slot = slot; variable = None }) g)
    way_here e e2 k slot number is is2 level f g equal behind =
        way path e e2 (record { place = child c k; slot = slot; variable = None }) (record { place = child c k; slot = slot; variable = None }) f g
        (subst (λ z. Becomes older newer path z (an_expression e2)) (sym is) (subst (Becomes older newer path y) (sym is2) on_way)) level (leads ∙ ap (λ i. below c (i ∷ path)) number ∙ sym (below_child c k path)) equal behind

    key_way : (z : Bool) (e e2 : Expression Nowhere) (k : ℕ) (more more2 : List (Numbered (Expression Nowhere))) → m ≡ k → an_expression e ≡ y → an_expression e2 ≡ next → LevelExpression e → KeysOut more more2
        → (f g : List (List ℕ)) → g ≡ f → seen f ≡ true → Way (with_key one k z e more f) (with_key two k z e2 more2 g)
    key_way true e e2 k more more2 number is is2 level others f g equal behind =
        let a = way_here e e2 k fixed number is is2 level f g equal behind in along_first new bad seen b _ _ _ _ a (others _ _ a.followed)
    key_way false e e2 k more more2 number is is2 level others f g equal behind = along_same new bad seen b f _ _ behind (others f g equal)

    key_behind : (z : Bool) (e : Expression Nowhere) (k : ℕ) (more more2 : List (Numbered (Expression Nowhere))) → away (child c k) → KeysWay more more2 → (f g : List (List ℕ)) → g ≡ f → seen f ≡ true
        → Way (with_key one k z e more f) (with_key two k z e more2 g)
    key_behind true e k more more2 far others f g equal behind =
        let o = same e (record { place = child c k; slot = fixed; variable = None }) (record { place = child c k; slot = fixed; variable = None }) f g equal far (λ q none. absurd cc) in
        along_behind new bad seen b f _ _ _ _ behind o (others _ _ o.followed (still new bad seen f _ _ behind o).behind)
    key_behind false e k more more2 far others f g equal behind = others f g equal behind

    same_node : (e e2 : Expression Nowhere) → an_expression e ≡ an_expression e2 → e2 ≡ e
    same_node e e2 is = cc

    -- a further argument before the others
    plain_before : (e : Expression Nowhere) (k : ℕ) (ps qs us vs : List (Numbered (Expression Nowhere))) → away (child c k) → Ways ps qs us vs
        → Ways (record { number = k; value = e } ∷ ps) (record { number = k; value = e } ∷ qs) us vs
    plain_before e k ps qs us vs far (inl w) = inl (
      λ f g equal behind.
          let o = same e (record { place = child c k; slot = in_list c k; variable = None }) (record { place = child c k; slot = in_list c k; variable = None }) f g equal far (slot_fine k fine) in
          along_behind new bad seen b f _ _ _ _ behind o (w.0 _ _ o.followed (still new bad seen f _ _ behind o).behind),
      w.1,
    )
    plain_before e k ps qs us vs far (inr w) = inr (
      λ f g equal.
          let o = same e (record { place = child c k; slot = in_list c k; variable = None }) (record { place = child c k; slot = in_list c k; variable = None }) f g equal far (slot_fine k fine) in
          joined new bad seen f _ _ _ _ o (w.0 _ _ o.followed),
      w.1,
    )

    named_before : (z : Bool) (e : Expression Nowhere) (k : ℕ) (ps qs us vs : List (Numbered (Expression Nowhere))) → away (child c k) → Ways ps qs us vs
        → Ways ps qs (cons_option (option_map (λ v. record { number = k; value = v }) (if z then Some e else None)) us) (cons_option (option_map (λ v. record { number = k; value = v }) (if z then Some e else None)) vs)
    named_before z e k ps qs us vs far (inl w) = inl (w.0, key_same z e k k us vs far w.1)
    named_before z e k ps qs us vs far (inr w) = inr (w.0, key_behind z e k us vs far w.1)

    -- all, or all but the first without a name
    all_along : (some : Bool) (xs ys : Arguments Nowhere) (k n : ℕ) → m ≡ k + n → blanks ys ≡ blanks xs → Differ y next n (arguments_parts xs) (arguments_parts ys) → (br : Bracket) (nb : Bool) → holds_pairs br ≡ false → LevelArguments xs br nb
        → Ways (but_first some (plains k xs)) (but_first some (plains k ys)) (keys k xs) (keys k ys)
    all_along some no_arguments ys k n number bs d br nb none level = absurd (differ_none y next n (arguments_parts ys) d)
    all_along some (argument a xs) no_arguments k n number bs d br nb none level = absurd cc
    all_along false (argument (plain e) xs) (argument (plain e2) ys) k zero number bs d br nb none level =
        let h = differ_here y next (an_expression e) (an_expression e2) (arguments_parts xs) (arguments_parts ys) d in
        let tails : blanks ys ≡ blanks xs = cc in
        let at_it : m ≡ k = omega (arith, number) in
        subst (λ zs. Ways (plains k (argument (plain e) xs)) (plains k (argument (plain e2) zs)) (keys (k + 1) xs) (keys (k + 1) zs)) (sym (same_arguments xs ys tails h.2))
        (inl (
          λ f g equal behind.
              let w = way_here e e2 k (in_list c k) at_it h.0 h.1 level.0.2 f g equal behind in
              along_first new bad seen b _ _ _ _ w (plains_same false xs (k + 1) (k + 1) fine (behind_it k at_it) _ _ w.followed),
          keys_same xs (k + 1) (k + 1) (behind_it k at_it),
        ))
    all_along false (argument (plain e) xs) (argument (plain e2) ys) k (suc n) number bs d br nb none level =
        let h = differ_there y next n (an_expression e) (an_expression e2) (arguments_parts xs) (arguments_parts ys) d in
        let tails : blanks ys ≡ blanks xs = cc in
        let far = aside k (λ equal. omega (arith, number, equal)) in
        subst (λ v. Ways (plains k (argument (plain e) xs)) (plains k (argument (plain v) ys)) (keys (k + 1) xs) (keys (k + 1) ys)) (sym (same_node e e2 h.0))
        (plain_before e k _ _ _ _ far (all_along false xs ys (k + 1) n (omega (arith, number)) tails h.1 br false none level.1))
    all_along true (argument (plain e) xs) (argument (plain e2) ys) k zero number bs d br nb none level =
        let h = differ_here y next (an_expression e) (an_expression e2) (arguments_parts xs) (arguments_parts ys) d in
        let tails : blanks ys ≡ blanks xs = cc in
        let at_it : m ≡ k = omega (arith, number) in
        subst (λ zs. Ways (plains (k + 1) xs) (plains (k + 1) zs) (keys (k + 1) xs) (keys (k + 1) zs)) (sym (same_arguments xs ys tails h.2))
        (inl (λ f g equal behind. along_same new bad seen b f _ _ behind (plains_same false xs (k + 1) (k + 1) fine (behind_it k at_it) f g equal), keys_same xs (k + 1) (k + 1) (behind_it k at_it)))
    all_along true (argument (plain e) xs) (argument (plain e2) ys) k (suc n) number bs d br nb none level =
        let h = differ_there y next n (an_expression e) (an_expression e2) (arguments_parts xs) (arguments_parts ys) d in
        let tails : blanks ys ≡ blanks xs = cc in
        all_along false xs ys (k + 1) n (omega (arith, number)) tails h.1 br false none level.1
    all_along some (argument (named s x e) xs) (argument (named r z e2) ys) k zero number bs d br nb none level =
        let h = differ_here y next (an_expression e) (an_expression e2) (arguments_parts xs) (arguments_parts ys) d in
        let tails : blanks ys ≡ blanks xs = cc in
        let name : z ≡ x = cc in
        let at_it : m ≡ k = omega (arith, number) in
        subst (λ w. Ways (but_first some (plains (k + 1) xs)) (but_first some (plains (k + 1) ys)) (keys k (argument (named s x e) xs)) (keys k (argument (named r w e2) ys))) (sym name)
        (subst (λ zs. Ways (but_first some (plains (k + 1) xs)) (but_first some (plains (k + 1) zs)) (keys k (argument (named s x e) xs)) (keys k (argument (named r x e2) zs))) (sym (same_arguments xs ys tails h.2))
        (inr (plains_same some xs (k + 1) (k + 1) fine (behind_it k at_it), key_way (bytes_eq x.text sources_key) e e2 k (keys (k + 1) xs) (keys (k + 1) xs) at_it h.0 h.1 level.0.1 (keys_same xs (k + 1) (k + 1) (behind_it k at_it)))))
    all_along some (argument (named s x e) xs) (argument (named r z e2) ys) k (suc n) number bs d br nb none level =
        let h = differ_there y next n (an_expression e) (an_expression e2) (arguments_parts xs) (arguments_parts ys) d in
        let tails : blanks ys ≡ blanks xs = cc in
        let name : z ≡ x = cc in
        let far = aside k (λ equal. omega (arith, number, equal)) in
        subst (λ w. Ways (but_first some (plains (k + 1) xs)) (but_first some (plains (k + 1) ys)) (keys k (argument (named s x e) xs)) (keys k (argument (named r w e2) ys))) (sym name)
        (subst (λ v. Ways (but_first some (plains (k + 1) xs)) (but_first some (plains (k + 1) ys)) (keys k (argument (named s x e) xs)) (keys k (argument (named r x v) ys))) (sym (same_node e e2 h.0))
        (named_before (bytes_eq x.text sources_key) e k _ _ _ _ far (all_along some xs ys (k + 1) n (omega (arith, number)) tails h.1 br true none level.1)))
    all_along some (argument (pair s e v) xs) (argument a ys) k n number bs d br nb none level = let both : true ≡ false = sym level.0.0 ∙ none in absurd cc
    all_along some (argument (plain e) xs) (argument _ ys) k n number bs d br nb none level = absurd cc
    all_along some (argument (named s x e) xs) (argument _ ys) k n number bs d br nb none level = absurd cc

    pub whole_along : (xs ys : Arguments Nowhere) → blanks ys ≡ blanks xs → Differ y next m (arguments_parts xs) (arguments_parts ys) → (br : Bracket) (nb : Bool) → holds_pairs br ≡ false → LevelArguments xs br nb
        → (f g : List (List ℕ)) → g ≡ f → seen f ≡ true → Way (whole one c xs f) (whole two c ys g)
    whole_along xs ys bs d br nb none level f g equal behind = go (all_along true xs ys 0 m (omega arith) bs d br nb none level)
      where
        go : Ways (rest (plains 0 xs)) (rest (plains 0 ys)) (keys 0 xs) (keys 0 ys) → Way (whole one c xs f) (whole two c ys g)
        go (inl w) = let a = w.0 f g equal behind in along_first new bad seen b _ _ _ _ a (w.1 _ _ a.followed)
        go (inr w) = let o = w.0 f g equal in along_behind new bad seen b f _ _ _ _ behind o (w.1 _ _ o.followed (still new bad seen f _ _ behind o).behind)

-- ==== How many arguments have a key.

abbrev pub key_count : {S : Type 0} → List ℕ → Arguments S → ℕ
key_count key no_arguments = 0
key_count key (argument (plain e) more) = key_count key more
key_count key (argument (named s x e) more) = if bytes_eq x.text key then suc (key_count key more) else key_count key more
key_count key (argument (pair s e f) more) = key_count key more

pub key_length : {S : Type 0} (key : List ℕ) (k : ℕ) (xs : Arguments S) → length (keyed key k xs) ≡ key_count key xs
key_length key k no_arguments = refl
key_length key k (argument (plain e) more) = key_length key (k + 1) more
key_length {S} key k (argument (named s x e) more) = go (bytes_eq x.text key) (key_length key (k + 1) more)
  where
    go : (b : Bool) → length (keyed key (k + 1) more) ≡ key_count key more
        → length (cons_option (option_map (λ (y : Expression S). record { number = k; value = y }) (if b then Some e else None)) (keyed key (k + 1) more)) ≡ (if b then suc (key_count key more) else key_count key more)
    go true is = ap suc is
    go false is = is
key_length key k (argument (pair s e f) more) = key_length key (k + 1) more

pub key_bare : {S : Type 0} (key : List ℕ) (xs : Arguments S) → key_count key (erase_arguments xs) ≡ key_count key xs
key_bare key no_arguments = refl
key_bare key (argument (plain e) more) = key_bare key more
key_bare key (argument (named s x e) more) = ap (λ n. if bytes_eq x.text key then suc n else n) (key_bare key more)
key_bare key (argument (pair s e f) more) = key_bare key more

key_of_blanks : (key : List ℕ) (xs : Arguments Nowhere) → key_count key (arguments_of (blanks xs)) ≡ key_count key xs
key_of_blanks key no_arguments = refl
key_of_blanks key (argument (plain e) more) = key_of_blanks key more
key_of_blanks key (argument (named s x e) more) = ap (λ n. if bytes_eq x.text key then suc n else n) (key_of_blanks key more)
key_of_blanks key (argument (pair s e f) more) = key_of_blanks key more

pub key_blanks : (key : List ℕ) (xs ys : Arguments Nowhere) → blanks ys ≡ blanks xs → key_count key ys ≡ key_count key xs
key_blanks key xs ys is = sym (key_of_blanks key ys) ∙ ap (λ bs. key_count key (arguments_of bs)) is ∙ key_of_blanks key xs

pub key_strings : (key : List ℕ) (new : List (List ℕ)) (front back : List (Argument Nowhere)) → key_count key (arguments_of (front ++ (strings new ++ back))) ≡ key_count key (arguments_of (front ++ back))
key_strings key [] [] back = refl
key_strings key (x ∷ new) [] back = key_strings key new [] back
key_strings key new (plain e ∷ front) back = key_strings key new front back
key_strings key new (named s x e ∷ front) back = ap (λ n. if bytes_eq x.text key then suc n else n) (key_strings key new front back)
key_strings key new (pair s e f ∷ front) back = key_strings key new front back

-- ---- a key that is there once or not at all

pub few_once : {X A : Type 0} (key : List ℕ) (xs : List X) (a a2 : A) → once key xs a ≡ Ok a2 → length xs ≤ 1
few_once key [] a a2 is = omega arith
few_once key (x ∷ []) a a2 is = omega arith
few_once key (x ∷ z ∷ xs) a a2 is = absurd cc

-- ==== The extra files of a call are met as the sources of one with other names of arguments.

abbrev other_key : Bool → Name Nowhere
other_key b = bare_name (if b then sources_key else [])

-- what is named `extra_files` is named `sources`, and all else has another name
abbrev pub as_sources : Arguments Nowhere → Arguments Nowhere
as_sources no_arguments = no_arguments
as_sources (argument (plain e) more) = argument (named tt (bare_name []) e) (as_sources more)
as_sources (argument (named s x e) more) = argument (named tt (other_key (bytes_eq x.text extra_key)) e) (as_sources more)
as_sources (argument (pair s e f) more) = argument (pair s e f) (as_sources more)

no_plains : (k : ℕ) (xs : Arguments Nowhere) → plains k (as_sources xs) ≡ []
no_plains k no_arguments = refl
no_plains k (argument (plain e) more) = no_plains (k + 1) more
no_plains k (argument (named s x e) more) = no_plains (k + 1) more
no_plains k (argument (pair s e f) more) = no_plains (k + 1) more

pub same_keys : (k : ℕ) (xs : Arguments Nowhere) → keys k (as_sources xs) ≡ keyed extra_key k xs
same_keys k no_arguments = refl
same_keys k (argument (plain e) more) = same_keys (k + 1) more
same_keys k (argument (named s x e) more) = go (bytes_eq x.text extra_key) (same_keys (k + 1) more)
  where
    go : (b : Bool) → keys (k + 1) (as_sources more) ≡ keyed extra_key (k + 1) more
        → cons_option (option_map (λ (y : Expression Nowhere). record { number = k; value = y }) (if bytes_eq (other_key b).text sources_key then Some e else None)) (keys (k + 1) (as_sources more))
        ≡ cons_option (option_map (λ (y : Expression Nowhere). record { number = k; value = y }) (if b then Some e else None)) (keyed extra_key (k + 1) more)
    go true others = ap (λ l. record { number = k; value = e } ∷ l) others
    go false others = others
same_keys k (argument (pair s e f) more) = same_keys (k + 1) more

pub as_whole : (expand : Expand) (c : CallRef) (xs : Arguments Nowhere) → whole expand c (as_sources xs) [] ≡ list_with expand c (λ n. fixed) (keyed extra_key 0 xs) []
as_whole expand c xs =
    ap (λ l. let first = list_with expand c (in_list c) (rest l) [] in both_expanded first (list_with expand c (λ n. fixed) (keys 0 (as_sources xs)) first.followed)) (no_plains 0 xs)
    ∙ ap (λ l. list_with expand c (λ n. fixed) l []) (same_keys 0 xs)

pub same_parts : (xs : Arguments Nowhere) → arguments_parts (as_sources xs) ≡ arguments_parts xs
same_parts no_arguments = refl
same_parts (argument (plain e) more) = ap (λ l. an_expression e ∷ l) (same_parts more)
same_parts (argument (named s x e) more) = ap (λ l. an_expression e ∷ l) (same_parts more)
same_parts (argument (pair s e f) more) = ap (λ l. an_expression e ∷ (an_expression f ∷ l)) (same_parts more)

as_source : Argument Nowhere → Argument Nowhere
as_source (plain e) = named tt (bare_name []) e
as_source (named s x e) = named tt (other_key (bytes_eq x.text extra_key)) e
as_source (pair s e f) = pair s e f

blanks_are : (xs : Arguments Nowhere) → blanks (as_sources xs) ≡ map as_source (blanks xs)
unfolding as_source
blanks_are no_arguments = refl
blanks_are (argument (plain e) more) = ap (λ l. blank (named tt (bare_name []) e) ∷ l) (blanks_are more)
blanks_are (argument (named s x e) more) = ap (λ l. blank (named tt (other_key (bytes_eq x.text extra_key)) e) ∷ l) (blanks_are more)
blanks_are (argument (pair s e f) more) = ap (λ l. blank (pair s e f) ∷ l) (blanks_are more)

pub same_blanks : (xs ys : Arguments Nowhere) → blanks ys ≡ blanks xs → blanks (as_sources ys) ≡ blanks (as_sources xs)
same_blanks xs ys is = blanks_are ys ∙ ap (map as_source) is ∙ sym (blanks_are xs)

pub no_pair : holds_pairs bracket.Round ≡ true → ⊥
no_pair is = cc

pub still_level : (xs : Arguments Nowhere) (nb nb2 : Bool) → LevelArguments xs bracket.Round nb → LevelArguments (as_sources xs) bracket.Round nb2
still_level no_arguments nb nb2 level = tt
still_level (argument (plain e) more) nb nb2 level = ((refl, level.0.2), still_level more false true level.1)
still_level (argument (named s x e) more) nb nb2 level = ((refl, level.0.1), still_level more true true level.1)
still_level (argument (pair s e f) more) nb nb2 level = absurd (no_pair level.0.0)
