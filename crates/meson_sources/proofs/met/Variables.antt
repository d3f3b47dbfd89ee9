-- Variables that stand for the same in two projects, or for an expression in which another node stands on the way to it: what is met behind them.
use Rattle.meson_sources.proofs.Words.{◌&&◌, ◌⊎◌, [], ap, ap₂, Bool, false, inl, inr, List, None, refl, Some, subst, suc, sym, true, zero, ℕ, ◌∙◌, ◌∷◌, ◌≡◌}
use Rattle.meson_sources.proofs.Words.{an_expression, Any, LevelExpression, array, call, Expression, identifier, Nowhere, row, string, operands_parts, child}
use Rattle.meson_sources.proofs.Words.{Placed, one_of, CallRef, are_plus, expand_by, Expansion, follow_single, is_operand_by, is_single_by, is_value_by, Mark}
use Rattle.meson_sources.proofs.Words.{max_followed, met, of_variable, opaque, Stand, list_of_slot}
use Rattle.meson_sources.proofs.met.Expressions.{along, files_alike, kind_along, operand_alike, plus_alike, expression_same}
use Rattle.meson_sources.proofs.met.Marks.{Values, list_by, lists_by, expand_with}
use Rattle.meson_sources.proofs.met.Outcomes.{Either, as_before, grown, How, stays, comes, Outcome, Along, opaque_both}
use Rattle.meson_sources.proofs.trees.Places.{below}
use Rattle.meson_sources.proofs.trees.Shapes.{Becomes, differ_here, differ_there, differ_none, shape, another}
use Rattle.meson_sources.proofs.trees.Skeletons.{operators, list_blanks}

value_same : (m m2 : Expression Nowhere → Bool) → ((e : Expression Nowhere) → m2 e ≡ m e) → (e : Expression Nowhere) → is_value_by m2 e ≡ is_value_by m e
value_same m m2 alike (row s e os) = ap (λ b. are_plus os && b) (alike e)
value_same m m2 alike _ = refl

no_value : (m : Expression Nowhere → Bool) (e : Expression Nowhere) → shape (an_expression e) ≡ another → is_value_by m e ≡ false
no_value m (array l) is = absurd cc
no_value m (call s f l) is = absurd cc
no_value m (row s e os) is = absurd cc
no_value m _ is = refl

module _ (new : List (List ℕ)) (bad : CallRef → Type 0) (seen : List (List ℕ) → Bool) (away : CallRef → Type 0) (deeper : (p : CallRef) (n : ℕ) → away p → away (child p n)) (apart : (p : CallRef) → away p → bad p → ⊥)
    (older newer : Expression Nowhere) (kind : (holds holds2 : List ℕ → Bool) → is_operand_by holds2 newer ≡ is_operand_by holds older) (value_kind : (m m2 : Expression Nowhere → Bool) → is_value_by m2 newer ≡ is_value_by m older) where
  abbrev OnWay : List ℕ → Any Nowhere → Any Nowhere → Type 0
  OnWay = Becomes (an_expression older) (an_expression newer)

  value_along : (holds holds2 : List ℕ → Bool) → ((x : List ℕ) → holds2 x ≡ holds x) → (path : List ℕ) (e e2 : Expression Nowhere) → OnWay path (an_expression e) (an_expression e2)
      → is_value_by (is_operand_by holds2) e2 ≡ is_value_by (is_operand_by holds) e
  value_along holds holds2 alike [] e e2 w =
      let one : e ≡ older = cc in
      let two : e2 ≡ newer = cc in
      ap (is_value_by (is_operand_by holds2)) two ∙ value_kind (is_operand_by holds) (is_operand_by holds2) ∙ sym (ap (is_value_by (is_operand_by holds)) one)
  value_along holds holds2 alike (n ∷ path) (array l) (array m) w = refl
  value_along holds holds2 alike (n ∷ path) (array l) _ w = let shapes = w.2.shapes in absurd cc
  value_along holds holds2 alike (n ∷ path) (call s f l) (call r g m) w =
      let shapes = w.2.shapes in
      let name : g.text ≡ f.text = cc in
      let bs : list_blanks m ≡ list_blanks l = cc in
      files_alike f.text g.text l m name bs
  value_along holds holds2 alike (n ∷ path) (call s f l) _ w = let shapes = w.2.shapes in absurd cc
  value_along holds holds2 alike (zero ∷ path) (row s e os) (row r d ps) w =
      let shapes = w.2.shapes in
      let signs : operators ps ≡ operators os = cc in
      let h = differ_here w.0 w.1 (an_expression e) (an_expression d) (operands_parts os) (operands_parts ps) w.2.parts in
      let way : OnWay path (an_expression e) (an_expression d) = subst (λ z. OnWay path z (an_expression d)) (sym h.0) (subst (OnWay path w.0) (sym h.1) w.3) in
      ap₂ (λ a b. a && b) (plus_alike os ps signs) (kind_along new bad seen away deeper apart holds holds2 alike older newer (kind holds holds2) path e d way)
  value_along holds holds2 alike (suc n ∷ path) (row s e os) (row r d ps) w =
      let shapes = w.2.shapes in
      let signs : operators ps ≡ operators os = cc in
      let h = differ_there w.0 w.1 n (an_expression e) (an_expression d) (operands_parts os) (operands_parts ps) w.2.parts in
      let same : d ≡ e = cc in
      ap₂ (λ a b. a && b) (plus_alike os ps signs) (ap (is_operand_by holds2) same ∙ operand_alike holds holds2 alike e)
  value_along holds holds2 alike (n ∷ path) (row s e os) _ w = let shapes = w.2.shapes in absurd cc
  value_along holds holds2 alike (n ∷ path) (identifier s x) e2 w = absurd (differ_none w.0 w.1 n _ w.2.parts)
  value_along holds holds2 alike (n ∷ path) (string s q x) e2 w = absurd (differ_none w.0 w.1 n _ w.2.parts)
  value_along holds holds2 alike (n ∷ path) _ e2 w = no_value (is_operand_by holds2) e2 w.2.shapes

  module _ (t : CallRef) (b : Bool) (aside : (p : CallRef) (n m : ℕ) (path : List ℕ) → t ≡ below p (n ∷ path) → (n ≡ m → ⊥) → away (child p m))
      (above : (p : CallRef) (n : ℕ) (path : List ℕ) → t ≡ below p (n ∷ path) → bad p → ⊥) (values values2 : Values) where
    -- ---- what a variable stands for in both

    pub record Equal (x : List ℕ) (v v2 : Placed (Expression Nowhere)) : Type 0 where
      pub same : v2.it ≡ v.it
      pub far : away v.place
      pub settled : (f : List (List ℕ)) → one_of f x ≡ false → (seen (x ∷ f) ≡ seen f) ⊎ ((seen f ≡ false) × (seen (x ∷ f) ≡ true))

    pub record OnTheWay (x : List ℕ) (v v2 : Placed (Expression Nowhere)) : Type 0 where
      pub path : List ℕ
      pub leads : t ≡ below v.place path
      pub way : OnWay path (an_expression v.it) (an_expression v2.it)
      pub level : LevelExpression v.it
      pub settled : (f : List (List ℕ)) → one_of f x ≡ false → (seen (x ∷ f) ≡ true) × ((seen f ≡ false) ⊎ ((b ≡ false) × (seen f ≡ true)))

    pub data Kin (x : List ℕ) : Type 0 where
      neither : values x ≡ None → values2 x ≡ None → Kin x
      equal : (v v2 : Placed (Expression Nowhere)) → values x ≡ Some v → values2 x ≡ Some v2 → Equal x v v2 → Kin x
      on_the_way : (v v2 : Placed (Expression Nowhere)) → values x ≡ Some v → values2 x ≡ Some v2 → OnTheWay x v v2 → Kin x

    module _ (kin : (x : List ℕ) → Kin x) where
      list_alike : (left : ℕ) (x : List ℕ) → list_by values2 left x ≡ list_by values left x
      list_alike zero x = refl
      list_alike (suc left) x = go (list_alike left) (kin x)
        where
          go : ((y : List ℕ) → list_by values2 left y ≡ list_by values left y) → Kin x → is_single_by (is_operand_by (list_by values2 left)) (values2 x) ≡ is_single_by (is_operand_by (list_by values left)) (values x)
          go rest (neither one two) = ap (is_single_by (is_operand_by (list_by values2 left))) two ∙ sym (ap (is_single_by (is_operand_by (list_by values left))) one)
          go rest (equal v v2 one two k) =
              ap (is_single_by (is_operand_by (list_by values2 left))) two ∙ ap (is_value_by (is_operand_by (list_by values2 left))) k.same
              ∙ value_same (is_operand_by (list_by values left)) (is_operand_by (list_by values2 left)) (operand_alike (list_by values left) (list_by values2 left) rest) v.it
              ∙ sym (ap (is_single_by (is_operand_by (list_by values left))) one)
          go rest (on_the_way v v2 one two k) =
              ap (is_single_by (is_operand_by (list_by values2 left))) two ∙ value_along (list_by values left) (list_by values2 left) rest k.path v.it v2.it k.way
              ∙ sym (ap (is_single_by (is_operand_by (list_by values left))) one)

      abbrev holds : List ℕ → Bool
      holds = list_by values max_followed

      abbrev holds2 : List ℕ → Bool
      holds2 = list_by values2 max_followed

      pub same_holds : (x : List ℕ) → holds2 x ≡ holds x
      same_holds = list_alike max_followed

      abbrev Follow : Type 0
      Follow = List ℕ → List (List ℕ) → Expansion Nowhere

      abbrev Follows : Follow → Follow → Type 0
      Follows follow follow2 = (x : List ℕ) (f : List (List ℕ)) → one_of f x ≡ false → Outcome new bad seen f (follow x f) (follow2 x f)

      module _ (base : (follow follow2 : Follow) → Follows follow follow2 → (s u : Stand) (f g : List (List ℕ)) → t ≡ below s.place [] → g ≡ f → seen f ≡ true
          → Along new bad seen b (expand_by (is_operand_by holds) follow older s f) (expand_by (is_operand_by holds2) follow2 newer u g)) where
        -- so many variables may be followed inside one another
        pub record Level (left : ℕ) : Type 0 where
          pub same : (e : Expression Nowhere) (s u : Stand) (f g : List (List ℕ)) → g ≡ f → away s.place → ((q : CallRef) → list_of_slot s.slot ≡ Some q → bad q → ⊥)
              → Outcome new bad seen f (expand_with values left e s f) (expand_with values2 left e u g)
          pub way : (path : List ℕ) (e e2 : Expression Nowhere) (s u : Stand) (f g : List (List ℕ)) → OnWay path (an_expression e) (an_expression e2) → LevelExpression e → t ≡ below s.place path → g ≡ f → seen f ≡ true
              → Along new bad seen b (expand_with values left e s f) (expand_with values2 left e2 u g)

        either_true : (ms ns : List (Mark Nowhere)) → Either new bad seen b ms ns → Either new bad seen true ms ns
        either_true ms ns (as_before same clear) = as_before same clear
        either_true ms ns (grown is grows) = grown refl grows

        from_equal : (x : List ℕ) (f : List (List ℕ)) (e now : Expansion Nowhere) → (seen (x ∷ f) ≡ seen f) ⊎ ((seen f ≡ false) × (seen (x ∷ f) ≡ true)) → Outcome new bad seen (x ∷ f) e now → Outcome new bad seen f e now
        from_equal x f e now settled o = record { followed = o.followed; how = go settled o.how }
          where
            go : (seen (x ∷ f) ≡ seen f) ⊎ ((seen f ≡ false) × (seen (x ∷ f) ≡ true)) → How new bad seen (x ∷ f) e.followed e.marks now.marks → How new bad seen f e.followed e.marks now.marks
            go (inl is) (stays same clear s) = stays same clear (s ∙ is)
            go (inl is) (comes before after z) = comes (sym is ∙ before) after z
            go (inr is) (stays same clear s) = comes is.0 (s ∙ is.1) (as_before same clear)
            go (inr is) (comes before after z) = let both : true ≡ false = sym is.1 ∙ before in absurd cc

        from_way : (f : List (List ℕ)) (e now : Expansion Nowhere) → (seen f ≡ false) ⊎ ((b ≡ false) × (seen f ≡ true)) → Along new bad seen b e now → Outcome new bad seen f e now
        from_way f e now settled a = record { followed = a.followed; how = go settled a.marks }
          where
            go : (seen f ≡ false) ⊎ ((b ≡ false) × (seen f ≡ true)) → Either new bad seen b e.marks now.marks → How new bad seen f e.followed e.marks now.marks
            go (inl is) z = comes is a.behind (either_true e.marks now.marks z)
            go (inr is) (as_before same clear) = stays same clear (a.behind ∙ sym is.1)
            go (inr is) (grown yea grows) = let both : true ≡ false = sym yea ∙ is.0 in absurd cc

        pub followed : (left : ℕ) → Level left → (x : List ℕ) (f : List (List ℕ)) → one_of f x ≡ false
            → Outcome new bad seen f (follow_single (expand_with values left) x f (values x)) (follow_single (expand_with values2 left) x f (values2 x))
        followed left l x f not_yet = go (kin x)
          where
            go : Kin x → Outcome new bad seen f (follow_single (expand_with values left) x f (values x)) (follow_single (expand_with values2 left) x f (values2 x))
            go (neither one two) =
                subst (λ o. Outcome new bad seen f (follow_single (expand_with values left) x f o) (follow_single (expand_with values2 left) x f (values2 x))) (sym one)
                (subst (λ o. Outcome new bad seen f (met opaque f) (follow_single (expand_with values2 left) x f o)) (sym two) (opaque_both new bad seen f f refl))
            go (equal v v2 one two k) =
                subst (λ o. Outcome new bad seen f (follow_single (expand_with values left) x f o) (follow_single (expand_with values2 left) x f (values2 x))) (sym one)
                (subst (λ o. Outcome new bad seen f (expand_with values left v.it (of_variable x v.place) (x ∷ f)) (follow_single (expand_with values2 left) x f o)) (sym two)
                (subst (λ z. Outcome new bad seen f (expand_with values left v.it (of_variable x v.place) (x ∷ f)) (expand_with values2 left z (of_variable x v2.place) (x ∷ f))) (sym k.same)
                (from_equal x f _ _ (k.settled f not_yet) (l.same v.it (of_variable x v.place) (of_variable x v2.place) (x ∷ f) (x ∷ f) refl k.far (λ q none. absurd cc)))))
            go (on_the_way v v2 one two k) =
                let s = k.settled f not_yet in
                subst (λ o. Outcome new bad seen f (follow_single (expand_with values left) x f o) (follow_single (expand_with values2 left) x f (values2 x))) (sym one)
                (subst (λ o. Outcome new bad seen f (expand_with values left v.it (of_variable x v.place) (x ∷ f)) (follow_single (expand_with values2 left) x f o)) (sym two)
                (from_way f _ _ s.1 (l.way k.path v.it v2.it (of_variable x v.place) (of_variable x v2.place) (x ∷ f) (x ∷ f) k.way k.level k.leads refl s.0)))

        abbrev pub none_left : Follow
        none_left x f = met opaque f

        abbrev pub some_left : Values → ℕ → Follow
        some_left vs left x f = follow_single (expand_with vs left) x f (vs x)

        pub levels : (left : ℕ) → Level left
        unfolding lists_by
        levels zero =
            let follows : Follows none_left none_left = λ x f not_yet. opaque_both new bad seen f f refl in
            record {
              same = expression_same new bad seen away deeper apart (is_operand_by holds) (is_operand_by holds2) (operand_alike holds holds2 same_holds) none_left none_left follows;
              way = along new bad seen away deeper apart holds holds2 same_holds older newer (kind holds holds2) none_left none_left follows t b aside above (base none_left none_left follows);
            }
        levels (suc left) =
            let follows : Follows (some_left values left) (some_left values2 left) = followed left (levels left) in
            record {
              same = expression_same new bad seen away deeper apart (is_operand_by holds) (is_operand_by holds2) (operand_alike holds holds2 same_holds) (some_left values left) (some_left values2 left) follows;
              way = along new bad seen away deeper apart holds holds2 same_holds older newer (kind holds holds2) (some_left values left) (some_left values2 left) follows t b aside above (base (some_left values left) (some_left values2 left) follows);
            }
