-- The elements of the lists of a value that pass a test are removed, or get another value: each step may be done, and the value that is left.
use Rattle.std.proofs.Common.{◌≡◌, ℕ, suc, ◌+◌, ◌≤◌, true, false, List, [], ◌++◌, map, Option, Some, None, refl, sym, ap, ◌∙◌, subst, arith}
use Rattle.std.specs.Prelude.{Bool, All, slice_set, option_map, if◌then◌else◌}
use Rattle.meson_lex.specs.declared.kinds.Span.{Span}
use Rattle.meson_lex.specs.Significant.{Word}
use Rattle.meson_syntax.specs.declared.operator.Bracket.{Bracket}
use Rattle.meson_syntax.specs.declared.operator.Operator.{Operator}
use Rattle.meson_syntax.specs.Grammar.{LevelListing, arguments_depth, expression_depth, operands_depth, file_depth, listing_depth, expression_words, operands_words, operator_words}
use Rattle.meson_syntax.specs.Paths.{Hole, ListIn, all_around, around, list_in, nth, nth_hole, of_expression, operands_children}
use Rattle.meson_syntax.specs.Tree.{Argument, no_arguments, argument, Expression, array, call, row, Operands, no_operands, operand, Listing, listing, Nowhere, Plain, erase_argument, erase_expression, erase_listing, erase_name, erase_operands}
use Rattle.meson_syntax.proofs.parsing.Complete.{list-of-arguments}
use Rattle.meson_syntax.proofs.paths.Reaching.{list-fits}
use Rattle.meson_edit.specs.Edits.{Written, elements, with_elements}
use Rattle.meson_edit.proofs.paths.Mapped.{nth_map}
use Rattle.meson_calls.specs.declared.call.CallRef.{CallRef}
use Rattle.meson_calls.specs.Project.{child}
use Rattle.meson_steps.specs.ListSteps.{MayStandBetween, wide_depth}
use Rattle.meson_steps.specs.Steps.{Step}
use Rattle.meson_steps.proofs.InnerPlaces.{Child}
use Rattle.meson_steps.proofs.PlainTrees.{erased_elements}
use Rattle.meson_steps.proofs.WithOne.{all_nth, changed_there}
use Rattle.meson_places.specs.SaidElements.{elements_left, list_with, lists_edited, operands_left, own_left, passing_edited, value_left}
use Rattle.meson_places.specs.Slots.{elements_in}
use Rattle.meson_places.specs.ValueLists.{ValueList, and_more, are_plus, is_files, is_list, lists_of, operand_lists, own_list}
use Rattle.meson_places.proofs.ElementsEdited.{Done, NewFits, each_done, left_depth, node_of, none_done, set_same, then_done}
use Rattle.meson_places.proofs.Frames.{Frame, Spot, child_spot, own_spot, whole}
use Rattle.meson_places.proofs.AddedValues.{set_twice}
use Rattle.meson_places.proofs.ListStands.{depth_of, with_depth}

-- ---- a list with its own elements

itself : (m : Listing Nowhere) (b : Bracket) → LevelListing m b → with_elements m (elements m) ≡ m
itself (listing s trailing no_arguments) b level = ap (λ t. listing s t no_arguments) (sym level.0)
itself (listing s trailing (argument a more)) b level = ap (λ xs. listing s trailing (argument a xs)) (list-of-arguments more)

some_depth : (m : Listing Nowhere) → 1 ≤ listing_depth m
some_depth (listing s trailing list) = omega arith

-- ---- operands of a row

-- What is a child of the operands is a child of what is made of them, so many children behind.
abbrev pub Part : ℕ → (Operands Nowhere → Expression Nowhere) → Type 0
Part n make = (os : Operands Nowhere) (j : ℕ) (e : Expression Nowhere) (put : Expression Nowhere → Operands Nowhere) → Child (nth (operands_children os) j) e put
    → Child (nth_hole Nowhere of_expression (make os) (n + j)) e (λ y. make (put y))

-- a child of a part, in the whole
child_around : {T U : Type 0} (hs : List (Hole Nowhere T)) (j : ℕ) (e : Expression Nowhere) (put : Expression Nowhere → T) (before behind : List Word) (make : T → U) → Child (nth hs j) e put → Child (nth (all_around before behind make hs) j) e (λ y. make (put y))
child_around hs j e put before behind make c = record {
  before = _;
  behind = _;
  back = λ y. make (c.back y);
  is = nth_map (around before behind make) hs j ∙ ap (option_map (around before behind make)) c.is;
  back_is = λ y. ap make (c.back_is y);
}

pub first_part : (e : Expression Nowhere) → Part 1 (λ os. row tt e os)
first_part e os j x put c =
    let next : suc j ≡ 1 + j = omega arith in
    subst (λ n. Child (nth_hole Nowhere of_expression (row tt e os) n) x (λ y. row tt e (put y))) next (child_around (operands_children os) j x put (expression_words e) [] (row tt e) c)

pub next_part : (n : ℕ) (make : Operands Nowhere → Expression Nowhere) → Part n make → (o : Operator) (e : Expression Nowhere) → Part (suc n) (λ os. make (operand o e os))
next_part n make part o e os j x put c =
    let next : n + suc j ≡ suc n + j = omega arith in
    let inner = child_around (operands_children os) j x put (operator_words o ++ expression_words e) [] (operand o e) c in
    subst (λ k. Child (nth_hole Nowhere of_expression (make (operand o e os)) k) x (λ y. make (operand o e (put y)))) next (part (operand o e os) (suc j) x (λ y. operand o e (put y)) inner)

pub here_part : (n : ℕ) (make : Operands Nowhere → Expression Nowhere) → Part n make → (o : Operator) (more : Operands Nowhere) (y : Expression Nowhere) → Child (nth_hole Nowhere of_expression (make (operand o y more)) n) y (λ z. make (operand o z more))
here_part n make part o more y =
    let here : n + 0 ≡ n = omega arith in
    subst (λ k. Child (nth_hole Nowhere of_expression (make (operand o y more)) k) y (λ z. make (operand o z more))) here
    (part (operand o y more) 0 y (λ z. operand o z more) (record { before = operator_words o; behind = operands_words more; back = λ x. operand o x more; is = refl; back_is = λ x. refl }))

-- ---- the steps

module _ (new : Option (Written (Expression Nowhere))) (test : Argument Span → Bool) where
  abbrev left : List (Argument Span) → List (Argument Nowhere)
  left xs = elements_left (node_of new) test xs

  abbrev own_steps : CallRef → Expression Span → List Step
  own_steps c e = if is_list e then passing_edited c new test 0 (elements_in e) else []

  -- the steps of an expression's own list, and then those of further lists
  own_first : (c : CallRef) (e : Expression Span) (ls : List (ValueList Span)) → lists_edited new test (and_more (own_list c e) ls) ≡ own_steps c e ++ lists_edited new test ls
  own_first c e ls = go (is_list e)
    where
      go : (b : Bool) → lists_edited new test (and_more (if b then Some (record { place = c; elements = elements_in e }) else None) ls) ≡ (if b then passing_edited c new test 0 (elements_in e) else []) ++ lists_edited new test ls
      go true = refl
      go false = refl

  module _ (limit : ℕ) (fits : NewFits limit new) where
    listing_low : (l : Listing Span) → listing_depth (erase_listing l) ≤ limit → suc (depth_of (map erase_argument (elements l))) ≤ limit
    listing_low l low = subst (λ ys. suc (depth_of ys) ≤ limit) (erased_elements l) (by (erase_listing l) low)
      where
        by : (m : Listing Nowhere) → listing_depth m ≤ limit → suc (depth_of (elements m)) ≤ limit
        by (listing s trailing list) small = omega (arith, small, ap arguments_depth (list-of-arguments list))

    left_low : (l : Listing Span) → listing_depth (erase_listing l) ≤ limit → listing_depth (list_with left l) ≤ limit
    left_low l low = omega (arith, with_depth (erase_listing l) (left (elements l)), left_depth test limit new fits (elements l) (listing_low l low))

    own_low : (e : Expression Span) → expression_depth (erase_expression e) ≤ limit → expression_depth (own_left left e) ≤ limit
    own_low (array l) low = left_low l low
    own_low (call s f l) low = go (is_files f.text (elements l))
      where
        go : (b : Bool) → expression_depth (if b then call tt (erase_name f) (list_with left l) else erase_expression (call s f l)) ≤ limit
        go true = left_low l low
        go false = low
    own_low e low = low

    operands_low : (os : Operands Span) → operands_depth (erase_operands os) ≤ limit → operands_depth (operands_left left os) ≤ limit
    operands_low no_operands low = low
    operands_low (operand o e more) low = omega (arith, own_low e (omega (arith, low)), operands_low more (omega (arith, low)))

    pub value_low : (e : Expression Span) → expression_depth (erase_expression e) ≤ limit → expression_depth (value_left left e) ≤ limit
    value_low (row s e os) low = go (are_plus os)
      where
        go : (b : Bool) → expression_depth (if b then row tt (own_left left e) (operands_left left os) else erase_expression (row s e os)) ≤ limit
        go true = omega (arith, own_low e (omega (arith, low)), operands_low os (omega (arith, low)))
        go false = low
    value_low e low = own_low e low

    -- ---- an expression's own list

    module _ (c : CallRef) (put : Expression Nowhere → Plain) (spot : Spot c.path.steps put) (deep : (y : Expression Nowhere) → expression_depth y ≤ limit → file_depth (put y) ≤ wide_depth) where
      -- the list of an array or a call
      list_done : (e : Expression Nowhere) (l : Listing Span) (i : ListIn Nowhere) → list_in e ≡ Some i → i.list ≡ erase_listing l → i.back i.list ≡ e → listing_depth (erase_listing l) ≤ limit
          → (trees : List Plain) → nth trees c.file ≡ Some (put e) → All MayStandBetween trees
          → Done (passing_edited c new test 0 (elements l)) trees (slice_set trees c.file (put (i.back (list_with left l))))
      list_done e l i is same back low trees at_ all =
          let p = spot e i is in
          let level = (list-fits Nowhere (put e) c.path.steps p.place p.is_place).level (all_nth MayStandBetween trees c.file (put e) all at_).0 in
          let own = itself p.place.list p.place.bracket level in
          let as_itself : with_elements i.list (map erase_argument (elements l)) ≡ i.list =
          ap (λ ys. with_elements i.list ys) (sym (erased_elements l) ∙ ap elements (sym same)) ∙ subst (λ m. with_elements m (elements m) ≡ m) p.list own in
          let here : nth trees c.file ≡ Some (put (i.back (with_elements i.list (map erase_argument (elements l))))) = at_ ∙ ap (λ x. Some (put x)) (sym back ∙ ap i.back (sym as_itself)) in
          let d = each_done c put spot limit deep e i is new fits test (elements l) [] 0 refl (omega (arith, low, some_depth (erase_listing l))) (listing_low l low) trees here all in
          subst (λ m. Done (passing_edited c new test 0 (elements l)) trees (slice_set trees c.file (put (i.back (with_elements m (left (elements l))))))) same d

      pub own_done : (e : Expression Span) → expression_depth (erase_expression e) ≤ limit → (trees : List Plain) → nth trees c.file ≡ Some (put (erase_expression e)) → All MayStandBetween trees
          → Done (own_steps c e) trees (slice_set trees c.file (put (own_left left e)))
      own_done (array l) low trees at_ all = list_done (array (erase_listing l)) l _ refl refl refl low trees at_ all
      own_done (call s f l) low trees at_ all = go (is_files f.text (elements l))
        where
          go : (b : Bool) → Done (if b then passing_edited c new test 0 (elements l) else []) trees (slice_set trees c.file (put (if b then call tt (erase_name f) (list_with left l) else erase_expression (call s f l))))
          go true = list_done (call tt (erase_name f) (erase_listing l)) l _ refl refl refl low trees at_ all
          go false = subst (Done [] trees) (sym (set_same trees c.file (put (erase_expression (call s f l))) at_)) (none_done trees all)
      own_done e low trees at_ all = subst (Done [] trees) (sym (set_same trees c.file (put (erase_expression e)) at_)) (none_done trees all)

    -- ---- the operands of a sum

    module _ (c : CallRef) (f : Frame c.path.steps) (deep : (y : Expression Nowhere) → expression_depth y ≤ limit → file_depth (whole c.path.steps f y) ≤ wide_depth) where
      abbrev Fitting : (Operands Nowhere → Expression Nowhere) → Type 0
      Fitting make = (os : Operands Nowhere) → operands_depth os ≤ limit → expression_depth (make os) ≤ limit

      abbrev standing : (Operands Nowhere → Expression Nowhere) → Operands Nowhere → Plain
      standing make os = whole c.path.steps f (make os)

      operands_done : (os : Operands Span) (n : ℕ) (make : Operands Nowhere → Expression Nowhere) → Part n make → Fitting make → operands_depth (erase_operands os) ≤ limit
          → (trees : List Plain) → nth trees c.file ≡ Some (standing make (erase_operands os)) → All MayStandBetween trees
          → Done (lists_edited new test (operand_lists c n os)) trees (slice_set trees c.file (standing make (operands_left left os)))
      operands_done no_operands n make part fitting low trees at_ all = subst (Done [] trees) (sym (set_same trees c.file (standing make no_operands) at_)) (none_done trees all)
      operands_done (operand o e more) n make part fitting low trees at_ all =
          let rest = erase_operands more in
          let now = own_left left e in
          let small = own_low e (omega (arith, low)) in
          let d = own_done (child c n) (λ y. standing make (operand o y rest)) (child_spot c.path.steps f n (λ y. make (operand o y rest)) (here_part n make part o rest))
          (λ y below. deep (make (operand o y rest)) (fitting (operand o y rest) (omega (arith, below, low)))) e (omega (arith, low)) trees at_ all in
          let further = operands_done more (suc n) (λ os. make (operand o now os)) (next_part n make part o now) (λ os below. fitting (operand o now os) (omega (arith, below, small))) (omega (arith, low)) _
          (changed_there trees c.file (standing make (operand o (erase_expression e) rest)) (standing make (operand o now rest)) at_) d.all_stand in
          subst (λ ss. Done ss trees (slice_set trees c.file (standing make (operand o now (operands_left left more))))) (sym (own_first (child c n) e (operand_lists c (suc n) more)))
          (then_done (own_steps (child c n) e) (lists_edited new test (operand_lists c (suc n) more)) trees _ _ d
          (subst (Done (lists_edited new test (operand_lists c (suc n) more)) _) (set_twice trees c.file (standing make (operand o now rest)) (standing make (operand o now (operands_left left more)))) further))

      -- ---- the value

      sum_done : (s : Span) (e : Expression Span) (os : Operands Span) → expression_depth (erase_expression (row s e os)) ≤ limit
          → (trees : List Plain) → nth trees c.file ≡ Some (whole c.path.steps f (row tt (erase_expression e) (erase_operands os))) → All MayStandBetween trees
          → Done (lists_edited new test (and_more (own_list (child c 0) e) (operand_lists c 1 os))) trees (slice_set trees c.file (whole c.path.steps f (row tt (own_left left e) (operands_left left os))))
      sum_done s e os low trees at_ all =
          let rest = erase_operands os in
          let now = own_left left e in
          let small = own_low e (omega (arith, low)) in
          let d = own_done (child c 0) (λ y. whole c.path.steps f (row tt y rest))
          (child_spot c.path.steps f 0 (λ y. row tt y rest) (λ y. record { before = []; behind = operands_words rest; back = λ x. row tt x rest; is = refl; back_is = λ x. refl }))
          (λ y below. deep (row tt y rest) (omega (arith, below, low))) e (omega (arith, low)) trees at_ all in
          let further = operands_done os 1 (λ qs. row tt now qs) (first_part now) (λ qs below. omega (arith, below, small)) (omega (arith, low)) _
          (changed_there trees c.file (whole c.path.steps f (row tt (erase_expression e) rest)) (whole c.path.steps f (row tt now rest)) at_) d.all_stand in
          subst (λ ss. Done ss trees (slice_set trees c.file (whole c.path.steps f (row tt now (operands_left left os))))) (sym (own_first (child c 0) e (operand_lists c 1 os)))
          (then_done (own_steps (child c 0) e) (lists_edited new test (operand_lists c 1 os)) trees _ _ d
          (subst (Done (lists_edited new test (operand_lists c 1 os)) _) (set_twice trees c.file (whole c.path.steps f (row tt now rest)) (whole c.path.steps f (row tt now (operands_left left os)))) further))

      abbrev ValueDone : Expression Span → List Plain → Type 0
      ValueDone e trees = Done (lists_edited new test (lists_of c e)) trees (slice_set trees c.file (whole c.path.steps f (value_left left e)))

      lone_done : (e : Expression Span) → expression_depth (erase_expression e) ≤ limit → (trees : List Plain) → nth trees c.file ≡ Some (whole c.path.steps f (erase_expression e)) → All MayStandBetween trees
          → Done (lists_edited new test (and_more (own_list c e) [])) trees (slice_set trees c.file (whole c.path.steps f (own_left left e)))
      lone_done e low trees at_ all =
          let now = slice_set trees c.file (whole c.path.steps f (own_left left e)) in
          let d = own_done c (whole c.path.steps f) (own_spot c.path.steps f) deep e low trees at_ all in
          subst (λ ss. Done ss trees now) (sym (own_first c e [])) (then_done (own_steps c e) [] trees now now d (none_done now d.all_stand))

      pub value_done : (e : Expression Span) → expression_depth (erase_expression e) ≤ limit → (trees : List Plain) → nth trees c.file ≡ Some (whole c.path.steps f (erase_expression e)) → All MayStandBetween trees → ValueDone e trees
      value_done (row s e os) low trees at_ all = go (are_plus os)
        where
          go : (b : Bool) → Done (lists_edited new test (if b then and_more (own_list (child c 0) e) (operand_lists c 1 os) else [])) trees
              (slice_set trees c.file (whole c.path.steps f (if b then row tt (own_left left e) (operands_left left os) else erase_expression (row s e os))))
          go true = sum_done s e os low trees at_ all
          go false = subst (Done [] trees) (sym (set_same trees c.file (whole c.path.steps f (erase_expression (row s e os))) at_)) (none_done trees all)
      value_done e low trees at_ all = lone_done e low trees at_ all
