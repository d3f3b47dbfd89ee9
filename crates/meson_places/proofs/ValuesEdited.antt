-- The lists of a value in a project lose elements, or these get another value: the steps may be done, and the value is what is left.
use Rattle.std.proofs.Common.{◌≡◌, ℕ, suc, ◌≤◌, true, false, List, [], Option, Some, None, refl, sym, ap, ◌∙◌, arith}
use Rattle.std.specs.Prelude.{Bool, max, nat_le, slice_set, option_and_then, if◌then◌else◌}
use Rattle.std.specs.List.{list_all}
use Rattle.std.proofs.lemmas.Bool.{and_parts, leb-false, leb-true}
use Rattle.meson_lex.specs.declared.kinds.Span.{Span}
use Rattle.meson_syntax.specs.Grammar.{LevelExpression, expression_depth, expression_words, operands_depth, file_depth, operands_words}
use Rattle.meson_syntax.specs.Paths.{ListIn, expression_on_path, list_at, list_in, nth}
use Rattle.meson_syntax.specs.Tree.{Argument, Expression, array, call, row, Operands, no_operands, operand, Nowhere, Plain, erase, erase_expression, erase_operands}
use Rattle.meson_syntax.proofs.paths.Reaching.{and-then-some}
use Rattle.meson_edit.specs.Edits.{Written, is_empty}
use Rattle.meson_edit.specs.Places.{IsWritten}
use Rattle.meson_calls.specs.declared.call.CallRef.{CallRef}
use Rattle.meson_calls.specs.Loading.{IsProject, Loaded, project}
use Rattle.meson_calls.specs.Project.{BuildFile, child, expression_at, nth_file}
use Rattle.meson_steps.specs.ListSteps.{wide_depth}
use Rattle.meson_steps.specs.ResultLimits.{plain_trees}
use Rattle.meson_steps.specs.Steps.{Step}
use Rattle.meson_steps.proofs.PlainTrees.{parsed_shallow, tree_there, trees_stand}
use Rattle.meson_steps.proofs.WithOne.{all_nth, change_there}
use Rattle.meson_places.specs.Expressions.{ExpressionIs, with_expression}
use Rattle.meson_places.specs.Replacements.{have_room}
use Rattle.meson_places.specs.Room.{alone, has_room, list_in_trees}
use Rattle.meson_places.specs.SaidElements.{elements_left, lists_edited, value_left}
use Rattle.meson_places.specs.Slots.{elements_in}
use Rattle.meson_places.specs.ValueLists.{ValueList, and_more, are_plus, is_list, lists_of, operand_lists, own_list}
use Rattle.meson_places.proofs.ElementsEdited.{Done, NewFits, form_depth, node_of}
use Rattle.meson_places.proofs.Frames.{Frame, Framed, Spot, child_spot, erased_there, framed, grows, own_spot, whole, with_there}
use Rattle.meson_places.proofs.ListsEdited.{Part, first_part, here_part, next_part, value_done}

-- ---- an expression of a project, in its frame

record Standing (old : Loaded) (c : CallRef) (e : Expression Span) : Type 0 where
  tree : Plain
  is_tree : nth (plain_trees old) c.file ≡ Some tree
  low : file_depth tree ≤ 64
  framed : Framed tree c.path.steps (erase_expression e)

standing : (old : Loaded) → IsProject old → (c : CallRef) (e : Expression Span) → expression_at (project old) c ≡ Some e → Standing old c e
standing old is c e at_ =
    let o = and-then-some (λ (g : BuildFile Span). expression_on_path g.tree c.path.steps) (nth_file (project old) c.file) e at_ in
    let there = tree_there old.files old.parsed c.file o.0 o.1 in
    record {
      tree = erase o.0.tree;
      is_tree = there;
      low = all_nth (λ t. file_depth t ≤ 64) (plain_trees old) c.file (erase o.0.tree) (parsed_shallow old.files old.parsed is.parsed) there;
      framed = framed (erase o.0.tree) c.path.steps (erase_expression e) (erased_there o.0.tree c.path.steps e o.2);
    }

-- ---- room for an expression in one of its lists

listed : (e : Expression Span) → is_list e ≡ true → (i : ListIn Nowhere) × (list_in (erase_expression e) ≡ Some i)
listed (array l) is = (_, refl)
listed (call s f l) is = (_, refl)
listed _ is = absurd (let no : ⊥ = cc in no)

module _ (trees : List Plain) (c : CallRef) (f : Frame c.path.steps) (new : Expression Nowhere) where
  abbrev put : Expression Nowhere → Plain
  put = whole c.path.steps f

  -- with any expression that is no deeper than a list of the new one alone, the file is not too deep
  abbrev pub Roomy : Type 0
  Roomy = (y : Expression Nowhere) → expression_depth y ≤ suc (expression_depth new) → file_depth (put y) ≤ 64

  abbrev fits_at : ValueList Span → Bool
  fits_at x = has_room new (list_in_trees trees x.place)

  own_room : (d : CallRef) (make : Expression Nowhere → Expression Nowhere) → Spot d.path.steps (λ y. put (make y)) → ((y : Expression Nowhere) → expression_depth y ≤ expression_depth (make y))
      → (e : Expression Span) → is_list e ≡ true → nth trees d.file ≡ Some (put (make (erase_expression e))) → has_room new (list_in_trees trees d) ≡ true → Roomy
  own_room d make spot deeper e is there room y small =
      let i = listed e is in
      let p = spot (erase_expression e) i.0 i.1 in
      let found : list_in_trees trees d ≡ Some p.place = ap (option_and_then (λ t. list_at t d.path.steps)) there ∙ p.is_place in
      let low : file_depth (p.place.back (alone new)) ≤ 64 = leb-true (file_depth (p.place.back (alone new))) 64 (sym (ap (has_room new) found) ∙ room) in
      let wide = make (i.0.back (alone new)) in
      let same : file_depth (p.place.back (alone new)) ≡ file_depth (put wide) = ap file_depth (p.back (alone new)) in
      let one : expression_depth (i.0.back (alone new)) ≡ suc (expression_depth new) = omega (arith, form_depth (erase_expression e) i.0 i.1 (alone new)) in
      let grown = grows c.path.steps f wide y 0 (omega (arith, small, one, deeper (i.0.back (alone new)))) in
      omega (arith, grown, same, low)

  own_first : (d : CallRef) (make : Expression Nowhere → Expression Nowhere) → Spot d.path.steps (λ y. put (make y)) → ((y : Expression Nowhere) → expression_depth y ≤ expression_depth (make y))
      → (e : Expression Span) (later : List (ValueList Span)) → nth trees d.file ≡ Some (put (make (erase_expression e))) → list_all fits_at (and_more (own_list d e) later) ≡ true → is_empty (and_more (own_list d e) later) ≡ false
      → (list_all fits_at later ≡ true → is_empty later ≡ false → Roomy) → Roomy
  own_first d make spot deeper e later there all some rest = go (is_list e) refl all some
    where
      go : (b : Bool) → is_list e ≡ b → list_all fits_at (and_more (if b then Some (record { place = d; elements = elements_in e }) else None) later) ≡ true
          → is_empty (and_more (if b then Some (record { place = d; elements = elements_in e }) else None) later) ≡ false → Roomy
      go true is fit some_there = own_room d make spot deeper e is there (and_parts (has_room new (list_in_trees trees d)) (list_all fits_at later) fit).0
      go false is fit some_there = rest fit some_there

  abbrev Deeper : (Operands Nowhere → Expression Nowhere) → Type 0
  Deeper make = (os : Operands Nowhere) → operands_depth os ≤ expression_depth (make os)

  operands_room : (os : Operands Span) (n : ℕ) (make : Operands Nowhere → Expression Nowhere) → Part n make → Deeper make → nth trees c.file ≡ Some (put (make (erase_operands os)))
      → list_all fits_at (operand_lists c n os) ≡ true → is_empty (operand_lists c n os) ≡ false → Roomy
  operands_room no_operands n make part deeper there all some = absurd (let no : ⊥ = cc in no)
  operands_room (operand o e more) n make part deeper there all some =
      own_first (child c n) (λ y. make (operand o y (erase_operands more))) (child_spot c.path.steps f n (λ y. make (operand o y (erase_operands more))) (here_part n make part o (erase_operands more)))
      (λ y. omega (arith, deeper (operand o y (erase_operands more)))) e (operand_lists c (suc n) more) there all some
      (operands_room more (suc n) (λ os. make (operand o (erase_expression e) os)) (next_part n make part o (erase_expression e)) (λ os. omega (arith, deeper (operand o (erase_expression e) os))) there)

  pub value_room : (e : Expression Span) → nth trees c.file ≡ Some (put (erase_expression e)) → list_all fits_at (lists_of c e) ≡ true → is_empty (lists_of c e) ≡ false → Roomy
  value_room (row s e os) there all some = go (are_plus os) all some
    where
      go : (b : Bool) → list_all fits_at (if b then and_more (own_list (child c 0) e) (operand_lists c 1 os) else []) ≡ true → is_empty (if b then and_more (own_list (child c 0) e) (operand_lists c 1 os) else []) ≡ false → Roomy
      go true fit some_there =
          own_first (child c 0) (λ y. row tt y (erase_operands os))
          (child_spot c.path.steps f 0 (λ y. row tt y (erase_operands os)) (λ y. record { before = []; behind = operands_words (erase_operands os); back = λ x. row tt x (erase_operands os); is = refl; back_is = λ x. refl }))
          (λ y. omega arith) e (operand_lists c 1 os) there fit some_there
          (operands_room os 1 (λ qs. row tt (erase_expression e) qs) (first_part (erase_expression e)) (λ qs. omega arith) there)
      go false fit some_there = absurd (let no : ⊥ = cc in no)
  value_room e there all some = own_first c (λ y. y) (own_spot c.path.steps f) (λ y. omega arith) e [] there all some (λ fit none. absurd (let no : ⊥ = cc in no))

-- ---- the value is changed

pub record ValueEdited (c : CallRef) (now : Expression Nowhere) (steps : List Step) (before : List Plain) : Type 0 where
  pub after : List Plain
  pub done : Done steps before after
  pub is : ExpressionIs c now before after

module _ (old : Loaded) (is : IsProject old) (c : CallRef) (e : Expression Span) (at_ : expression_at (project old) c ≡ Some e) (test : Argument Span → Bool) where
  abbrev before : List Plain
  before = plain_trees old

  abbrev path : List ℕ
  path = c.path.steps

  edited_by : (new : Option (Written (Expression Nowhere))) (limit : ℕ) → NewFits limit new → expression_depth (erase_expression e) ≤ limit → (s : Standing old c e)
      → ((y : Expression Nowhere) → expression_depth y ≤ limit → file_depth (whole path s.framed.frame y) ≤ wide_depth) → ValueEdited c (value_left (elements_left (node_of new) test) e) (lists_edited new test (lists_of c e)) before
  edited_by new limit fits low s deep =
      let f = s.framed.frame in
      let v = erase_expression e in
      let now = value_left (elements_left (node_of new) test) e in
      record {
        after = slice_set before c.file (whole path f now);
        done = value_done new test limit fits c f deep e low before (s.is_tree ∙ ap Some s.framed.is_whole) (trees_stand old.files old.parsed is.parsed);
        is = change_there (with_expression path now) before c.file s.tree (whole path f now) s.is_tree (ap (with_expression path now) s.framed.is_whole ∙ with_there path f v now);
      }

  old_deep : (s : Standing old c e) (y : Expression Nowhere) → expression_depth y ≤ expression_depth (erase_expression e) → file_depth (whole path s.framed.frame y) ≤ 64
  old_deep s y small =
      let grown = grows path s.framed.frame (erase_expression e) y 0 (omega (arith, small)) in
      let same = ap file_depth s.framed.is_whole in
      let low = s.low in
      omega (arith, grown, same, low)

  pub elements_go : ValueEdited c (value_left (elements_left None test) e) (lists_edited None test (lists_of c e)) before
  elements_go =
      let s = standing old is c e at_ in
      edited_by None (expression_depth (erase_expression e)) tt (omega arith) s (λ y small. omega (arith, old_deep s y small))

  module _ (w : Written (Expression Nowhere)) (writes : IsWritten w.bytes (expression_words w.node)) (level : LevelExpression w.node) (some : is_empty (lists_of c e) ≡ false) (room : have_room old w.node (lists_of c e) ≡ true) where
    abbrev v : Expression Nowhere
    v = erase_expression e

    pub elements_become : ValueEdited c (value_left (elements_left (Some w.node) test) e) (lists_edited (Some w) test (lists_of c e)) before
    elements_become =
        let s = standing old is c e at_ in
        let roomy = value_room before c s.framed.frame w.node e (s.is_tree ∙ ap Some s.framed.is_whole) room some in
        edited_by (Some w) (max (expression_depth v) (suc (expression_depth w.node))) (record { writes = writes; level = level; small = omega arith }) (omega arith) s
        (λ y small. deep s roomy y small (nat_le (expression_depth y) (expression_depth v)) refl)
      where
        deep : (s : Standing old c e) → Roomy before c s.framed.frame w.node → (y : Expression Nowhere) → expression_depth y ≤ max (expression_depth v) (suc (expression_depth w.node)) → (b : Bool) → nat_le (expression_depth y) (expression_depth v) ≡ b
            → file_depth (whole path s.framed.frame y) ≤ wide_depth
        deep s roomy y small true h = omega (arith, old_deep s y (leb-true (expression_depth y) (expression_depth v) h))
        deep s roomy y small false h = omega (arith, roomy y (omega (arith, small, leb-false (expression_depth y) (expression_depth v) h)))
