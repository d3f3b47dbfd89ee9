-- The step that assigns another value may be done, and leaves that value.
use Rattle.std.proofs.Common.{◌≡◌, ℕ, ◌-◌, ◌≤◌, true, false, List, [], Option, Some, None, refl, sym, ap, ◌∙◌, arith}
use Rattle.std.specs.Prelude.{is_some, option_map, option_and_then}
use Rattle.std.proofs.Common.{leb-true}
use Rattle.meson_lex.specs.declared.kinds.Span.{Span}
use Rattle.meson_syntax.specs.Grammar.{LevelExpression, expression_depth, expression_words, file_depth}
use Rattle.meson_syntax.specs.Paths.{Sort, of_expression, of_statement, of_block, Node, Hole, nth, reach, block_of}
use Rattle.meson_syntax.specs.Tree.{Nowhere, Plain, Expression, Statement, assign, Block, File, erase, erase_name, erase_expression}
use Rattle.meson_syntax.proofs.parsing.Steps.{some-injective}
use Rattle.meson_syntax.proofs.paths.Reaching.{and-then-some, map-some}
use Rattle.meson_edit.specs.Assigned.{AssignedAt, assigned_at, assigned_in, assigned_of_node, assigned_within}
use Rattle.meson_edit.specs.Edits.{Assign, Written, edited}
use Rattle.meson_edit.specs.Holes.{WordsAround, words_around, erase_front}
use Rattle.meson_edit.specs.Places.{IsWrittenStatement}
use Rattle.meson_edit.proofs.paths.Erased.{nodes-erase}
use Rattle.meson_edit.proofs.sequences.Assigned.{assignments-deepen, assignments-keep-levels}
use Rattle.meson_edit.proofs.statements.Assigned.{named-at}
use Rattle.meson_calls.specs.declared.call.CallRef.{CallRef}
use Rattle.meson_calls.specs.Loading.{IsProject, Loaded, project}
use Rattle.meson_calls.specs.Project.{BuildFile, nth_file}
use Rattle.meson_steps.specs.ListSteps.{AreDoable, MayStandBetween, none}
use Rattle.meson_steps.specs.ResultLimits.{plain_trees}
use Rattle.meson_steps.specs.Steps.{Step, all_stepped, changed_at}
use Rattle.meson_steps.proofs.PlainTrees.{parsed_shallow, tree_there, trees_stand}
use Rattle.meson_steps.proofs.StepsDoable.{step_doable}
use Rattle.meson_steps.proofs.WithOne.{all_nth}
use Rattle.meson_places.specs.AssignedValues.{above, around, assign_steps, assigned_room, is_assigned, statement_of}
use Rattle.meson_places.specs.Laws.{AssignedIs}
use Rattle.meson_places.proofs.AssignedDepth.{assigned_depth}
use Rattle.meson_places.proofs.SetValues.{changed, one_step}

-- ---- the assignment in the tree without spans

statement_in : (sort : Sort) → Node sort Nowhere → Option (Statement Nowhere)
statement_in of_expression e = None
statement_in of_statement s = Some s
statement_in of_block b = None

no_some : {A : Type 0} (x : A) → None ≡ Some x → ⊥
no_some x e = absurd cc

bare_at : (f : Plain) (path : List ℕ) (x : Statement Nowhere) (sort : Sort) (i : Node sort Nowhere) (back : Node sort Nowhere → Block Nowhere) → statement_in sort i ≡ Some x → (a : Option (AssignedAt Nowhere)) → assigned_of_node Nowhere sort i f back ≡ a
    → is_some (assigned_in x) ≡ true → (q : AssignedAt Nowhere) × (a ≡ Some q)
unfolding statement_in
bare_at f path x of_expression i back is a at_ there = absurd (no_some x is)
bare_at f path x of_block i back is a at_ there = absurd (no_some x is)
bare_at f path x of_statement i back is a at_ there = go (assigned_in i) refl
  where
    go : (o : Option _) → assigned_in i ≡ o → (q : AssignedAt Nowhere) × (a ≡ Some q)
    go None empty = let no : false ≡ true = sym (ap is_some empty) ∙ ap (λ s. is_some (assigned_in s)) (some-injective _ _ is) ∙ there in absurd cc
    go (Some v) one = (assigned_within f back v, sym at_ ∙ ap (option_map (assigned_within f back)) one)

pub assigned_bare : (f : File Span) (path : List ℕ) (p : AssignedAt Span) → assigned_at f path ≡ Some p → (q : AssignedAt Nowhere) × (assigned_at (erase f) path ≡ Some q)
unfolding statement_in
assigned_bare f path p is =
    let g = named-at Span f path p is in
    let shown = nodes-erase f path ∙ ap (option_map (λ (h : Hole Span (Block Span)). erase_front (words_around h))) g.is_hole in
    let m = map-some (words_around {S = Nowhere} {T = Block Nowhere}) (reach Nowhere of_block (block_of (erase f)) path) _ shown in
    let h = m.0 in
    bare_at (erase f) path (assign tt (erase_name g.name) g.sign (erase_expression g.value)) h.sort h.inside h.back (ap (λ (w : WordsAround Nowhere). statement_in w.sort w.inside) m.2)
    (assigned_at (erase f) path) (sym (ap (option_and_then (λ j. assigned_of_node Nowhere j.sort j.inside (erase f) j.back)) m.1)) refl

-- ---- the step

there_is : {A : Type 0} (o : Option A) → is_some o ≡ true → (x : A) × (o ≡ Some x)
there_is None h = absurd cc
there_is (Some x) h = (x, refl)

module _ (old : Loaded) (is : IsProject old) (c : CallRef) (assigned : is_assigned (project old) c ≡ true) where
  abbrev path : List ℕ
  path = above c.path.steps

  abbrev trees : List Plain
  trees = plain_trees old

  record Place : Type 0 where
    tree : Plain
    is_tree : nth trees c.file ≡ Some tree
    place : AssignedAt Nowhere
    is_place : assigned_at tree path ≡ Some place

  the_place : Place
  the_place =
      let o = there_is (option_and_then (λ (f : BuildFile Span). assigned_at f.tree path) (nth_file (project old) c.file)) assigned in
      let f = and-then-some (λ (f : BuildFile Span). assigned_at f.tree path) (nth_file (project old) c.file) o.0 o.1 in
      let q = assigned_bare f.0.tree path o.0 f.2 in
      record { tree = erase f.0.tree; is_tree = tree_there old.files old.parsed c.file f.0 f.1; place = q.0; is_place = q.1 }

  module _ (w : Written (Expression Nowhere)) (writes : IsWrittenStatement w.bytes (expression_words w.node)) (level : LevelExpression w.node) (room : assigned_room c w.node ≡ true) where
    pub assign_doable : AreDoable (assign_steps c w) trees
    assign_doable =
        let p = the_place in
        let all = trees_stand old.files old.parsed is.parsed in
        let was = all_nth MayStandBetween trees c.file p.tree all p.is_tree in
        let low = all_nth (λ t. file_depth t ≤ 64) trees c.file p.tree (parsed_shallow old.files old.parsed is.parsed) p.is_tree in
        let now = p.place.back w.node in
        let made : edited (Assign path w) p.tree ≡ Some now = ap (option_map (λ (q : AssignedAt Nowhere). q.back w.node)) p.is_place in
        let fits = leb-true (expression_depth w.node) (64 - around path) room in
        let one = assignments-deepen path w p.tree now made in
        let two = assigned_depth p.tree path p.place p.is_place w.node in
        step_doable (record { file = c.file; edit = Assign path w }) [] trees p.tree now p.is_tree made writes all
        (assignments-keep-levels path w level p.tree now was.0 made, omega (arith, fits, one, two, low)) (none _)

-- ---- what it leaves

pub assigned_left : (c : CallRef) (w : Written (Expression Nowhere)) (before after : List Plain) → all_stepped (assign_steps c w) before ≡ Some after → AssignedIs (statement_of c) w.node before after
assigned_left c w before after done =
    let s : Step = record { file = c.file; edit = Assign (above c.path.steps) w } in
    let h = changed c.file (edited s.edit) before after (one_step s before after done) in
    let m = map-some (λ (p : AssignedAt Nowhere). p.back w.node) (assigned_at h.was (above c.path.steps)) h.now h.is_now in
    record {
      tree = h.was;
      is_tree = h.is_was;
      place = m.0;
      is_place = m.1;
      is_after = ap (λ (y : Plain). changed_at c.file (λ (t : Plain). Some y) before) m.2 ∙ h.is_after;
    }
