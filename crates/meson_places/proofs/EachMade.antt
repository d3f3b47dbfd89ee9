-- The steps at the value of one assignment, between other steps: they may be done, and what they make of it.
use Rattle.std.proofs.Common.{◌≡◌, ℕ, suc, ◌+◌, ◌≤◌, List, [], ◌∷◌, ◌++◌, Option, Some, None, refl, sym, ap, ◌∙◌, subst, arith}
use Rattle.std.specs.Prelude.{All, Bool, false, true, max, slice_set, option_map}
use Rattle.std.proofs.lemmas.List.Elements.{All-set}
use Rattle.meson_lex.specs.declared.kinds.Span.{Span}
use Rattle.meson_syntax.specs.Grammar.{LevelExpression, expression_depth, expression_words, file_depth}
use Rattle.meson_syntax.specs.Paths.{nth}
use Rattle.meson_syntax.specs.Tree.{Argument, Expression, array, Nowhere, Plain, erase_expression}
use Rattle.meson_syntax.proofs.paths.Every.{Every}
use Rattle.meson_edit.specs.Assigned.{AssignedAt}
use Rattle.meson_edit.specs.Edits.{Assign, Written, edited, is_empty}
use Rattle.meson_edit.specs.Places.{IsWritten, IsWrittenStatement}
use Rattle.meson_edit.proofs.sequences.Assigned.{assignments-keep-levels}
use Rattle.meson_calls.specs.declared.call.CallRef.{CallRef}
use Rattle.meson_calls.specs.Loading.{Loaded, project}
use Rattle.meson_calls.specs.Project.{expression_at}
use Rattle.meson_steps.specs.ListSteps.{MayStandBetween}
use Rattle.meson_steps.specs.ResultLimits.{AreShallow, plain_trees}
use Rattle.meson_steps.specs.Steps.{Step}
use Rattle.meson_steps.proofs.WithOne.{all_nth, change_there}
use Rattle.meson_places.specs.AssignedValues.{above, around, assign_steps}
use Rattle.meson_places.specs.Expressions.{EachIs, ExpressionIs, with_expression}
use Rattle.meson_places.specs.Replacements.{have_room}
use Rattle.meson_places.specs.Room.{alone}
use Rattle.meson_places.specs.SaidElements.{elements_left, lists_edited, value_left}
use Rattle.meson_places.specs.ValueLists.{lists_of}
use Rattle.meson_places.proofs.Apart.{Pairs}
use Rattle.meson_places.proofs.AssignedPlaced.{Placed, PlacesApart, assigned_place, in_frame, placed_still, put, put_deep, put_is, put_low, was_low}
use Rattle.meson_places.proofs.ElementsEdited.{Done, NewFits, node_of, none_done, one_done, set_same, then_done}
use Rattle.meson_places.proofs.Frames.{whole, with_there}
use Rattle.meson_places.proofs.ListsEdited.{value_done, value_low}
use Rattle.meson_places.proofs.ValuesEdited.{value_room}

-- ---- one value

-- whatever the trees are that have it there
abbrev pub Makes : CallRef → (was now : Expression Nowhere) → List Step → Type 0
Makes c v now steps =
    (ts : List Plain) → All MayStandBetween ts → AreShallow ts → (p : Placed ts c v) → Done steps ts (slice_set ts c.file (put ts c v p now)) × (file_depth (put ts c v p now) ≤ 64)

there : (ts : List Plain) (c : CallRef) (v : Expression Nowhere) (p : Placed ts c v) → nth ts c.file ≡ Some (put ts c v p v)
there ts c v p = p.is_tree ∙ ap Some (in_frame ts c v p).is_whole

pub tree_low : (ts : List Plain) (c : CallRef) (v : Expression Nowhere) (p : Placed ts c v) → AreShallow ts → file_depth p.tree ≤ 64
tree_low ts c v p low = all_nth (λ t. file_depth t ≤ 64) ts c.file p.tree low p.is_tree

pub makes_nothing : (c : CallRef) (v : Expression Nowhere) → Makes c v v []
makes_nothing c v ts all low p = (
  subst (Done [] ts) (sym (set_same ts c.file (put ts c v p v) (there ts c v p))) (none_done ts all),
  all_nth (λ t. file_depth t ≤ 64) ts c.file (put ts c v p v) low (there ts c v p),
)

module _ (c : CallRef) (e : Expression Span) (test : Argument Span → Bool) where
  abbrev v : Expression Nowhere
  v = erase_expression e

  by_lists : (new : Option (Written (Expression Nowhere))) (limit : ℕ) → NewFits limit new → expression_depth v ≤ limit → (ts : List Plain) → All MayStandBetween ts → AreShallow ts → (p : Placed ts c v) → around (above c.path.steps) + limit ≤ 64
      → Done (lists_edited new test (lists_of c e)) ts (slice_set ts c.file (put ts c v p (value_left (elements_left (node_of new) test) e))) × (file_depth (put ts c v p (value_left (elements_left (node_of new) test) e)) ≤ 64)
  by_lists new limit fits small ts all low p bound =
      let f = (in_frame ts c v p).frame in
      let deep : (y : Expression Nowhere) → expression_depth y ≤ limit → file_depth (whole c.path.steps f y) ≤ 64 = λ y below. omega (arith, put_deep ts c v p y, bound, below, tree_low ts c v p low) in (
        value_done new test limit fits c f (λ y below. omega (arith, deep y below)) e small ts (there ts c v p) all,
        deep (value_left (elements_left (node_of new) test) e) (value_low new test limit fits e small),
      )

  -- elements go
  pub makes_gone : Makes c v (value_left (elements_left None test) e) (lists_edited None test (lists_of c e))
  makes_gone ts all low p = by_lists None (expression_depth v) tt (omega arith) ts all low p (omega (arith, was_low ts c v p, tree_low ts c v p low))

  -- they become another one
  pub makes_other : (w : Written (Expression Nowhere)) → IsWritten w.bytes (expression_words w.node) → LevelExpression w.node → around (above c.path.steps) + suc (expression_depth w.node) ≤ 64
      → Makes c v (value_left (elements_left (Some w.node) test) e) (lists_edited (Some w) test (lists_of c e))
  makes_other w writes level bound ts all low p =
      by_lists (Some w) (max (expression_depth v) (suc (expression_depth w.node))) (record { writes = writes; level = level; small = omega arith }) (omega arith) ts all low p
      (omega (arith, bound, was_low ts c v p, tree_low ts c v p low))

-- a value without a list becomes another one
pub makes_alone : (c : CallRef) (v : Expression Nowhere) (w : Written (Expression Nowhere)) → IsWrittenStatement w.bytes (expression_words w.node) → LevelExpression w.node → around (above c.path.steps) + expression_depth w.node ≤ 64
    → Makes c v w.node (assign_steps c w)
makes_alone c v w writes level bound ts all low p =
    let now = put ts c v p w.node in
    let made : edited (Assign (above c.path.steps) w) p.tree ≡ Some now = ap (option_map (λ (q : AssignedAt Nowhere). q.back w.node)) (assigned_place ts c v p) ∙ ap Some (sym (put_is ts c v p w.node)) in
    let was = all_nth MayStandBetween ts c.file p.tree all p.is_tree in
    let deep : file_depth now ≤ 64 = omega (arith, put_deep ts c v p w.node, bound, tree_low ts c v p low) in
    (one_done c (Assign (above c.path.steps) w) ts p.tree now p.is_tree writes made (assignments-keep-levels (above c.path.steps) w level p.tree now was.0 made, omega (arith, deep)) all, deep)

-- where a list of it has room for an expression, so has each tree that has it there
pub lists_bound : (l : Loaded) (c : CallRef) (e : Expression Span) (p : Placed (plain_trees l) c (erase_expression e)) (new : Expression Nowhere) → have_room l new (lists_of c e) ≡ true → is_empty (lists_of c e) ≡ false
    → around (above c.path.steps) + suc (expression_depth new) ≤ 64
lists_bound l c e p new room some =
    let ts = plain_trees l in
    let v = erase_expression e in
    let roomy = value_room ts c (in_frame ts c v p).frame new e (there ts c v p) room some in
    let y = array (alone new) in
    let low = put_low ts c v p y in
    let high = roomy y (omega arith) in
    omega (arith, low, high)

-- ---- one after another

module _ (l : Loaded) (make : CallRef → Expression Span → Expression Nowhere) where
  abbrev pub StandsIn : List Plain → CallRef → Type 0
  StandsIn ts c = (e : Expression Span) → expression_at (project l) c ≡ Some e → Placed ts c (erase_expression e)

  pub record One (c : CallRef) (own : List Step) : Type 0 where
    pub it : Expression Span
    pub is_it : expression_at (project l) c ≡ Some it
    pub makes : Makes c (erase_expression it) (make c it) own

  abbrev pub AreMade : List CallRef → List Step → Type 0
  AreMade [] steps = [] ≡ steps
  AreMade (c ∷ cs) steps = (own : List Step) × (more : List Step) × (own ++ more ≡ steps) × One c own × AreMade cs more

  pub record AllMade (cs : List CallRef) (steps : List Step) (ts : List Plain) : Type 0 where
    pub after : List Plain
    pub done : Done steps ts after
    pub is : EachIs (project l) make cs ts after

  still_there : (c : CallRef) (v y : Expression Nowhere) (ts : List Plain) (p : Placed ts c v) (ds : List CallRef) → Every (PlacesApart c) ds → Every (StandsIn ts) ds → Every (StandsIn (slice_set ts c.file (put ts c v p y))) ds
  still_there c v y ts p [] apart stand = tt
  still_there c v y ts p (d ∷ ds) apart stand = ((λ e at_. placed_still ts c d v (erase_expression e) p y apart.0 (stand.0 e at_)), still_there c v y ts p ds apart.1 stand.1)

  pub all_made : (cs : List CallRef) (steps : List Step) → AreMade cs steps → Pairs PlacesApart cs → (ts : List Plain) → All MayStandBetween ts → AreShallow ts → Every (StandsIn ts) cs → AllMade cs steps ts
  all_made [] steps are apart ts all low stand = subst (λ ss. AllMade [] ss ts) are (record { after = ts; done = none_done ts all; is = refl })
  all_made (c ∷ cs) steps are apart ts all low stand =
      let o = are.3 in
      let v = erase_expression o.it in
      let now = make c o.it in
      let p = stand.0 o.it o.is_it in
      let m = o.makes ts all low p in
      let between = slice_set ts c.file (put ts c v p now) in
      let low_now : AreShallow between = All-set (λ t. file_depth t ≤ 64) ts c.file (put ts c v p now) m.1 low in
      let rest = all_made cs are.1 are.4 apart.1 between m.0.all_stand low_now (still_there c v now ts p cs apart.0 stand.1) in
      let is_now : ExpressionIs c now ts between =
      change_there (with_expression c.path.steps now) ts c.file p.tree (put ts c v p now) p.is_tree (ap (with_expression c.path.steps now) (in_frame ts c v p).is_whole ∙ with_there c.path.steps (in_frame ts c v p).frame v now) in
      subst (λ ss. AllMade (c ∷ cs) ss ts) are.2 (record { after = rest.after; done = then_done are.0 are.1 ts between rest.after m.0 rest.done; is = (o.it, o.is_it, (between, is_now, rest.is)) })
