-- The assignment at a place of the trees between two steps: its file with another value, how deep that is, and that it stays when another one is changed.
use Rattle.std.proofs.Common.{◌≡◌, ℕ, zero, suc, ◌+◌, ◌-◌, ◌≤◌, List, [], ◌∷◌, ◌++◌, length, length-append, take, Option, Some, None, refl, sym, ap, ◌∙◌, subst, arith, inl, inr}
use Rattle.std.specs.Prelude.{Bool, true, false, nat_eq, ◌⊎◌, max, slice_set, option_map, option_and_then}
use Rattle.std.proofs.lemmas.Bool.{eq-eqb, eqb-true}
use Rattle.meson_lex.specs.Significant.{Word}
use Rattle.meson_syntax.specs.declared.operator.Assignment.{Assignment}
use Rattle.meson_syntax.specs.Children.{Any, an_expression, a_statement, a_block}
use Rattle.meson_syntax.specs.inside.Children.{any_of, node_at}
use Rattle.meson_syntax.specs.Grammar.{expression_depth, file_depth}
use Rattle.meson_syntax.specs.Paths.{Sort, of_expression, of_statement, of_block, Node, Hole, block_of, expression_in, expression_of, expression_on_path, nth, reach, with_block}
use Rattle.meson_syntax.specs.Tree.{Block, Expression, Name, Nowhere, Plain, Statement, assign, file}
use Rattle.meson_syntax.proofs.PathNodes.{inside_of, reached}
use Rattle.meson_syntax.proofs.parsing.Steps.{some-injective}
use Rattle.meson_syntax.proofs.paths.Reaching.{map-some}
use Rattle.meson_edit.specs.Assigned.{AssignedAt, assigned_at, assigned_of_node}
use Rattle.meson_edit.proofs.paths.PutThere.{reach-stays}
use Rattle.meson_calls.specs.declared.call.CallRef.{CallRef}
use Rattle.meson_steps.proofs.InnerPlaces.{below}
use Rattle.meson_steps.proofs.WithOne.{changed_there}
use Rattle.meson_places.specs.AssignedValues.{above, around}
use Rattle.meson_places.specs.Expressions.{put_back, with_expression}
use Rattle.meson_places.proofs.Apart.{Apart, apart_longer, away}
use Rattle.meson_places.proofs.AssignedDepth.{assigned_depth, statement_low}
use Rattle.meson_places.proofs.Frames.{Frame, Framed, framed, whole, with_there}

-- ---- paths of assigned values

pub above_child : (path : List ℕ) (n : ℕ) → above (path ++ n ∷ []) ≡ path
above_child path n = let many : length (path ++ n ∷ []) - 1 ≡ length path = omega (arith, length-append path (n ∷ [])) in ap (λ k. take k (path ++ n ∷ [])) many ∙ front path
  where
    front : (p : List ℕ) → take (length p) (p ++ n ∷ []) ≡ p
    front [] = refl
    front (x ∷ p) = ap (λ l. x ∷ l) (front p)

-- ---- the assignment at a place

pub record Placed (ts : List Plain) (c : CallRef) (v : Expression Nowhere) : Type 0 where
  pub is_child : c.path.steps ≡ above c.path.steps ++ 0 ∷ []
  pub tree : Plain
  pub is_tree : nth ts c.file ≡ Some tree
  pub name : Name Nowhere
  pub sign : Assignment
  pub is_node : node_at (a_block (block_of tree)) (above c.path.steps) ≡ Some (a_statement (assign tt name sign v))

-- the hole in which it is
pub record Holed (t : Plain) (path : List ℕ) (s : Statement Nowhere) : Type 0 where
  pub before : List Word
  pub behind : List Word
  pub back : Statement Nowhere → Block Nowhere
  pub is_hole : reach Nowhere of_block (block_of t) path ≡ Some (record { sort = of_statement; inside = s; before = before; behind = behind; back = back })

holed : (t : Plain) (path : List ℕ) (s : Statement Nowhere) → node_at (a_block (block_of t)) path ≡ Some (a_statement s) → Holed t path s
unfolding inside_of
holed t path s is =
    let m = map-some (inside_of Nowhere {T = Block Nowhere}) (reach Nowhere of_block (block_of t) path) (a_statement s) (sym (reached Nowhere of_block (block_of t) path) ∙ is) in
    go m.0.sort m.0.inside m.0.before m.0.behind m.0.back m.1 m.2
  where
    go : (sort : Sort) (i : Node sort Nowhere) (before behind : List Word) (back : Node sort Nowhere → Block Nowhere)
        → reach Nowhere of_block (block_of t) path ≡ Some (record { sort = sort; inside = i; before = before; behind = behind; back = back }) → any_of Nowhere sort i ≡ a_statement s → Holed t path s
    go of_expression i before behind back h same = absurd cc
    go of_block i before behind back h same = absurd cc
    go of_statement i before behind back h same =
        let equal : i ≡ s = cc in
        subst (Holed t path) equal (record { before = before; behind = behind; back = back; is_hole = h })

module _ (ts : List Plain) (c : CallRef) (v : Expression Nowhere) (p : Placed ts c v) where
  abbrev path : List ℕ
  path = above c.path.steps

  pub hole : Holed p.tree path (assign tt p.name p.sign v)
  hole = holed p.tree path (assign tt p.name p.sign v) p.is_node

  -- the file with another value
  abbrev pub with_value : Expression Nowhere → Plain
  with_value y = with_block p.tree (hole.back (assign tt p.name p.sign y))

  -- so it is found at its place
  is_there : expression_on_path p.tree c.path.steps ≡ Some v
  is_there =
      let b = below of_block (block_of p.tree) path 0 v _ hole.is_hole (λ z. assign tt p.name p.sign z) (record { before = _; behind = []; back = λ z. assign tt p.name p.sign z; is = refl; back_is = λ z. refl }) in
      ap (expression_on_path p.tree) p.is_child ∙ ap (option_and_then (λ (h : Hole Nowhere (Block Nowhere)). expression_of Nowhere h.sort h.inside)) b.is

  pub in_frame : Framed p.tree c.path.steps v
  in_frame = framed p.tree c.path.steps v is_there

  abbrev pub put : Expression Nowhere → Plain
  put y = whole c.path.steps in_frame.frame y

  pub put_is : (y : Expression Nowhere) → put y ≡ with_value y
  put_is y =
      let b = below of_block (block_of p.tree) path 0 v _ hole.is_hole (λ z. assign tt p.name p.sign z) (record { before = _; behind = []; back = λ z. assign tt p.name p.sign z; is = refl; back_is = λ z. refl }) in
      let one : with_expression c.path.steps y p.tree ≡ Some (put y) = ap (with_expression c.path.steps y) in_frame.is_whole ∙ with_there c.path.steps in_frame.frame v y in
      let two : with_expression c.path.steps y p.tree ≡ Some (with_block p.tree (b.back y)) =
      ap (λ l. with_expression l y p.tree) p.is_child ∙ ap (λ o. option_map (with_block p.tree) (option_and_then (λ (h : Hole Nowhere (Block Nowhere)). put_back h.sort h.back y) o)) b.is in
      some-injective _ _ (sym one ∙ two) ∙ ap (with_block p.tree) (b.back_is y)

  pub assigned_place : assigned_at p.tree path ≡ Some (record { value = v; back = with_value })
  assigned_place = ap (option_and_then (λ (h : Hole Nowhere (Block Nowhere)). assigned_of_node Nowhere h.sort h.inside p.tree h.back)) hole.is_hole

  -- ---- depths

  pub put_deep : (y : Expression Nowhere) → file_depth (put y) ≤ max (file_depth p.tree) (around path + expression_depth y)
  put_deep y = subst (λ t. file_depth t ≤ max (file_depth p.tree) (around path + expression_depth y)) (sym (put_is y)) (assigned_depth p.tree path _ assigned_place y)

  block_depths : (t : Plain) (b : Block Nowhere) → file_depth (with_block t b) ≡ file_depth (file tt b)
  block_depths (file s c) b = refl

  pub put_low : (y : Expression Nowhere) → around path + expression_depth y ≤ file_depth (put y)
  put_low y =
      let there = reach-stays Nowhere of_block (block_of p.tree) path _ hole.is_hole (assign tt p.name p.sign y) in
      let low = statement_low (hole.back (assign tt p.name p.sign y)) path (assign tt p.name p.sign y) hole.before hole.behind hole.back there in
      let same = ap file_depth (put_is y) ∙ block_depths p.tree (hole.back (assign tt p.name p.sign y)) in
      omega (arith, low, same)

  pub was_low : around path + expression_depth v ≤ file_depth p.tree
  was_low = let low = put_low v in let same = ap file_depth in_frame.is_whole in omega (arith, low, same)

-- ---- another one

abbrev pub PlacesApart : CallRef → CallRef → Type 0
PlacesApart c d = (c.file ≡ d.file → ⊥) ⊎ Apart (above c.path.steps) (above d.path.steps)

set_other : {X : Type 0} (xs : List X) (i k : ℕ) (x : X) → (i ≡ k → ⊥) → nth (slice_set xs i x) k ≡ nth xs k
set_other [] i k x other = refl
set_other (y ∷ ys) zero zero x other = absurd (other refl)
set_other (y ∷ ys) zero (suc k) x other = refl
set_other (y ∷ ys) (suc i) zero x other = refl
set_other (y ∷ ys) (suc i) (suc k) x other = set_other ys i k x (λ same. other (ap suc same))

-- stays when one is changed
pub placed_still : (ts : List Plain) (c d : CallRef) (v w : Expression Nowhere) (p : Placed ts c v) (y : Expression Nowhere) → PlacesApart c d → Placed ts d w → Placed (slice_set ts c.file (put ts c v p y)) d w
placed_still ts c d v w p y apart q = go (nat_eq c.file d.file) refl apart
  where
    elsewhere : (c.file ≡ d.file → ⊥) → Placed (slice_set ts c.file (put ts c v p y)) d w
    elsewhere other = record {
      is_child = q.is_child;
      tree = q.tree;
      is_tree = set_other ts c.file d.file (put ts c v p y) other ∙ q.is_tree;
      name = q.name;
      sign = q.sign;
      is_node = q.is_node;
    }

    here : c.file ≡ d.file → Apart (above c.path.steps) (above d.path.steps) → Placed (slice_set ts c.file (put ts c v p y)) d w
    here same parted =
        let f = (in_frame ts c v p).frame in
        let far : Apart c.path.steps (above d.path.steps) = subst (λ l. Apart l (above d.path.steps)) (sym p.is_child) (apart_longer (above c.path.steps) (above d.path.steps) (0 ∷ []) parted) in
        let still : node_at (a_block (f.back y)) (above d.path.steps) ≡ node_at (a_block (f.back v)) (above d.path.steps) =
        away of_block (f.back v) c.path.steps (above d.path.steps) (expression_in f.before v f.behind f.back) (f.is_there v) far y in
        let same_tree : q.tree ≡ file tt (f.back v) = some-injective _ _ (sym q.is_tree ∙ ap (nth ts) (sym same) ∙ p.is_tree) ∙ (in_frame ts c v p).is_whole in
        record {
          is_child = q.is_child;
          tree = put ts c v p y;
          is_tree = ap (nth (slice_set ts c.file (put ts c v p y))) (sym same) ∙ changed_there ts c.file p.tree (put ts c v p y) p.is_tree;
          name = q.name;
          sign = q.sign;
          is_node = still ∙ ap (λ t. node_at (a_block (block_of t)) (above d.path.steps)) (sym same_tree) ∙ q.is_node;
        }

    go : (b : Bool) → nat_eq c.file d.file ≡ b → PlacesApart c d → Placed (slice_set ts c.file (put ts c v p y)) d w
    go b is (inl other) = elsewhere other
    go true is (inr parted) = here (eqb-true c.file d.file is) parted
    go false is (inr parted) = elsewhere (λ equal. let both : true ≡ false = sym (eq-eqb c.file d.file equal) ∙ is in absurd cc)
