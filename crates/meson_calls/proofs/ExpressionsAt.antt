-- The expression at a place of a project, and the list of an array, a dictionary or a call there.
use Rattle.meson_calls.proofs.Words.{option_and_then, ◌≡◌, ℕ, ◌+◌, [], ◌∷◌, ◌++◌, Some, ap, ◌∙◌, arith, Span, an_expression, a_statement, a_block, nth, ListIn}
use Rattle.meson_calls.proofs.Words.{list_in, block_of, Name, Expression, assign, Assignment, expression_parts, node_at, expression_any, expression-reached}
use Rattle.meson_calls.proofs.Words.{and-then-some, ListThere, Part, Project, BuildFile, Placed, child, nth_file, expression_at, CallRef}
use Rattle.meson_syntax.specs.Paths as paths
use Rattle.meson_calls.specs.Parts as part
use Rattle.meson_calls.proofs.CallsReached.{InProject}
use Rattle.meson_calls.proofs.ListNodes.{list_of, node_below, value_below}
use Rattle.meson_calls.proofs.nodes.PartsBelow.{any}

-- ---- places of a project

pub record ListHere (p : Project Span) (c : CallRef) (l : ListIn Span) : Type 0 where
  pub there : ListThere p c
  pub same_list : there.list.list ≡ l.list
  pub same_bracket : there.list.bracket ≡ l.bracket

pub list_here : (p : Project Span) (c : CallRef) (e : Expression Span) (l : ListIn Span) → expression_at p c ≡ Some e → list_in e ≡ Some l → ListHere p c l
list_here p c e l is is_list =
    let o = and-then-some (λ (g : BuildFile Span). paths.expression_on_path g.tree c.path.steps) (nth_file p c.file) e is in
    let i = list_of Span o.0.tree c.path.steps e l o.2 is_list in
    record { there = record { file = o.0; is_file = o.1; list = i.place; is_list = i.is_place }; same_list = i.list; same_bracket = i.bracket }

-- an expression that is the n-th child of one stands there
pub child_stands : (p : Project Span) (c : CallRef) (e : Expression Span) → expression_at p c ≡ Some e → (n : ℕ) (x : Expression Span) → nth (expression_parts e) n ≡ Some (an_expression x) → expression_at p (child c n) ≡ Some x
child_stands p c e is n x is_child =
    let o = and-then-some (λ (g : BuildFile Span). paths.expression_on_path g.tree c.path.steps) (nth_file p c.file) e is in
    ap (option_and_then (λ (g : BuildFile Span). paths.expression_on_path g.tree (c.path.steps ++ n ∷ []))) o.1 ∙ value_below Span o.0.tree c.path.steps e n x o.2 is_child

-- ---- parts of a project

pub node_expression : (p : Project Span) (c : CallRef) (file : BuildFile Span) (e : Expression Span) → nth_file p c.file ≡ Some file → node_at (a_block (block_of file.tree)) c.path.steps ≡ Some (an_expression e) → expression_at p c ≡ Some e
node_expression p c file e is_file is =
    ap (option_and_then (λ (g : BuildFile Span). paths.expression_on_path g.tree c.path.steps)) is_file ∙ expression-reached Span file.tree c.path.steps ∙ ap (option_and_then expression_any) is

part_file : (p : Project Span) (q : Placed (Part Span)) (i : InProject 0 p q) → nth_file p q.place.file ≡ Some i.file
part_file p q i =
    let z : 0 + i.number ≡ i.number = omega arith in
    ap (nth_file p) (i.is_number ∙ z) ∙ i.is_file

-- an expression among the parts stands at its place
pub expression_stands : (p : Project Span) (q : Placed (Part Span)) (e : Expression Span) → InProject 0 p q → q.it ≡ part.an_expression e → expression_at p q.place ≡ Some e
expression_stands p q e i is = node_expression p q.place i.file e (part_file p q i) (i.is_node ∙ ap (λ x. Some (any x)) is)

-- the value of an assignment stands at its first child
pub assigned_stands : (p : Project Span) (q : Placed (Part Span)) (s : Span) (x : Name Span) (a : Assignment) (e : Expression Span) → InProject 0 p q → q.it ≡ part.a_statement (assign s x a e) → expression_at p (child q.place 0) ≡ Some e
assigned_stands p q s x a e i is =
    node_expression p (child q.place 0) i.file e (part_file p q i) (node_below Span (a_block (block_of i.file.tree)) q.place.path.steps (a_statement (assign s x a e)) 0 (i.is_node ∙ ap (λ y. Some (any y)) is))
