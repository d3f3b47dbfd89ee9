-- The block or the assignment that a path names is the node that is met when one goes down from child to child.
use Rattle.meson_steps.proofs.Words.{option_map, option_and_then, ◌≡◌, ℕ, zero, suc, List, [], ◌∷◌, Option, Some, None, refl, sym, ap, ◌∙◌, Any, an_expression}
use Rattle.meson_steps.proofs.Words.{a_statement, a_block, Sort, of_expression, of_statement, of_block, Node, Hole, nth, reach, block_of, Expression}
use Rattle.meson_steps.proofs.Words.{Statements, no_statements, statement, statement_list, Block, block, any_of, child_nodes, statements_parts, node_at, Every}
use Rattle.meson_steps.proofs.Words.{BlockAt, block_of_node, block_at, block_any, next_layer, assigned_any, layer_any, layer_view, Statement, Span, expression_span}
use Rattle.meson_steps.specs.declared.statements.Layer.{Layer}
use Rattle.meson_steps.specs.declared.statements.Layer.TheVariants as layer
use Rattle.meson_edit.specs.Assigned.{AssignedIn, AssignedAt, assigned_in, assigned_within, assigned_of_node, assigned_at}
use Rattle.meson_syntax.specs.Tree.{File}
use Rattle.meson_syntax.proofs.PathNodes.{inside_of, reached}
use Rattle.meson_calls.proofs.nodes.Sorts.{IsExpression, IsOther, may_stand}

module _ (S : Type 0) where
  of_node : (f : File S) (sort : Sort) (x : Node sort S) (back : Node sort S → Block S) → option_map (λ (b : BlockAt S). b.inside) (block_of_node S sort x f back) ≡ block_any (any_of S sort x)
  of_node f of_expression e back = refl
  of_node f of_statement s back = refl
  of_node f of_block b back = refl

  pub block_reached : (f : File S) (path : List ℕ) → option_map (λ (b : BlockAt S). b.inside) (block_at f path) ≡ option_and_then block_any (node_at (a_block (block_of f)) path)
  unfolding inside_of
  block_reached f path = each (reach S of_block (block_of f) path) ∙ sym (ap (option_and_then block_any) (reached S of_block (block_of f) path)) where
    each : (r : Option (Hole S (Block S))) → option_map (λ (b : BlockAt S). b.inside) (option_and_then (λ h. block_of_node S h.sort h.inside f h.back) r) ≡ option_and_then block_any (option_map (inside_of S) r)
    each None = refl
    each (Some h) = of_node f h.sort h.inside h.back

module _ (S : Type 0) where
  value_of_statement : (f : File S) (back : Statement S → Block S) (o : Option (AssignedIn S)) → option_map (λ (p : AssignedAt S). p.value) (option_map (assigned_within f back) o) ≡ option_map (λ a. a.value) o
  value_of_statement f back None = refl
  value_of_statement f back (Some a) = refl

  value_of_node : (f : File S) (sort : Sort) (x : Node sort S) (back : Node sort S → Block S)
      → option_map (λ (p : AssignedAt S). p.value) (assigned_of_node S sort x f back) ≡ assigned_any (any_of S sort x)
  value_of_node f of_expression e back = refl
  value_of_node f of_statement s back = value_of_statement f back (assigned_in s)
  value_of_node f of_block b back = refl

  -- so is the assignment
  pub assigned_reached : (f : File S) (path : List ℕ) → option_map (λ (p : AssignedAt S). p.value) (assigned_at f path) ≡ option_and_then assigned_any (node_at (a_block (block_of f)) path)
  unfolding inside_of
  assigned_reached f path = each (reach S of_block (block_of f) path) ∙ sym (ap (option_and_then assigned_any) (reached S of_block (block_of f) path)) where
    each : (r : Option (Hole S (Block S)))
        → option_map (λ (p : AssignedAt S). p.value) (option_and_then (λ h. assigned_of_node S h.sort h.inside f h.back) r) ≡ option_and_then assigned_any (option_map (inside_of S) r)
    each None = refl
    each (Some h) = value_of_node f h.sort h.inside h.back

-- ---- no block and no statement stands in an expression

module _ {S : Type 0} where
  none_among : (path : List ℕ) (xs : List (Any S)) → Every IsExpression xs → (n : ℕ) → ((e : Expression S) → option_and_then layer_any (node_at (an_expression e) path) ≡ None)
      → option_and_then layer_any (option_and_then (λ y. node_at y path) (nth xs n)) ≡ None
  none_among path [] all n none = refl
  none_among path (an_expression e ∷ xs) all zero none = none e
  none_among path (a_statement s ∷ xs) all zero none = absurd all.0
  none_among path (a_block b ∷ xs) all zero none = absurd all.0
  none_among path (x ∷ xs) all (suc n) none = none_among path xs all.1 n none

  no_layer : (path : List ℕ) (e : Expression S) → option_and_then layer_any (node_at (an_expression e) path) ≡ None
  no_layer [] e = refl
  no_layer (n ∷ path) e = none_among path (child_nodes (an_expression e)) (may_stand (an_expression e)) n (no_layer path)

  -- ---- nor a statement in a statement itself

  abbrev below : Option (Any S) → List ℕ → Option (Any S)
  below o path = option_and_then layer_any (option_and_then (λ y. node_at y path) o)

  among_children : (path : List ℕ) (xs : List (Any S)) → Every IsOther xs → (n : ℕ) → below (nth xs n) path ≡ below (option_map a_block (option_and_then block_any (nth xs n))) path
  among_children path [] all n = refl
  among_children path (an_expression e ∷ xs) all zero = no_layer path e
  among_children path (a_statement s ∷ xs) all zero = absurd all.0
  among_children path (a_block b ∷ xs) all zero = refl
  among_children path (x ∷ xs) all (suc n) = among_children path xs all.1 n

  among_statements : (list : Statements S) (n : ℕ) → nth (statements_parts list) n ≡ option_map a_statement (nth (statement_list list) n)
  among_statements no_statements n = refl
  among_statements (statement s more) zero = refl
  among_statements (statement s more) (suc n) = among_statements more n

  -- so the way down goes from blocks to statements and back
  pub next_below : (x : Any S) (n : ℕ) (path : List ℕ) → option_and_then layer_any (node_at x (n ∷ path)) ≡ below (next_layer x n) path
  next_below (an_expression e) n path = no_layer (n ∷ path) e
  next_below (a_statement s) n path = among_children path (child_nodes (a_statement s)) (may_stand (a_statement s)) n
  next_below (a_block (block s list)) n path = ap (λ o. below o path) (among_statements list n)

  -- a block and an assigned value are read off what is no expression
  pub block_layer : (o : Option (Any S)) → option_and_then block_any o ≡ option_and_then block_any (option_and_then layer_any o)
  block_layer None = refl
  block_layer (Some (an_expression e)) = refl
  block_layer (Some (a_statement s)) = refl
  block_layer (Some (a_block b)) = refl

  pub assigned_layer : (o : Option (Any S)) → option_and_then assigned_any o ≡ option_and_then assigned_any (option_and_then layer_any o)
  assigned_layer None = refl
  assigned_layer (Some (an_expression e)) = refl
  assigned_layer (Some (a_statement s)) = refl
  assigned_layer (Some (a_block b)) = refl

  -- no block is reached in an expression
  pub no_block_reached : (e : Expression S) (path : List ℕ) (h : Hole S (Expression S)) → reach S of_expression e path ≡ Some h → block_any (any_of S h.sort h.inside) ≡ None
  unfolding inside_of
  no_block_reached e path h is =
      ap (λ o. option_and_then block_any (option_map (inside_of S) o)) (sym is) ∙ ap (option_and_then block_any) (sym (reached S of_expression e path))
      ∙ block_layer (node_at (an_expression e) path) ∙ ap (option_and_then block_any) (no_layer path e)

-- ---- the span of an assigned value

pub span_of_value : (o : Option (AssignedAt Span)) → option_map expression_span (option_map (λ (p : AssignedAt Span). p.value) o) ≡ option_map (λ (p : AssignedAt Span). expression_span p.value) o
span_of_value None = refl
span_of_value (Some p) = refl

-- ---- a block or a statement of the code is no expression

pub layer_itself : (source : List ℕ) (l : Layer) → Some (layer_view source l) ≡ layer_any (layer_view source l)
layer_itself source (layer.Block b) = refl
layer_itself source (layer.Stmt s) = refl
