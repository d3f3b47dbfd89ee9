-- Assigned values: what a statement assigns, and the same statement with another value. Meson manual, Syntax: variables, and the in-place operator of addition.
use Rattle.std.specs.Prelude.{List, ℕ, Option, Some, None, option_map, option_and_then}
use Rattle.meson_syntax.specs.Tree.{Expression, Statement, assign, Block, File}
use Rattle.meson_syntax.specs.Paths.{Sort, of_expression, of_statement, of_block, Node, reach, block_of, with_block}

-- the value that a statement assigns, and its assignment of another one, with the same name and the same operator
pub record AssignedIn (S : Type 0) : Type 0 where
  pub value : Expression S
  pub back : Expression S → Statement S

abbrev pub assigned_in : {S : Type 0} → Statement S → Option (AssignedIn S)
assigned_in (assign s x a e) = Some (record { value = e; back = assign s x a })
assigned_in _ = None

-- the value that the assignment at a path assigns, and its file with another value there
pub record AssignedAt (S : Type 0) : Type 0 where
  pub value : Expression S
  pub back : Expression S → File S

abbrev pub assigned_within : {S : Type 0} → File S → (Statement S → Block S) → AssignedIn S → AssignedAt S
assigned_within f back a = record { value = a.value; back = λ other. with_block f (back (a.back other)) }

abbrev pub assigned_of_node : (S : Type 0) (sort : Sort) → Node sort S → File S → (Node sort S → Block S) → Option (AssignedAt S)
assigned_of_node S of_expression e f back = None
assigned_of_node S of_statement s f back = option_map (assigned_within f back) (assigned_in s)
assigned_of_node S of_block b f back = None

abbrev pub assigned_at : {S : Type 0} → File S → List ℕ → Option (AssignedAt S)
assigned_at {S} f path = option_and_then (λ h. assigned_of_node S h.sort h.inside f h.back) (reach S of_block (block_of f) path)
