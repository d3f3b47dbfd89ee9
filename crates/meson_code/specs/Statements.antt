-- The statements of a file with their places, and the one that begins on a line.
use Rattle.std.specs.Prelude.{ℕ, ◌+◌, ◌==◌, Bool, List, [], ◌∷◌, ◌++◌, if◌then◌else◌, Option, Some, None}
use Rattle.meson_lex.specs.declared.kinds.Span.{Span}
use Rattle.meson_syntax.specs.Tree.{Statement, evaluate, assign, selection, iteration, breaks, continues, Branches, no_branches, branch}
use Rattle.meson_syntax.specs.Tree.{Otherwise, nothing_else, otherwise, Statements, no_statements, statement, Block, block, File, file}
use Rattle.meson_edit.specs.Standing.{statement_span}
use Rattle.meson_calls.specs.declared.call.CallRef.{CallRef}
use Rattle.meson_calls.specs.Parts.{branches_child_count}
use Rattle.meson_calls.specs.Project.{child, place}
use Rattle.meson_targets.specs.TargetEdits.{StatementPlace}
use Rattle.meson_places.specs.Names.{line_of}

-- ---- the statements of a file, in source order: each is before those within it

pub record PlacedStatement (S : Type 0) : Type 0 where
  pub place : StatementPlace
  pub it : Statement S

-- the n-th statement of the block at a place
abbrev pub placed_in : {S : Type 0} → CallRef → ℕ → Statement S → PlacedStatement S
placed_in p n s = record { place = record { block = p; number = n }; it = s }

abbrev mutual
  -- those of a list that begins with the n-th of the block at the place
  pub statements_from : {S : Type 0} → CallRef → ℕ → Statements S → List (PlacedStatement S)
  statements_from p n no_statements = []
  statements_from p n (statement s more) = placed_in p n s ∷ (statements_within (child p n) s ++ statements_from p (n + 1) more)

  -- those within the statement at the place
  pub statements_within : {S : Type 0} → CallRef → Statement S → List (PlacedStatement S)
  statements_within p (evaluate e) = []
  statements_within p (assign s x a e) = []
  statements_within p (selection s bs o) = statements_of_branches p 0 bs ++ statements_of_otherwise p (branches_child_count bs) o
  statements_within p (iteration s xs e b) = statements_of_block (child p 1) b
  statements_within p (breaks s) = []
  statements_within p (continues s) = []

  -- those of branches, of which the first condition is the n-th child
  pub statements_of_branches : {S : Type 0} → CallRef → ℕ → Branches S → List (PlacedStatement S)
  statements_of_branches p n no_branches = []
  statements_of_branches p n (branch e b more) = statements_of_block (child p (n + 1)) b ++ statements_of_branches p (n + 2) more

  -- those of the block after `else`, which is the n-th child
  pub statements_of_otherwise : {S : Type 0} → CallRef → ℕ → Otherwise S → List (PlacedStatement S)
  statements_of_otherwise p n nothing_else = []
  statements_of_otherwise p n (otherwise b) = statements_of_block (child p n) b

  pub statements_of_block : {S : Type 0} → CallRef → Block S → List (PlacedStatement S)
  statements_of_block p (block s list) = statements_from p 0 list

-- those of the file of this number
abbrev pub statements_of_file : {S : Type 0} → ℕ → File S → List (PlacedStatement S)
statements_of_file n (file s b) = statements_of_block (place n []) b

-- ---- by a line

-- whether the first byte of a statement is on the line of this number, counted from 1
abbrev pub begins_on : List ℕ → (line : ℕ) → Statement Span → Bool
begins_on bytes line s = line_of bytes (statement_span s).from == line

-- the place of the first of some statements that begins on the line
abbrev pub first_on : List ℕ → (line : ℕ) → List (PlacedStatement Span) → Option StatementPlace
first_on bytes line [] = None
first_on bytes line (q ∷ qs) = if begins_on bytes line q.it then Some q.place else first_on bytes line qs
