-- What holds of each `subdir` of a build file that is a statement.
use Rattle.std.specs.Prelude.{ℕ, ◌+◌, [], Option, Some, None}
use Rattle.meson_syntax.specs.Tree.{Statement, evaluate, assign, selection, iteration, breaks, continues, Branches, no_branches, branch, Otherwise, nothing_else, otherwise, Statements, no_statements, statement, Block, block, File, file}
use Rattle.meson_calls.specs.declared.call.CallRef.{CallRef}
use Rattle.meson_calls.specs.Calls.{Call}
use Rattle.meson_calls.specs.Parts.{branches_child_count}
use Rattle.meson_calls.specs.Project.{Placed, child, place, placed}
use Rattle.meson_meaning.specs.Running.{Entry, entry_of}

module _ {S : Type 0} (Holds : Placed (Call S) → Type 0) where
  abbrev pub EntryHolds : CallRef → Option (Entry S) → Type 0
  EntryHolds q None = Unit {0}
  EntryHolds q (Some c) = Holds (placed q c.call)

  abbrev mutual
    pub StatementHolds : CallRef → Statement S → Type 0
    StatementHolds q (evaluate e) = EntryHolds (child q 0) (entry_of e)
    StatementHolds q (assign s x a e) = Unit {0}
    StatementHolds q (selection s bs o) = BranchesHold q 0 bs × OtherwiseHolds q (branches_child_count bs) o
    StatementHolds q (iteration s xs e b) = BlockHolds (child q 1) b
    StatementHolds q (breaks s) = Unit {0}
    StatementHolds q (continues s) = Unit {0}

    pub BranchesHold : CallRef → ℕ → Branches S → Type 0
    BranchesHold q k no_branches = Unit {0}
    BranchesHold q k (branch e b more) = BlockHolds (child q (k + 1)) b × BranchesHold q (k + 2) more

    pub OtherwiseHolds : CallRef → ℕ → Otherwise S → Type 0
    OtherwiseHolds q k nothing_else = Unit {0}
    OtherwiseHolds q k (otherwise b) = BlockHolds (child q k) b

    pub StatementsHold : CallRef → ℕ → Statements S → Type 0
    StatementsHold q k no_statements = Unit {0}
    StatementsHold q k (statement s more) = StatementHolds (child q k) s × StatementsHold q (k + 1) more

    pub BlockHolds : CallRef → Block S → Type 0
    BlockHolds q (block s list) = StatementsHold q 0 list

  -- in the file of a number
  abbrev pub FileHolds : ℕ → File S → Type 0
  FileHolds n (file s b) = BlockHolds (place n []) b
