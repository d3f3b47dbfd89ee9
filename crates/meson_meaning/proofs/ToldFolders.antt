-- Where each `subdir` tells its folder, no literal in a list names one.
use Rattle.std.proofs.Common.{◌≡◌, ℕ, ◌+◌, Option, Some, None}
use Rattle.std.specs.Prelude.{false}
use Rattle.meson_syntax.specs.Tree.{Statement, evaluate, assign, selection, iteration, breaks, continues, Branches, no_branches, branch, Otherwise, nothing_else, otherwise, Statements, no_statements, statement, Block, block, File, file}
use Rattle.meson_calls.specs.declared.call.CallRef.{CallRef}
use Rattle.meson_calls.specs.Calls.{Call, first_argument}
use Rattle.meson_calls.specs.Parts.{branches_child_count}
use Rattle.meson_calls.specs.Project.{Placed, child, placed}
use Rattle.meson_meaning.specs.Laws.{MeansTheSame, ToldFoldersStay, bare, is_named}
use Rattle.meson_meaning.specs.Running.{Entry, entry_of}
use Rattle.meson_meaning.specs.Subdirs.{BlockHolds, BranchesHold, EntryHolds, FileHolds, OtherwiseHolds, StatementHolds, StatementsHold}

-- what follows of each `subdir`
module _ {S : Type 0} (P Q : Placed (Call S) → Type 0) (follows : (c : Placed (Call S)) → P c → Q c) where
  entry_follows : (q : CallRef) (o : Option (Entry S)) → EntryHolds P q o → EntryHolds Q q o
  entry_follows q None holds = tt
  entry_follows q (Some c) holds = follows (placed q c.call) holds

  mutual
    statement_follows : (s : Statement S) (q : CallRef) → StatementHolds P q s → StatementHolds Q q s
    statement_follows (evaluate e) q holds = entry_follows (child q 0) (entry_of e) holds
    statement_follows (assign s x a e) q holds = tt
    statement_follows (selection s bs o) q holds = (branches_follow bs 0 q holds.0, otherwise_follows o (branches_child_count bs) q holds.1)
    statement_follows (iteration s xs e b) q holds = block_follows b (child q 1) holds
    statement_follows (breaks s) q holds = tt
    statement_follows (continues s) q holds = tt

    branches_follow : (bs : Branches S) (k : ℕ) (q : CallRef) → BranchesHold P q k bs → BranchesHold Q q k bs
    branches_follow no_branches k q holds = tt
    branches_follow (branch e b more) k q holds = (block_follows b (child q (k + 1)) holds.0, branches_follow more (k + 2) q holds.1)

    otherwise_follows : (o : Otherwise S) (k : ℕ) (q : CallRef) → OtherwiseHolds P q k o → OtherwiseHolds Q q k o
    otherwise_follows nothing_else k q holds = tt
    otherwise_follows (otherwise b) k q holds = block_follows b (child q k) holds

    statements_follow : (ss : Statements S) (k : ℕ) (q : CallRef) → StatementsHold P q k ss → StatementsHold Q q k ss
    statements_follow no_statements k q holds = tt
    statements_follow (statement s more) k q holds = (statement_follows s (child q k) holds.0, statements_follow more (k + 1) q holds.1)

    block_follows : (b : Block S) (q : CallRef) → BlockHolds P q b → BlockHolds Q q b
    block_follows (block s list) q holds = statements_follow list 0 q holds

  pub file_follows : (n : ℕ) (t : File S) → FileHolds P n t → FileHolds Q n t
  file_follows n (file s b) holds = block_follows b _ holds

pub told_folders_stay : ToldFoldersStay
told_folders_stay p told gone n f is =
    file_follows (λ c. is_named (first_argument c.it) ≡ false) (MeansTheSame bare gone f) (λ c no_name name. absurd cc) n f.tree (told n f is)
