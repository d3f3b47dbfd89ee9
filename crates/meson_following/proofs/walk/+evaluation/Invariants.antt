use Rattle.std.proofs.Common.{◌≡◌, suc, ◌+◌, length}
use Rattle.meson_lex.specs.declared.kinds.Kind.TheVariants.{WordIf}
use Rattle.meson_syntax.specs.Grammar.{block_words, branches_words, expression_words, otherwise_words, statement_words}
use Rattle.meson_syntax.specs.Tree.{branches_of}
use Rattle.meson_syntax.specs.View.{block_view, branch_view, branches_view, expr_view, stmt_view}
use Rattle.meson_calls.specs.inside.Walks.{else_view}
use Rattle.meson_following.specs.CodeMakers.{known_view}
use Rattle.meson_following.specs.Passing.{AreSearches}
use Rattle.meson_following.specs.Walks.{project_of}
use Rattle.meson_following.proofs.Measures.{all_words, measure}
use Rattle.meson_following.proofs.Turns.{BlockTurn, EachTurn, SelectionTurn}
use Rattle.meson_following.proofs.walk.+evaluation.Given as goal

abbrev pub decreases-Question::in_file : goal.decreases-Question::in_file
decreases-Question::in_file l = measure l.left (all_words (project_of l.self.now)) 0 0

abbrev pub decreases-Walk::in_entered : goal.decreases-Walk::in_entered
decreases-Walk::in_entered l = measure l.self.now.left (all_words (project_of l.self.now.question)) 0 1

abbrev pub decreases-Walk::in_each : goal.decreases-Walk::in_each
decreases-Walk::in_each l = measure l.self.now.left (all_words (project_of l.self.now.question)) 0 2

abbrev pub decreases-Walk::after_effect : goal.decreases-Walk::after_effect
decreases-Walk::after_effect l = measure l.self.now.left (all_words (project_of l.self.now.question)) 0 3

abbrev pub decreases-Walk::in_evaluated : goal.decreases-Walk::in_evaluated
decreases-Walk::in_evaluated l = measure l.self.now.left (all_words (project_of l.self.now.question)) (length (expression_words (expr_view l.self.now.source.now l.value.now))) 2

abbrev pub decreases-Walk::in_stmt : goal.decreases-Walk::in_stmt
decreases-Walk::in_stmt l = measure l.self.now.left (all_words (project_of l.self.now.question)) (length (statement_words (stmt_view l.self.now.source.now l.stmt.now))) 4

abbrev pub decreases-Walk::in_nth : goal.decreases-Walk::in_nth
decreases-Walk::in_nth l = measure l.self.now.left (all_words (project_of l.self.now.question)) (length (statement_words (stmt_view l.self.now.source.now l.stmt.now))) 5

abbrev pub decreases-Walk::in_block : goal.decreases-Walk::in_block
decreases-Walk::in_block l = measure l.self.now.left (all_words (project_of l.self.now.question)) (length (block_words (block_view l.self.now.source.now l.block.now))) 6

abbrev pub decreases-Walk::in_child : goal.decreases-Walk::in_child
decreases-Walk::in_child l = measure l.self.now.left (all_words (project_of l.self.now.question)) (length (block_words (block_view l.self.now.source.now l.block.now))) 7

abbrev pub decreases-Walk::in_turn : goal.decreases-Walk::in_turn
decreases-Walk::in_turn l = measure l.self.now.left (all_words (project_of l.self.now.question)) (suc (length (block_words (block_view l.self.now.source.now l.body.now)))) 0

abbrev pub decreases-Walk::ask_in_turn : goal.decreases-Walk::ask_in_turn
decreases-Walk::ask_in_turn l = measure l.self.now.left (all_words (project_of l.self.now.question)) (suc (length (block_words (block_view l.self.now.source.now l.body.now)))) 1

abbrev pub decreases-Walk::in_loop : goal.decreases-Walk::in_loop
decreases-Walk::in_loop l = measure l.self.now.left (all_words (project_of l.self.now.question)) (suc (length (block_words (block_view l.self.now.source.now l.body.now)))) 2

abbrev pub decreases-Walk::in_iteration : goal.decreases-Walk::in_iteration
decreases-Walk::in_iteration l = measure l.self.now.left (all_words (project_of l.self.now.question)) (suc (length (block_words (block_view l.self.now.source.now l.body.now)))) 3

abbrev pub decreases-Walk::in_selection : goal.decreases-Walk::in_selection
decreases-Walk::in_selection l = measure l.self.now.left (all_words (project_of l.self.now.question)) (length (branches_words (branches_of (branches_view l.self.now.source.now l.branches.now)) WordIf) + length (otherwise_words (else_view l.self.now.source.now l.otherwise.now))) 2

abbrev pub decreases-Walk::in_branch : goal.decreases-Walk::in_branch
decreases-Walk::in_branch l = measure l.self.now.left (all_words (project_of l.self.now.question)) (suc (length (block_words (branch_view l.self.now.source.now l.branch.now).1))) 0

abbrev pub decreases-Walk::in_tree : goal.decreases-Walk::in_tree
decreases-Walk::in_tree l = measure l.self.now.left (all_words (project_of l.self.now.question)) (length (block_words (block_view l.self.now.source.now l.self.now.tree.now.block))) 6

abbrev pub invariant-Walk::in_tree-loop-i : goal.invariant-Walk::in_tree-loop-i
invariant-Walk::in_tree-loop-i l =
    BlockTurn l.self l.fn.trail l.trail l.flow (known_view l.fn.now) l.stmts l.i
    × AreSearches l.self.source.now l.searches × (l.searches.variable.word ≡ l.self.question.variable.now)

abbrev pub invariant-Walk::in_block-loop-i : goal.invariant-Walk::in_block-loop-i
invariant-Walk::in_block-loop-i l = BlockTurn l.self l.fn.trail l.trail l.flow (known_view l.fn.now) l.stmts l.i

abbrev pub invariant-Walk::in_selection-loop-i : goal.invariant-Walk::in_selection-loop-i
invariant-Walk::in_selection-loop-i l = SelectionTurn l.self l.fn.trail l.trail l.chosen (known_view l.fn.now) l.branches l.i

abbrev pub invariant-Walk::in_each-loop-i : goal.invariant-Walk::in_each-loop-i
invariant-Walk::in_each-loop-i l = EachTurn l.self l.fn.trail l.trail l.flow (known_view l.fn.now) l.files l.i
