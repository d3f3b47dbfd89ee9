use Rattle.meson_variables.proofs.Words.{◌≡◌, suc, ◌+◌, drop, None, max, arguments_of, operands_of, expr_view, list_view, arg_view, args_view, operands_view}
use Rattle.meson_variables.proofs.Words.{project_of, gathered, expanded, stand_at, rank, operands_rank, listing_rank, argument_rank, arguments_rank, each_left}
use Rattle.meson_variables.proofs.Words.{operands_left, sum_left}
use Rattle.meson_variables.proofs.Measures.{measure, values_rank}
use Rattle.meson_variables.proofs.variables.Variables.+expansion.Given as goal

abbrev pub decreases-expand : goal.decreases-expand
decreases-expand l = measure l.left (values_rank l.self.now) (rank (expr_view l.site.source.now l.expr.now)) 4

abbrev pub decreases-expand_list : goal.decreases-expand_list
decreases-expand_list l = measure l.left (values_rank l.self.now) (listing_rank (list_view l.site.source.now l.list.now)) 3

abbrev pub decreases-expand_own : goal.decreases-expand_own
decreases-expand_own l = measure l.left (values_rank l.self.now) (listing_rank (list_view l.site.source.now l.list.now)) 2

abbrev pub decreases-expand_args : goal.decreases-expand_args
decreases-expand_args l = measure l.left (values_rank l.self.now) (suc (arguments_rank (arguments_of (args_view l.site.source.now l.args.now)))) 1

abbrev pub decreases-expand_arg : goal.decreases-expand_arg
decreases-expand_arg l = measure l.left (values_rank l.self.now) (argument_rank (arg_view l.site.source.now l.arg.now)) 5

abbrev pub decreases-expand_row : goal.decreases-expand_row
decreases-expand_row l = measure l.left (values_rank l.self.now) (suc (max (rank (expr_view l.site.source.now l.first.now)) (operands_rank (operands_of (operands_view l.site.source.now l.rest.now))))) 3

abbrev pub decreases-expand_operands : goal.decreases-expand_operands
decreases-expand_operands l = measure l.left (values_rank l.self.now) (suc (max (rank (expr_view l.site.source.now l.first.now)) (operands_rank (operands_of (operands_view l.site.source.now l.rest.now))))) 2

abbrev pub decreases-expand_operand : goal.decreases-expand_operand
decreases-expand_operand l = measure l.left (values_rank l.self.now) (rank (expr_view l.site.source.now l.operand.now)) 5

abbrev pub decreases-follow : goal.decreases-follow
decreases-follow l = measure l.left (values_rank l.self.now) 0 1

abbrev pub invariant-expand_args-loop-i : goal.invariant-expand_args-loop-i
invariant-expand_args-loop-i l =
    (l.path.items ≡ l.fn.path.items)
    × (expanded (gathered l.marks) (each_left (project_of l.self) l.left (arguments_of (args_view l.site.source.now (drop l.i l.args))) l.i (stand_at l.site l.fn.path.items None))
    ≡ expanded (gathered l.fn.marks) (each_left (project_of l.self) l.left (arguments_of (args_view l.site.source.now l.args)) 0 (stand_at l.site l.fn.path.items None)))

abbrev pub invariant-expand_operands-loop-i : goal.invariant-expand_operands-loop-i
invariant-expand_operands-loop-i l =
    (l.path.items ≡ l.fn.path.items)
    × (expanded (gathered l.marks) (operands_left (project_of l.self) l.left (operands_of (operands_view l.site.source.now (drop l.i l.rest))) (l.i + 1) (stand_at l.site l.fn.path.items None))
    ≡ expanded (gathered l.fn.marks) (sum_left (project_of l.self) l.left (expr_view l.site.source.now l.fn.first) (operands_of (operands_view l.site.source.now l.rest)) (stand_at l.site l.fn.path.items None)))
