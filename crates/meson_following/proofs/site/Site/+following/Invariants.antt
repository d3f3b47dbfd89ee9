use Rattle.std.proofs.Common.{◌≡◌, suc, ◌+◌, drop, map}
use Rattle.meson_syntax.specs.Tree.{arguments_of, operands_of}
use Rattle.meson_syntax.specs.View.{arg_view, args_view, expr_view, list_view, operands_view}
use Rattle.meson_calls.specs.Project.{place}
use Rattle.meson_following.specs.CodeFollowing.{following_view}
use Rattle.meson_following.specs.CodeMakers.{made_view, maker_view}
use Rattle.meson_following.specs.CodeSites.{each_met, makers_met, operands_met, project_at, sum_met}
use Rattle.meson_following.specs.Following.{then_follow}
use Rattle.meson_following.proofs.Measures.{measure}
use Rattle.meson_following.proofs.Weights.{all_weight, args_weight, argument_weight, listing_weight, rest_weight, weight_of}
use Rattle.meson_following.proofs.site.Site.+following.Given as goal

abbrev pub decreases-meet : goal.decreases-meet
decreases-meet l = measure l.self.now.left (all_weight (project_at l.self.now)) (weight_of l.self.now.source.now l.expr.now) 3

abbrev pub decreases-meet_child : goal.decreases-meet_child
decreases-meet_child l = measure l.self.now.left (all_weight (project_at l.self.now)) (weight_of l.self.now.source.now l.expr.now) 4

abbrev pub decreases-meet_call : goal.decreases-meet_call
decreases-meet_call l = measure l.self.now.left (all_weight (project_at l.self.now)) (suc (listing_weight (list_view l.self.now.source.now l.arguments.now))) 2

abbrev pub decreases-meet_answers : goal.decreases-meet_answers
decreases-meet_answers l =
    measure l.self.now.left (all_weight (project_at l.self.now)) (suc (weight_of l.self.now.source.now l.yes.now + weight_of l.self.now.source.now l.no.now)) 2

abbrev pub decreases-meet_list : goal.decreases-meet_list
decreases-meet_list l = measure l.self.now.left (all_weight (project_at l.self.now)) (suc (listing_weight (list_view l.self.now.source.now l.list.now))) 1

abbrev pub decreases-meet_elements : goal.decreases-meet_elements
decreases-meet_elements l = measure l.self.now.left (all_weight (project_at l.self.now)) (suc (args_weight l.self.now.source.now l.args.now)) 0

abbrev pub decreases-meet_element : goal.decreases-meet_element
decreases-meet_element l = measure l.self.now.left (all_weight (project_at l.self.now)) (argument_weight (arg_view l.self.now.source.now l.arg.now)) 4

abbrev pub decreases-meet_sum : goal.decreases-meet_sum
decreases-meet_sum l =
    measure l.self.now.left (all_weight (project_at l.self.now)) (suc (weight_of l.self.now.source.now l.first.now + rest_weight l.self.now.source.now l.rest.now)) 2

abbrev pub decreases-meet_variable : goal.decreases-meet_variable
decreases-meet_variable l = measure l.self.now.left (all_weight (project_at l.self.now)) 0 2

abbrev pub decreases-meet_made : goal.decreases-meet_made
decreases-meet_made l = measure l.self.now.left (all_weight (project_at l.self.now)) 0 1

abbrev pub decreases-meet_maker : goal.decreases-meet_maker
decreases-meet_maker l = measure l.self.now.left (all_weight (project_at l.self.now)) 0 0

abbrev pub invariant-meet_elements-loop-i : goal.invariant-meet_elements-loop-i
invariant-meet_elements-loop-i l =
    (l.path.items ≡ l.fn.path.items)
    × (then_follow (following_view l.found) (each_met l.self (arguments_of (args_view l.self.source.now (drop l.i l.args))) l.i (place l.self.file l.fn.path.items))
    ≡ then_follow (following_view l.fn.found) (each_met l.self (arguments_of (args_view l.self.source.now l.args)) 0 (place l.self.file l.fn.path.items)))

abbrev pub invariant-meet_sum-loop-i : goal.invariant-meet_sum-loop-i
invariant-meet_sum-loop-i l =
    (l.path.items ≡ l.fn.path.items)
    × (then_follow (following_view l.found) (operands_met l.self (operands_of (operands_view l.self.source.now (drop l.i l.rest))) (l.i + 1) (place l.self.file l.fn.path.items))
    ≡ then_follow (following_view l.fn.found) (sum_met l.self (expr_view l.self.source.now l.fn.first) (operands_of (operands_view l.self.source.now l.rest)) (place l.self.file l.fn.path.items)))

abbrev pub invariant-meet_made-loop-maker : goal.invariant-meet_made-loop-maker
invariant-meet_made-loop-maker l =
    then_follow (following_view l.found) (makers_met l.self l.mixed (map maker_view (drop l.maker-index l.maker-items)))
    ≡ then_follow (following_view l.fn.found) (makers_met l.self l.mixed (made_view l.made).makers)
