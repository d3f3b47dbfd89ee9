use Rattle.std.proofs.Common.{◌≡◌, suc, ◌+◌, drop, map}
use Rattle.meson_syntax.specs.Tree.{operands_of}
use Rattle.meson_syntax.specs.View.{operands_view}
use Rattle.meson_calls.specs.Project.{place}
use Rattle.meson_following.specs.CodeFollowing.{followed_project}
use Rattle.meson_following.specs.CodeLists.{has_list_at, is_maker_at, seen_at}
use Rattle.meson_following.specs.CodeMakers.{made_view, maker_view}
use Rattle.meson_following.specs.Lists.{none_seen, seen_all}
use Rattle.meson_following.proofs.Measures.{measure}
use Rattle.meson_following.proofs.Weights.{all_weight, rest_weight, weight_of}
use Rattle.meson_following.proofs.+lists.Given as goal

abbrev pub decreases-follower::Follower::is_maker : goal.decreases-follower::Follower::is_maker
decreases-follower::Follower::is_maker l = measure (suc l.depth) (all_weight (followed_project l.self.now)) 0 0

abbrev pub decreases-follower::Follower::is_made : goal.decreases-follower::Follower::is_made
decreases-follower::Follower::is_made l = measure (suc l.depth) (all_weight (followed_project l.self.now)) 0 1

abbrev pub decreases-lists::Lists::is_variable : goal.decreases-lists::Lists::is_variable
decreases-lists::Lists::is_variable l = measure l.self.now.depth (all_weight (followed_project l.self.now.follower)) 0 2

abbrev pub decreases-lists::Lists::is_list : goal.decreases-lists::Lists::is_list
decreases-lists::Lists::is_list l = measure l.self.now.depth (all_weight (followed_project l.self.now.follower)) (weight_of l.self.now.source.now l.expr.now) 3

abbrev pub decreases-lists::Lists::is_child : goal.decreases-lists::Lists::is_child
decreases-lists::Lists::is_child l = measure l.self.now.depth (all_weight (followed_project l.self.now.follower)) (weight_of l.self.now.source.now l.expr.now) 4

abbrev pub decreases-lists::Lists::has_list : goal.decreases-lists::Lists::has_list
decreases-lists::Lists::has_list l = measure l.self.now.depth (all_weight (followed_project l.self.now.follower)) (suc (rest_weight l.self.now.source.now l.rest.now)) 2

abbrev pub invariant-lists::Lists::has_list-loop-i : goal.invariant-lists::Lists::has_list-loop-i
invariant-lists::Lists::has_list-loop-i l =
    (l.path.items ≡ l.fn.path.items)
    × (has_list_at l.self (place l.self.file l.fn.path.items) (l.i + 1) (operands_of (operands_view l.self.source.now (drop l.i l.rest))) l.left
    ≡ has_list_at l.self (place l.self.file l.fn.path.items) 1 (operands_of (operands_view l.self.source.now l.rest)) l.fn.left)

abbrev pub invariant-follower::Follower::is_made-loop-maker : goal.invariant-follower::Follower::is_made-loop-maker
invariant-follower::Follower::is_made-loop-maker l =
    seen_all (is_maker_at l.self l.depth) (map maker_view (drop l.maker-index l.maker-items)) (seen_at l.seen l.left)
    ≡ seen_all (is_maker_at l.self l.depth) (made_view l.made).makers (none_seen l.fn.left)
