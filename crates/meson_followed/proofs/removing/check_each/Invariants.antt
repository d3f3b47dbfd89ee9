use Rattle.std.proofs.Common.{◌≡◌, drop, map}
use Rattle.meson_following.specs.CodeFollowing.{followed_project}
use Rattle.meson_followed.specs.CodeEdits.{IsAnswer, asked}
use Rattle.meson_followed.specs.CodeRemovals.{all_pass, removal_view}
use Rattle.meson_followed.proofs.removing.check_each.Given as goal

abbrev pub invariant-loop-i : goal.invariant-loop-i
invariant-loop-i l = record {
  rest : all_pass (followed_project l.asking.follower) (asked l.asking) (map removal_view (drop l.i l.removals))
      ≡ all_pass (followed_project l.asking.follower) (asked l.asking) (map removal_view l.removals);
  answer : IsAnswer l.asking l.last;
}
