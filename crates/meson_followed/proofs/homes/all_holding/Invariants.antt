use Rattle.std.proofs.Common.{◌≡◌, ◌++◌, drop, map}
use Rattle.std.specs.List.{filter_map}
use Rattle.meson_following.specs.CodeFollowing.{mark_view}
use Rattle.meson_followed.specs.CodeEdits.{home_view}
use Rattle.meson_followed.specs.Homes.{holding_of}
use Rattle.meson_followed.proofs.homes.all_holding.Given as goal

abbrev pub invariant-loop-i : goal.invariant-loop-i
invariant-loop-i l =
    map home_view l.homes.items ++ filter_map (holding_of l.number) (map mark_view (drop l.i l.marks)) ≡ filter_map (holding_of l.number) (map mark_view l.marks)
