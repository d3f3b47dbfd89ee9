use Rattle.std.proofs.Common.{◌≡◌, ◌++◌, drop, map}
use Rattle.std.specs.List.{filter_map}
use Rattle.meson_calls.specs.Loading.{project}
use Rattle.meson_following.specs.CodeMakers.{maker_view}
use Rattle.meson_followed_values.specs.Choices.{gained}
use Rattle.meson_followed_values.specs.CodeFollower.{loaded_in}
use Rattle.meson_followed_values.proofs.choices.gained_by.Given as goal

abbrev pub invariant-loop-i : goal.invariant-loop-i
invariant-loop-i l =
    let one = gained (project (loaded_in l.follower)) l.variable in
    l.found.items ++ filter_map one (map maker_view (drop l.i l.makers)) ≡ filter_map one (map maker_view l.makers)
