use Rattle.std.proofs.Common.{◌≡◌, ◌++◌, drop, map}
use Rattle.std.specs.List.{filter_map}
use Rattle.meson_calls.specs.Loading.{project}
use Rattle.meson_following.specs.CodeMakers.{maker_view}
use Rattle.meson_followed_values.specs.Choices.{said}
use Rattle.meson_followed_values.specs.CodeFollower.{loaded_in}
use Rattle.meson_followed_values.proofs.losing.said_by.Given as goal

abbrev pub invariant-loop-i : goal.invariant-loop-i
invariant-loop-i l =
    let all = loaded_in l.follower in
    let one = said all.files (project all) l.values in
    l.found.items ++ filter_map one (map maker_view (drop l.i l.makers)) ≡ filter_map one (map maker_view l.makers)
