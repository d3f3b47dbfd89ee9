use Rattle.std.proofs.Common.{◌≡◌, ◌++◌, drop}
use Rattle.std.specs.List.{filter_map}
use Rattle.meson_calls.specs.Loading.{project}
use Rattle.meson_followed_values.specs.Choices.{gaining_value}
use Rattle.meson_followed_values.specs.CodeFollower.{loaded_in}
use Rattle.meson_followed_values.proofs.choices.values_of_all.Given as goal

abbrev pub invariant-loop-i : goal.invariant-loop-i
invariant-loop-i l =
    let all = loaded_in l.follower in
    let one = gaining_value all.files (project all) l.values in
    l.found.items ++ filter_map one (drop l.i l.variables) ≡ filter_map one l.variables
