use Rattle.std.proofs.Common.{◌≡◌, ◌++◌, drop}
use Rattle.std.specs.List.{filter_map}
use Rattle.meson_calls.specs.Loading.{project}
use Rattle.meson_followed_values.specs.CodeFollower.{loaded_in}
use Rattle.meson_followed_values.specs.Makers.{variable_at}
use Rattle.meson_followed_values.proofs.variables.variables_among.Given as goal

abbrev pub invariant-loop-i : goal.invariant-loop-i
invariant-loop-i l =
    let all = loaded_in l.follower in
    let at_ = variable_at all.files (project all) l.values in
    l.variables.items ++ filter_map at_ (drop l.i l.places) ≡ filter_map at_ l.places
