use Rattle.std.proofs.Common.{◌≡◌, drop}
use Rattle.std.specs.List.{list_all}
use Rattle.meson_calls.specs.Loading.{project}
use Rattle.meson_followed_values.specs.CodeFollower.{loaded_in}
use Rattle.meson_followed_values.specs.Makers.{is_read_here}
use Rattle.meson_followed_values.proofs.losing.are_read_here.Given as goal

abbrev pub invariant-loop-i : goal.invariant-loop-i
invariant-loop-i l =
    let test = is_read_here (project (loaded_in l.follower)) l.variable in
    list_all test (drop l.i l.places) ≡ list_all test l.places
