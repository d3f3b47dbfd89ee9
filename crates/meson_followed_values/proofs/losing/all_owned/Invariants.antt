use Rattle.std.proofs.Common.{◌≡◌, drop}
use Rattle.meson_calls.specs.Loading.{project}
use Rattle.meson_followed_values.specs.Choices.{all_owned}
use Rattle.meson_followed_values.specs.CodeFollower.{loaded_in}
use Rattle.meson_followed_values.proofs.OwnedSteps.{with_more}
use Rattle.meson_followed_values.proofs.losing.all_owned.Given as goal

abbrev pub invariant-loop-i : goal.invariant-loop-i
invariant-loop-i l =
    let all = loaded_in l.follower in
    let owned = all_owned all.files (project all) l.values in
    with_more l.all.items (owned (drop l.i l.variables)) ≡ owned l.variables
