use Rattle.std.proofs.Common.{◌≡◌, drop}
use Rattle.std.specs.List.{list_any}
use Rattle.meson_calls.specs.Loading.{project}
use Rattle.meson_places.specs.AllAssigned.{said_at}
use Rattle.meson_followed_values.specs.CodeFollower.{loaded_in}
use Rattle.meson_followed_values.proofs.losing.says_one.Given as goal

abbrev pub invariant-loop-i : goal.invariant-loop-i
invariant-loop-i l =
    let all = loaded_in l.follower in
    list_any (λ g. said_at all.files (project all) g l.place) (drop l.i l.values) ≡ list_any (λ g. said_at all.files (project all) g l.place) l.values
