use Rattle.std.proofs.Common.{◌≡◌, ◌++◌, drop, map}
use Rattle.std.specs.Prelude.{reverse}
use Rattle.std.specs.List.{filter_map}
use Rattle.meson_steps.specs.Names.{distinct_by}
use Rattle.meson_following.specs.CodeFollowing.{followed_project}
use Rattle.meson_sharing.specs.Sharing.{names_of, variable_of}
use Rattle.meson_sharing.proofs.variable.names_of.Given as goal

abbrev pub invariant-loop-i : goal.invariant-loop-i
invariant-loop-i l =
    let p = followed_project l.follower in
    let names = map (λ x. x.now) l.names.items in
    names ++ distinct_by (reverse names) (filter_map (variable_of p) (drop l.i l.makers)) ≡ names_of p l.makers
