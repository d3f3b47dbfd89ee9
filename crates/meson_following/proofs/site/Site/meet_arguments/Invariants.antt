use Rattle.std.proofs.Common.{◌≡◌, drop}
use Rattle.std.specs.Prelude.{option_map}
use Rattle.meson_calls.specs.NamedArguments.{kept_args}
use Rattle.meson_calls.specs.Project.{place}
use Rattle.meson_following.specs.CodeArguments.{value_by, values_met}
use Rattle.meson_following.specs.CodeFollowing.{following_view}
use Rattle.meson_following.specs.Following.{then_follow}
use Rattle.meson_following.proofs.site.Site.meet_arguments.Given as goal

abbrev pub invariant-loop-i : goal.invariant-loop-i
invariant-loop-i l =
    let k = option_map (λ k. k.now) l.fn.key in
    let q = place l.self.file l.fn.path.items in
    (l.path.items ≡ l.fn.path.items)
    × (then_follow (following_view l.found) (values_met l.self q k (kept_args l.self.source.now (value_by k) l.i (drop l.i l.args)))
    ≡ then_follow (following_view l.fn.found) (values_met l.self q k (kept_args l.self.source.now (value_by k) l.fn.from (drop l.fn.from l.args))))
