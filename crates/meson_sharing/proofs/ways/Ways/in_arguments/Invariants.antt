use Rattle.std.proofs.Common.{◌≡◌, ◌++◌, drop}
use Rattle.std.specs.Prelude.{option_map}
use Rattle.meson_calls.specs.NamedArguments.{kept_args}
use Rattle.meson_calls.specs.Project.{place}
use Rattle.meson_following.specs.CodeArguments.{value_by}
use Rattle.meson_sharing.specs.Sharing.{ways_of_values}
use Rattle.meson_sharing.proofs.ways.Ways.in_arguments.Given as goal

abbrev pub invariant-loop-i : goal.invariant-loop-i
invariant-loop-i l =
    let k = option_map (λ k. k.now) l.fn.key in
    let q = place l.self.file l.fn.path.items in
    (l.path.items ≡ l.fn.path.items)
    × (l.found.items ++ ways_of_values q 0 (kept_args l.self.source.now (value_by k) l.i (drop l.i l.args))
    ≡ l.fn.found.items ++ ways_of_values q 0 (kept_args l.self.source.now (value_by k) l.fn.from (drop l.fn.from l.args)))
