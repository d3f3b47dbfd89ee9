use Rattle.std.proofs.Common.{◌≡◌, map}
use Rattle.std.specs.Prelude.{None}
use Rattle.meson_explaining.specs.Keys.{nearest_below}
use Rattle.meson_explaining.proofs.keys.nearest_key.Given as goal

abbrev pub invariant-loop-edits : goal.invariant-loop-edits
invariant-loop-edits l = nearest_below l.key l.edits (map (λ k. k.now) l.keys) ≡ None
