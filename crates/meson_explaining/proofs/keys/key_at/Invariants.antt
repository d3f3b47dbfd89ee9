use Rattle.std.proofs.Common.{◌≡◌, drop, map}
use Rattle.std.specs.Prelude.{find}
use Rattle.meson_explaining.specs.Keys.{is_edits}
use Rattle.meson_explaining.proofs.keys.key_at.Given as goal

abbrev pub invariant-loop-i : goal.invariant-loop-i
invariant-loop-i l = find (is_edits l.key l.edits) (map (λ k. k.now) (drop l.i l.keys)) ≡ find (is_edits l.key l.edits) (map (λ k. k.now) l.keys)
