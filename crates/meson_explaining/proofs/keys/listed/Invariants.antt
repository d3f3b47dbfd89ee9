use Rattle.std.proofs.Common.{◌≡◌, ◌++◌, drop, map}
use Rattle.std.specs.Prelude.{flat_map, string_bytes}
use Rattle.meson_explaining.specs.Keys.{after_space}
use Rattle.meson_explaining.proofs.keys.listed.Given as goal

abbrev pub invariant-loop-i : goal.invariant-loop-i
invariant-loop-i l = string_bytes l.text ++ flat_map after_space (map (λ k. k.now) (drop l.i l.keys)) ≡ flat_map after_space (map (λ k. k.now) l.keys)
