use Rattle.std.proofs.Common.{◌≡◌, ◌+◌, ◌∷◌, map, take}
use Rattle.meson_steps.specs.WrittenTexts.{comma_between}
use Rattle.meson_places.specs.Values.{given_bytes}
use Rattle.meson_places.proofs.lone_values.beside_bytes.Given as goal

abbrev pub invariant-loop-i : goal.invariant-loop-i
invariant-loop-i l = l.out.items ≡ 91 ∷ comma_between (take (l.i + 1) (l.old ∷ map given_bytes (map (λ x. x.now) l.values)))
