use Rattle.meson_steps.proofs.Words.{◌≡◌, drop, map, bytes_eq, list_any}
use Rattle.meson_steps.proofs.names.is_among.Given as goal

abbrev pub invariant-loop-i : goal.invariant-loop-i
invariant-loop-i l = list_any (λ x. bytes_eq x l.name) (map (λ x. x.now) (drop l.i l.names)) ≡ list_any (λ x. bytes_eq x l.name) (map (λ x. x.now) l.names)
