use Rattle.std.proofs.Common.{◌≡◌, drop}
use Rattle.meson_explaining.specs.Names.{find_key, is_bad_option}
use Rattle.meson_explaining.proofs.names.first_bad_entry.Given as goal

abbrev pub invariant-loop-i : goal.invariant-loop-i
invariant-loop-i l = find_key (λ p. is_bad_option p.0) (drop l.i l.pairs) ≡ find_key (λ p. is_bad_option p.0) l.pairs
