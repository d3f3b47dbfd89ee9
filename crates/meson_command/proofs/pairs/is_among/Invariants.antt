use Rattle.std.proofs.Common.{◌≡◌, drop, bytes_eq}
use Rattle.std.specs.List.{list_any}
use Rattle.meson_command.specs.Pairs.{pair_names}
use Rattle.meson_command.proofs.pairs.is_among.Given as goal

abbrev pub invariant-loop-i : goal.invariant-loop-i
invariant-loop-i l = list_any (λ x. bytes_eq x l.name) (pair_names l.pairs) ≡ list_any (λ x. bytes_eq x l.name) (pair_names (drop l.i l.pairs))
