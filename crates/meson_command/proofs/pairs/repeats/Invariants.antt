use Rattle.std.proofs.Common.{◌≡◌, drop}
use Rattle.meson_command.specs.Pairs.{pair_names, repeats}
use Rattle.meson_command.proofs.pairs.repeats.Given as goal

abbrev pub invariant-loop-i : goal.invariant-loop-i
invariant-loop-i l = repeats (pair_names l.pairs) ≡ repeats (pair_names (drop l.i l.pairs))
