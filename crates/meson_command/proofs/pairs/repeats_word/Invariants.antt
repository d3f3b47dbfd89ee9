use Rattle.std.proofs.Common.{◌≡◌, drop}
use Rattle.meson_command.specs.Pairs.{repeats}
use Rattle.meson_command.proofs.pairs.repeats_word.Given as goal

abbrev pub invariant-loop-i : goal.invariant-loop-i
invariant-loop-i l = repeats l.words ≡ repeats (drop l.i l.words)
