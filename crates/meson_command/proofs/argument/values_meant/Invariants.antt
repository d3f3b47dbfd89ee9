use Rattle.std.proofs.Common.{◌≡◌, drop}
use Rattle.meson_command.specs.Arguments.{values_meant}
use Rattle.meson_command.proofs.ValuesMeant.{after}
use Rattle.meson_command.proofs.argument.values_meant.Given as goal

abbrev pub invariant-loop-word : goal.invariant-loop-word
invariant-loop-word l = values_meant l.words ≡ after l.values.items (values_meant (drop l.word-index l.words))
