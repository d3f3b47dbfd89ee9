use Rattle.std.proofs.Common.{◌≡◌, ◌++◌, drop}
use Rattle.meson_sharing.proofs.told.copy_texts.Given as goal

abbrev pub invariant-loop-name : goal.invariant-loop-name
invariant-loop-name l = l.all.items ++ drop l.name-index l.names ≡ l.names
