use Rattle.meson_steps.proofs.Words.{◌≡◌, ◌++◌}
use Rattle.meson_steps.proofs.ReadKinds.{given_kinds}
use Rattle.meson_steps.proofs.code.kinds_of.Given as goal

abbrev pub invariant-loop-item : goal.invariant-loop-item
invariant-loop-item l = l.kinds.items ++ given_kinds l.item-iterator ≡ given_kinds l.initial.item-iterator
