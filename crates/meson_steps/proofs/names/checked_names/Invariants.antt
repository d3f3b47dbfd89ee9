use Rattle.meson_steps.proofs.Words.{◌≡◌, drop, All, take, IsUtf8, checked_names}
use Rattle.meson_steps.proofs.names.checked_names.Given as goal

abbrev pub invariant-loop-name : goal.invariant-loop-name
invariant-loop-name l = record { left : checked_names (drop l.name-index l.names) ≡ checked_names l.names; texts : All IsUtf8 (take l.name-index l.names) }
