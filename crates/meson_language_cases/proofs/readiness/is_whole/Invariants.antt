use Rattle.std.proofs.Common.{◌≡◌}
use Rattle.meson_language_cases.proofs.Borders.{is_clean}
use Rattle.meson_language_cases.proofs.readiness.is_whole.Given as goal

abbrev pub invariant-loop-item : goal.invariant-loop-item
invariant-loop-item l = is_clean l.item-iterator ≡ is_clean l.initial.item-iterator
