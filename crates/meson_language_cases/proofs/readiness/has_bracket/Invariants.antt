use Rattle.std.proofs.Common.{◌≡◌, ◌||◌}
use Rattle.meson_language_cases.proofs.Borders.{is_clean, opens_at}
use Rattle.meson_language_cases.proofs.readiness.has_bracket.Given as goal

abbrev pub invariant-loop-item : goal.invariant-loop-item
invariant-loop-item l = record {
  clean : is_clean l.item-iterator ≡ is_clean l.initial.item-iterator;
  opens : (l.opens || opens_at l.at l.item-iterator) ≡ opens_at l.at l.initial.item-iterator;
}
