use Rattle.std.proofs.Common.{◌≡◌, ◌||◌}
use Rattle.meson_language_cases.proofs.Borders.{is_clean, begins_at, ends_at}
use Rattle.meson_language_cases.proofs.readiness.has_span.Given as goal

-- what was found and what is still to be found
abbrev pub invariant-loop-item : goal.invariant-loop-item
invariant-loop-item l = record {
  clean : is_clean l.item-iterator ≡ is_clean l.initial.item-iterator;
  begins : (l.begins || begins_at l.span.from l.item-iterator) ≡ begins_at l.span.from l.initial.item-iterator;
  ends : (l.ends || ends_at l.span.to l.item-iterator) ≡ ends_at l.span.to l.initial.item-iterator;
}
