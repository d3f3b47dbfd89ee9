use Rattle.meson_layout.proofs.Fronts.{IsReading, up_to}
use Rattle.meson_layout.proofs.ReadItems.{read}
use Rattle.meson_layout.proofs.lexemes.lexemes.Given as goal

abbrev pub invariant-loop-item : goal.invariant-loop-item
invariant-loop-item l = IsReading l.src l.end (up_to l.end (read l.src l.initial.item-iterator)) l.all.items l.item-iterator
