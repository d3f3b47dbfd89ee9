use Rattle.meson_layout.proofs.ReadItems.{read}
use Rattle.meson_statements.specs.declared.indenting.Spot.TheVariants as spot
use Rattle.meson_statements.specs.inside.Lines.{left_of}
use Rattle.meson_statements.proofs.Writing.{IsWriting}
use Rattle.meson_statements.proofs.indenting.indented.Given as goal

abbrev pub invariant-loop-item : goal.invariant-loop-item
invariant-loop-item l = IsWriting l.source l.lines (left_of l.lines spot.Start (read l.source l.initial.item-iterator)) l.spot l.now.items l.item-iterator
