use Rattle.std.proofs.Common.{◌≡◌}
use Rattle.meson_syntax.specs.Moving.{span_by, border_by}
use Rattle.meson_syntax.proofs.InPlace.{exchanged}
use Rattle.meson_syntax.proofs.shift.shift_spans.Given as goal

abbrev pub invariant-loop-i : goal.invariant-loop-i
invariant-loop-i l = l.spans ≡ exchanged (span_by (border_by l.by)) l.i l.initial.spans
