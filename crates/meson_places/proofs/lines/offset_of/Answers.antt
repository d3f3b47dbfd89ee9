use Rattle.std.proofs.Common.{◌∙◌, sym, ap}
use Rattle.std.specs.Prelude.{Some}
use Rattle.meson_calls.specs.Notes.{what_view}
use Rattle.meson_places.specs.Names.{offset_of}
use Rattle.meson_places.proofs.lines.offset_of.Goals as goal

pub returns-in-Assign : goal.returns-in-Assign
returns-in-Assign c =
    let source = c.args.note.now.source.now in
    ap (λ s. Some s.from) (c.span_of.ensures source) ∙ sym (ap (λ w. offset_of (what_view source w)) c.in-Assign.is)
