use Rattle.meson_calls.proofs.Words.{ap, sym, ◌∙◌, note_of, part_view}
use Rattle.meson_calls.proofs.part.Part.note.Goals as goal

pub returns-in-Expression : goal.returns-in-Expression
returns-in-Expression c = λ source. c.call_in.ensures source ∙ sym (ap (λ x. note_of (part_view source x)) c.in-Expression.is)

pub returns-in-Statement : goal.returns-in-Statement
returns-in-Statement c = λ source. c.note_in.ensures source ∙ sym (ap (λ x. note_of (part_view source x)) c.in-Statement.is)
