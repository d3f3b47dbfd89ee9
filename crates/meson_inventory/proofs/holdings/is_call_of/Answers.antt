use Rattle.std.proofs.Common.{◌∙◌, sym, ap}
use Rattle.std.specs.Prelude.{bytes_eq}
use Rattle.meson_calls.specs.Notes.{what_view}
use Rattle.meson_inventory.specs.inside.Holdings.{note_calls}
use Rattle.meson_inventory.proofs.holdings.is_call_of.Goals as goal

pub returns-in-Call : goal.returns-in-Call
returns-in-Call c =
    c.eq.ensures ∙ ap (λ t. bytes_eq t c.args.function.now) c.text_of.ensures
    ∙ sym (ap (λ w. note_calls c.args.function.now (what_view c.args.note.now.source.now w)) c.in-Call.is)
