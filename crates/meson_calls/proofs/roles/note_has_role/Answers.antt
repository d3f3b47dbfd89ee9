use Rattle.meson_calls.proofs.Words.{◌∙◌, sym, ap, list_view, call_with, note_has_role, what_view, has_role}
use Rattle.meson_calls.proofs.roles.note_has_role.Goals as goal

pub returns-in-Call : goal.returns-in-Call
returns-in-Call c =
    c.has_role.ensures c.args.source.now
    ∙ ap (λ f. has_role c.args.role (call_with f (list_view c.args.source.now c.in-Call.arguments.now))) c.text_of.ensures
    ∙ sym (ap (λ w. note_has_role c.args.role (what_view c.args.source.now w)) c.in-Call.is)
