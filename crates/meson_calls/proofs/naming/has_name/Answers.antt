use Rattle.meson_calls.proofs.Words.{◌&&◌, ◌∙◌, sym, ap, text_at, list_view, first_literal, is, call_with, note_has_name, what_view, has_role}
use Rattle.meson_calls.proofs.naming.has_name.Goals as goal

pub returns-in_ok-named-in-Call : goal.returns-in_ok-named-in-Call
returns-in_ok-named-in-Call c =
    let source = c.args.note.now.source.now in
    let call = call_with (text_at source c.in-Call.function) (list_view source c.in-Call.arguments.now) in
    let so = sym (c.has_role.ensures source ∙ ap (λ f. has_role c.args.role (call_with f (list_view source c.in-Call.arguments.now))) c.text_of.ensures) ∙ c.if-has_role.true in
    c.in_ok-named-in-Call.ensures (text_at source c.in-Call.function)
    ∙ sym (ap (λ b. b && is c.args.id.now (first_literal call)) so)
    ∙ sym (ap (λ w. note_has_name c.args.role c.args.id.now (what_view source w)) c.in-Call.is)

pub returns-else-has_role : goal.returns-else-has_role
returns-else-has_role c =
    let source = c.args.note.now.source.now in
    let call = call_with (text_at source c.in-Call.function) (list_view source c.in-Call.arguments.now) in
    let so = sym (c.has_role.ensures source ∙ ap (λ f. has_role c.args.role (call_with f (list_view source c.in-Call.arguments.now))) c.text_of.ensures) ∙ c.if-has_role.false in
    sym (ap (λ b. b && is c.args.id.now (first_literal call)) so)
    ∙ sym (ap (λ w. note_has_name c.args.role c.args.id.now (what_view source w)) c.in-Call.is)
