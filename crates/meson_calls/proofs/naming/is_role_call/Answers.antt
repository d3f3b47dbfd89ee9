use Rattle.meson_calls.proofs.Words.{◌∙◌, sym, ap, expr_view, list_view, call_of, call_with, is_role_call, has_role}
use Rattle.meson_calls.proofs.GoodNotes.{call_view}
use Rattle.meson_calls.proofs.naming.is_role_call.Goals as goal

pub returns-in-Call : goal.returns-in-Call
returns-in-Call c =
    let source = c.args.source.now in
    c.has_role.ensures source
    ∙ ap (λ f. has_role c.args.role (call_with f (list_view source c.in-Call.arguments))) c.text_of.ensures
    ∙ sym (ap (λ e. is_role_call c.args.role (call_of e)) (ap (expr_view source) c.in-Call.is ∙ call_view source c.in-Call.span c.in-Call.name c.in-Call.arguments))
