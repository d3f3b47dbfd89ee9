use Rattle.std.proofs.Common.{◌∙◌, sym, ap}
use Rattle.std.specs.Prelude.{◌&&◌, not}
use Rattle.meson_syntax.specs.View.{expr_view, list_view, text_at}
use Rattle.meson_calls.specs.Calls.{call_of, first_literal, is}
use Rattle.meson_calls.specs.ChosenNotes.{call_with}
use Rattle.meson_calls.proofs.Nested.{call_view}
use Rattle.meson_places.specs.Names.{calls_other}
use Rattle.meson_places.proofs.naming.calls_other.Goals as goal

pub returns-in_ok-named-in-Call : goal.returns-in_ok-named-in-Call
returns-in_ok-named-in-Call c =
    let source = c.args.source.now in
    let id = c.args.id.now in
    let text = text_at source c.in-Call.name in
    let call = call_with text (list_view source c.in-Call.arguments) in
    c.is_other.ensures ∙ ap not (c.in_ok-named-in-Call.ensures text)
    ∙ sym (ap (λ b. b && not (is id (first_literal call))) (sym c.calls_callee.ensures ∙ c.if-calls_callee.true))
    ∙ sym (ap (λ e. calls_other c.args.callee.now id (call_of e)) (ap (expr_view source) c.in-Call.is ∙ call_view source c.in-Call.span c.in-Call.name c.in-Call.arguments))
