use Rattle.std.proofs.Common.{◌∙◌, sym, ap}
use Rattle.std.specs.Prelude.{◌&&◌}
use Rattle.std.proofs.lemmas.Result.{IfOk-weaker}
use Rattle.meson_syntax.specs.View.{list_view, text_at}
use Rattle.meson_calls.specs.Calls.{first_literal, is}
use Rattle.meson_calls.specs.ChosenNotes.{call_with}
use Rattle.meson_calls.specs.Notes.{what_view}
use Rattle.meson_places.specs.Names.{is_named}
use Rattle.meson_steps.specs.declared.argument.PlaceName.TheVariants as name
use Rattle.meson_places.proofs.naming.is_named.Goals as goal

pub returns-then-calls_callee : goal.returns-then-calls_callee
returns-then-calls_callee c =
    let source = c.args.note.now.source.now in
    let text = text_at source c.in-Call.function in
    let call = call_with text (list_view source c.in-Call.arguments.now) in
    let note = what_view source c.args.note.now.what in
    let id = c.in-Call-name.id in
    IfOk-weaker c.has_text.result _ _
    (λ b has. has ∙ sym (ap (λ x. x && is id (first_literal call)) (sym c.calls_callee.ensures ∙ c.if-calls_callee.true))
    ∙ sym (ap (λ n. is_named n note) c.in-Call-name.is ∙ ap (λ w. is_named (name.Call c.in-Call-name.callee id) (what_view source w)) c.in-Call.is))
    (c.has_text.ensures text)
