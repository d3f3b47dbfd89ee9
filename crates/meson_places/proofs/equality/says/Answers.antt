use Rattle.std.proofs.Common.{sym, ap, ap₂, ◌∙◌}
use Rattle.std.proofs.lemmas.Result.{IfOk-weaker}
use Rattle.meson_syntax.specs.View.{expr_view, text_at}
use Rattle.meson_places.specs.Equality.{same_code, says}
use Rattle.meson_places.proofs.equality.says.Goals as goal

pub returns-in-Switch : goal.returns-in-Switch
returns-in-Switch c =
    let source = c.args.source.now in
    let own = c.text_of-own.ensures ∙ ap (text_at source) (c.span_of.ensures source) in
    IfOk-weaker c.same_code.result _ _
    (λ b is. is ∙ ap₂ same_code (c.as_bytes.ensures.value ∙ c.switch_text.ensures) own ∙ sym (ap (λ g. says source g (expr_view source c.args.value.now)) c.in-Switch.is))
    c.same_code.ensures

pub returns-in-Code : goal.returns-in-Code
returns-in-Code c =
    let source = c.args.source.now in
    let own = c.text_of-own.ensures ∙ ap (text_at source) (c.span_of.ensures source) in
    IfOk-weaker c.same_code-in-Code.result _ _
    (λ b is. is ∙ ap₂ same_code (c.as_bytes-in-Code.ensures.value ∙ c.get.ensures.text) own ∙ sym (ap (λ g. says source g (expr_view source c.args.value.now)) c.in-Code.is))
    c.same_code-in-Code.ensures
