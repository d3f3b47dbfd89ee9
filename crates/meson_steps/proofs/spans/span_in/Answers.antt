use Rattle.meson_steps.proofs.Words.{ap, ◌∙◌, sym, Some, option_map, value_of, arg_view, expr_view, expression_span}
use Rattle.meson_steps.proofs.ArgumentValues.{plain_span, named_span, pair_span}
use Rattle.meson_steps.proofs.spans.span_in.Goals as goal

pub returns-in-Plain : goal.returns-in-Plain
returns-in-Plain c = λ source. ap Some (c.span_of.ensures source) ∙ sym (ap (λ a. option_map expression_span (value_of (arg_view source a))) c.in-Plain.is ∙ plain_span source c.in-Plain.value)

pub returns-in-Named : goal.returns-in-Named
returns-in-Named c = λ source.
    ap Some (c.span_of-in-Named.ensures source)
    ∙ sym (ap (λ a. option_map expression_span (value_of (arg_view source a))) c.in-Named.is ∙ named_span source c.in-Named.span c.in-Named.name c.in-Named.value)

pub returns-in-Pair : goal.returns-in-Pair
returns-in-Pair c = λ source.
    ap Some (c.span_of-in-Pair.ensures source ∙ ap (λ e. expression_span (expr_view source e)) c.get.ensures)
    ∙ sym (ap (λ a. option_map expression_span (value_of (arg_view source a))) c.in-Pair.is ∙ pair_span source c.in-Pair.span c.in-Pair.key c.in-Pair.value)
