use Rattle.meson_steps.proofs.Words.{ap, sym, ◌∙◌, option_map, value_of, arg_view, expression_span}
use Rattle.meson_steps.proofs.ArgumentValues.{element_there, no_element, span_of_element}
use Rattle.meson_steps.proofs.spans.value_span.Goals as goal

pub returns-then-n-args : goal.returns-then-n-args
returns-then-n-args c = λ source.
    c.span_in.ensures source
    ∙ ap (λ a. option_map expression_span (value_of (arg_view source a))) c.index-args-n.is
    ∙ sym (ap span_of_element (element_there source c.args.list.now c.get-args.result.now c.get-args.ensures c.args.n c.index-args-n.result c.if-n-args.true))

pub returns-else-n-args : goal.returns-else-n-args
returns-else-n-args c = λ source. sym (ap span_of_element (no_element source c.args.list.now c.get-args.result.now c.get-args.ensures c.args.n c.if-n-args.false))
