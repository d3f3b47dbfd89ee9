use Rattle.meson_steps.proofs.Words.{ap, sym, ◌∙◌, Some, option_map, arg_view, argument_span}
use Rattle.meson_steps.proofs.ArgumentValues.{element_there, no_element}
use Rattle.meson_steps.proofs.spans.element_span.Goals as goal

pub returns-then-n-args : goal.returns-then-n-args
returns-then-n-args c = λ source.
    ap Some (c.span_of_element.ensures source ∙ ap (λ a. argument_span (arg_view source a)) c.index-args-n.is)
    ∙ sym (ap (option_map argument_span) (element_there source c.args.list.now c.get-args.result.now c.get-args.ensures c.args.n c.index-args-n.result c.if-n-args.true))

pub returns-else-n-args : goal.returns-else-n-args
returns-else-n-args c = λ source. sym (ap (option_map argument_span) (no_element source c.args.list.now c.get-args.result.now c.get-args.ensures c.args.n c.if-n-args.false))
