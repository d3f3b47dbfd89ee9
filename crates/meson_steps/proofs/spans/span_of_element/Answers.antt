use Rattle.meson_steps.proofs.Words.{ap, ◌∙◌, sym, arg_view, argument_span, plain_view}
use Rattle.meson_steps.proofs.spans.span_of_element.Goals as goal

pub returns-in-Plain : goal.returns-in-Plain
returns-in-Plain c = λ source. c.span_of.ensures source ∙ sym (ap (λ a. argument_span (arg_view source a)) c.in-Plain.is ∙ ap argument_span (plain_view source c.in-Plain.value))
