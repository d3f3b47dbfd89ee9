use Rattle.std.proofs.Common.{sym, ap, ◌∙◌}
use Rattle.meson_syntax.specs.View.{args_view, expr_view}
use Rattle.meson_edit.proofs.lists.CodeElements.{list_elements}
use Rattle.meson_calls.proofs.Nested.{call_view}
use Rattle.meson_explaining.specs.ArgumentValues.{call_arguments}
use Rattle.meson_explaining.proofs.argument_values.call_arguments.Goals as goal

pub returns-in-Call : goal.returns-in-Call
returns-in-Call c = λ source.
    ap (args_view source) c.get.ensures ∙ sym (list_elements source c.in-Call.arguments)
    ∙ sym (ap call_arguments (ap (expr_view source) c.in-Call.is ∙ call_view source c.in-Call.span c.in-Call.name c.in-Call.arguments))
