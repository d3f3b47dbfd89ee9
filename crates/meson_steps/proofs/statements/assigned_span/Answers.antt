use Rattle.meson_steps.proofs.Words.{ap, ◌∙◌, Some, view, option_map, expression_span}
use Rattle.meson_edit.specs.Assigned.{assigned_at}
use Rattle.meson_steps.proofs.BlockNodes.{span_of_value}
use Rattle.meson_steps.proofs.statements.assigned_span.Goals as goal

pub returns-in-Some : goal.returns-in-Some
returns-in-Some c = λ source.
    ap Some (c.span_of.ensures source) ∙ ap (option_map expression_span) (c.in-Some.ensures source)
    ∙ span_of_value (assigned_at (view source c.args.tree.now) c.args.path.now.steps)

pub returns-in-None : goal.returns-in-None
returns-in-None c = λ source. ap (option_map expression_span) (c.in-None.ensures source) ∙ span_of_value (assigned_at (view source c.args.tree.now) c.args.path.now.steps)
