use Rattle.meson_steps.proofs.Words.{◌∙◌, ap, sym, option_map, view, placed_edit}
use Rattle.meson_layout.specs.declared.primitive.Primitive.TheVariants as layout
use Rattle.meson_steps.proofs.layouts.block_primitive.Goals as goal

pub returns-in-Some : goal.returns-in-Some
returns-in-Some c = λ source of. ap (option_map (λ s. layout.RemoveStatement s c.in-RemoveStatement.blank)) (c.in-Some.ensures source) ∙ ap (placed_edit (view source c.args.tree.now) c.args.path.now.steps) (sym c.in-RemoveStatement.is)

pub returns-in-RemoveStatement : goal.returns-in-RemoveStatement
returns-in-RemoveStatement c = λ source of. ap (option_map (λ s. layout.RemoveStatement s c.in-RemoveStatement.blank)) (c.in-None.ensures source) ∙ ap (placed_edit (view source c.args.tree.now) c.args.path.now.steps) (sym c.in-RemoveStatement.is)

pub returns-in-Some-assigned_span : goal.returns-in-Some-assigned_span
returns-in-Some-assigned_span c = λ source of.
    ap (option_map (λ s. layout.Replace s c.in-Assign.new)) (c.in-Some-assigned_span.ensures source) ∙ ap (placed_edit (view source c.args.tree.now) c.args.path.now.steps) (sym c.in-Assign.is)

pub returns-in-Assign : goal.returns-in-Assign
returns-in-Assign c = λ source of.
    ap (option_map (λ s. layout.Replace s c.in-Assign.new)) (c.in-None-assigned_span.ensures source) ∙ ap (placed_edit (view source c.args.tree.now) c.args.path.now.steps) (sym c.in-Assign.is)

pub returns-in-Some-side_spot : goal.returns-in-Some-side_spot
returns-in-Some-side_spot c = λ source of.
    ap (option_map (λ s. layout.Lines s c.in-Lines.new)) (c.in-Some-side_spot.ensures source) ∙ ap (placed_edit (view source c.args.tree.now) c.args.path.now.steps) (sym c.in-Lines.is)

pub returns-in-Lines : goal.returns-in-Lines
returns-in-Lines c = λ source of.
    ap (option_map (λ s. layout.Lines s c.in-Lines.new)) (c.in-None-side_spot.ensures source) ∙ ap (placed_edit (view source c.args.tree.now) c.args.path.now.steps) (sym c.in-Lines.is)
