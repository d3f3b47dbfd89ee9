use Rattle.meson_steps.proofs.Words.{◌∙◌, ap, sym, option_and_then, Span, a_block, block_view, view, node_at, assigned_any}
use Rattle.meson_steps.proofs.BlockNodes.{assigned_layer, assigned_reached}
use Rattle.meson_steps.proofs.statements.assigned_at.Goals as goal

pub returns-in-Some : goal.returns-in-Some
returns-in-Some c = λ source.
    c.assigned.ensures source ∙ ap (option_and_then assigned_any) (c.in-Some.ensures source)
    ∙ sym (assigned_reached Span (view source c.args.tree.now) c.args.path.now.steps ∙ assigned_layer (node_at (a_block (block_view source c.args.tree.now.block)) c.args.path.now.steps))

pub returns-in-None : goal.returns-in-None
returns-in-None c = λ source.
    ap (option_and_then assigned_any) (c.in-None.ensures source)
    ∙ sym (assigned_reached Span (view source c.args.tree.now) c.args.path.now.steps ∙ assigned_layer (node_at (a_block (block_view source c.args.tree.now.block)) c.args.path.now.steps))
