use Rattle.meson_steps.proofs.Words.{◌∙◌, ◌+◌, ap, sym, drop, get_or, option_and_then, at_drop_more, at_drop_all, a_block, block_view, node_at}
use Rattle.meson_steps.proofs.Words.{layer_any, layer_view}
use Rattle.meson_steps.proofs.BlockNodes.{layer_itself, next_below}
use Rattle.meson_steps.proofs.statements.layer_at.Goals as goal

pub loop-i-preserved : goal.loop-i-preserved
loop-i-preserved c = λ source.
    let steps = c.get-steps.result.now in
    let left = drop (c.loop-i.i + 1) steps in
    ap (λ o. option_and_then layer_any (option_and_then (λ y. node_at y left) o)) (c.in-Some.ensures source)
    ∙ sym (next_below (layer_view source c.loop-i.layer) (get_or steps c.loop-i.i 0) left)
    ∙ sym (at_drop_more (λ p. option_and_then layer_any (node_at (layer_view source c.loop-i.layer) p)) steps c.loop-i.i 0 c.loop-i-test.true)
    ∙ c.loop-i.invariant source

pub returns-in-None : goal.returns-in-None
returns-in-None c = λ source.
    let steps = c.get-steps.result.now in
    let left = drop (c.loop-i.i + 1) steps in
    ap (λ o. option_and_then layer_any (option_and_then (λ y. node_at y left) o)) (c.in-None.ensures source)
    ∙ sym (next_below (layer_view source c.loop-i.layer) (get_or steps c.loop-i.i 0) left)
    ∙ sym (at_drop_more (λ p. option_and_then layer_any (node_at (layer_view source c.loop-i.layer) p)) steps c.loop-i.i 0 c.loop-i-test.true)
    ∙ c.loop-i.invariant source
    ∙ ap (λ p. option_and_then layer_any (node_at (a_block (block_view source c.args.tree.now.block)) p)) c.get-steps.ensures

pub returns : goal.returns
returns c = λ source.
    let steps = c.get-steps.result.now in
    layer_itself source c.loop-i.layer
    ∙ sym (at_drop_all (λ p. option_and_then layer_any (node_at (layer_view source c.loop-i.layer) p)) steps c.loop-i.i c.loop-i-test.false)
    ∙ c.loop-i.invariant source
    ∙ ap (λ p. option_and_then layer_any (node_at (a_block (block_view source c.args.tree.now.block)) p)) c.get-steps.ensures
