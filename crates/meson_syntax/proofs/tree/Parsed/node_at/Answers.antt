use Rattle.std.proofs.Common.{◌∙◌, ◌+◌, ap, sym, drop}
use Rattle.std.specs.Prelude.{option_and_then}
use Rattle.std.proofs.lemmas.List.{at_drop_more}
use Rattle.meson_syntax.specs.Children.{a_block}
use Rattle.meson_syntax.specs.inside.Children.{node_at, node_view}
use Rattle.meson_syntax.specs.View.{block_view}
use Rattle.meson_syntax.proofs.tree.Parsed.node_at.Goals as goal

pub returns-in-None : goal.returns-in-None
returns-in-None c = λ source.
    let steps = c.get-steps.result.now in
    ap (λ y. option_and_then (λ z. node_at z (drop (c.loop-i.i + 1) steps)) y) (c.in-None.ensures source)
    ∙ sym (at_drop_more (node_at (node_view source c.loop-i.node)) steps c.loop-i.i 0 c.loop-i-test.true)
    ∙ c.loop-i.invariant source ∙ ap (node_at (a_block (block_view source c.args.self.now.block))) c.get-steps.ensures
