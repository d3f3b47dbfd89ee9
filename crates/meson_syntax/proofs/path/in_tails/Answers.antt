use Rattle.std.proofs.Common.{◌∙◌, ap, refl}
use Rattle.meson_syntax.specs.Children.{tail_parts}
use Rattle.meson_syntax.specs.inside.Children.{rust_tails_parts, look}
use Rattle.meson_syntax.specs.View.{tail_view}
use Rattle.meson_syntax.proofs.Looks.{look-here, look-past, look-end}
use Rattle.meson_syntax.proofs.path.in_tails.Goals as goal

pub returns-in-Node : goal.returns-in-Node
returns-in-Node c = λ source.
    look-here (λ a. tail_parts (tail_view source a)) (rust_tails_parts source) (λ a more. refl) c.args.tails.now c.loop-i.i c.index-tails-i.result c.loop-i.left _ _ c.loop-i-test.true
    (c.in-Node.ensures source ∙ ap (λ a. look (tail_parts (tail_view source a)) c.loop-i.left) c.index-tails-i.is) (c.loop-i.invariant source)

pub loop-i-preserved : goal.loop-i-preserved
loop-i-preserved c = λ source.
    look-past (λ a. tail_parts (tail_view source a)) (rust_tails_parts source) (λ a more. refl) c.args.tails.now c.loop-i.i c.index-tails-i.result c.loop-i.left c.in-Left.rest _ c.loop-i-test.true
    (c.in-Left.ensures source ∙ ap (λ a. look (tail_parts (tail_view source a)) c.loop-i.left) c.index-tails-i.is) (c.loop-i.invariant source)

pub returns : goal.returns
returns c = λ source. look-end (λ a. tail_parts (tail_view source a)) (rust_tails_parts source) (λ a more. refl) c.args.tails.now c.loop-i.i c.loop-i.left _ refl c.loop-i-test.false (c.loop-i.invariant source)
