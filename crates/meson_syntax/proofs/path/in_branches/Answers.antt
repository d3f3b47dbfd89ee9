use Rattle.std.proofs.Common.{◌∙◌, ap, refl}
use Rattle.meson_syntax.specs.inside.Children.{branch_parts, rust_branches_parts, look}
use Rattle.meson_syntax.specs.View.{branch_view}
use Rattle.meson_syntax.proofs.Looks.{look-here, look-past, look-end}
use Rattle.meson_syntax.proofs.path.in_branches.Goals as goal

pub returns-in-Node : goal.returns-in-Node
returns-in-Node c = λ source.
    look-here (λ a. branch_parts (branch_view source a)) (rust_branches_parts source) (λ a more. refl) c.args.branches.now c.loop-i.i c.index-branches-i.result c.loop-i.left _ _ c.loop-i-test.true
    (c.in-Node.ensures source ∙ ap (λ a. look (branch_parts (branch_view source a)) c.loop-i.left) c.index-branches-i.is) (c.loop-i.invariant source)

pub loop-i-preserved : goal.loop-i-preserved
loop-i-preserved c = λ source.
    look-past (λ a. branch_parts (branch_view source a)) (rust_branches_parts source) (λ a more. refl) c.args.branches.now c.loop-i.i c.index-branches-i.result c.loop-i.left c.in-Left.rest _ c.loop-i-test.true
    (c.in-Left.ensures source ∙ ap (λ a. look (branch_parts (branch_view source a)) c.loop-i.left) c.index-branches-i.is) (c.loop-i.invariant source)

pub returns : goal.returns
returns c = λ source. look-end (λ a. branch_parts (branch_view source a)) (rust_branches_parts source) (λ a more. refl) c.args.branches.now c.loop-i.i c.loop-i.left _ refl c.loop-i-test.false (c.loop-i.invariant source)
