use Rattle.std.proofs.Common.{◌∙◌, ap, refl}
use Rattle.meson_syntax.specs.Children.{argument_parts}
use Rattle.meson_syntax.specs.inside.Children.{args_parts, look}
use Rattle.meson_syntax.specs.View.{arg_view}
use Rattle.meson_syntax.proofs.Looks.{look-here, look-past, look-end}
use Rattle.meson_syntax.proofs.path.in_args.Goals as goal

pub returns-in-Node : goal.returns-in-Node
returns-in-Node c = λ source.
    look-here (λ a. argument_parts (arg_view source a)) (args_parts source) (λ a more. refl) c.args.args.now c.loop-i.i c.index-args-i.result c.loop-i.left _ _ c.loop-i-test.true
    (c.in-Node.ensures source ∙ ap (λ a. look (argument_parts (arg_view source a)) c.loop-i.left) c.index-args-i.is) (c.loop-i.invariant source)

pub loop-i-preserved : goal.loop-i-preserved
loop-i-preserved c = λ source.
    look-past (λ a. argument_parts (arg_view source a)) (args_parts source) (λ a more. refl) c.args.args.now c.loop-i.i c.index-args-i.result c.loop-i.left c.in-Left.rest _ c.loop-i-test.true
    (c.in-Left.ensures source ∙ ap (λ a. look (argument_parts (arg_view source a)) c.loop-i.left) c.index-args-i.is) (c.loop-i.invariant source)

pub returns : goal.returns
returns c = λ source. look-end (λ a. argument_parts (arg_view source a)) (args_parts source) (λ a more. refl) c.args.args.now c.loop-i.i c.loop-i.left _ refl c.loop-i-test.false (c.loop-i.invariant source)
