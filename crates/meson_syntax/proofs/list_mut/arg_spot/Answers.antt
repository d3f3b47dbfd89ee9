use Rattle.std.proofs.Common.{◌+◌, ◌∙◌, length, refl, ap, arith}
use Rattle.std.proofs.lemmas.List.{get_or_default}
use Rattle.meson_syntax.specs.Children.{argument_parts}
use Rattle.meson_syntax.specs.inside.Children.{look}
use Rattle.meson_syntax.specs.View.{arg_view}
use Rattle.meson_syntax.proofs.Putting.{ahead-more, ahead-past, look-found, look-left}
use Rattle.meson_syntax.proofs.list_mut.arg_spot.Goals as goal

pub returns-in-Node : goal.returns-in-Node
returns-in-Node c = λ source.
    let list = c.args.args.now in
    let i = c.loop-i.i in
    let here = c.in-Node.ensures source ∙ ap (λ x. look (argument_parts (arg_view source x)) c.loop-i.left) c.index-args-i.is in
    record {
      number = c.loop-i.invariant source;
      inside = λ d small. rw (get_or_default list i d c.index-args-i.result small) (look-found _ c.loop-i.left _ here);
      most = omega (arith, c.loop-i-test.true);
    }

pub loop-i-preserved : goal.loop-i-preserved
loop-i-preserved c = λ source.
    let list = c.args.args.now in
    let i = c.loop-i.i in
    let so_far = c.loop-i.invariant source in
    let more = ahead-more (λ x. length (argument_parts (arg_view source x))) list i (i + 1) c.index-args-i.result c.loop-i-test.true refl in
    let here = c.in-Left.ensures source ∙ ap (λ x. look (argument_parts (arg_view source x)) c.loop-i.left) c.index-args-i.is in
    let behind = look-left _ c.loop-i.left c.in-Left.rest here in
    omega (arith, so_far, more, behind)

pub returns : goal.returns
returns c = λ source. record {
  number = c.loop-i.invariant source ∙ ap (λ a. a + c.loop-i.left) (ahead-past _ c.args.args.now c.loop-i.i c.loop-i-test.false);
  inside = λ d small. absurd (omega (arith, small, c.loop-i-test.false));
  most = omega (arith, c.loop-i-test.false);
}
