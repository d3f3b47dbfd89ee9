use Rattle.std.proofs.Common.{◌-◌, ◌<◌, Some, ◌∙◌, sym, ap, subst, arith}
use Rattle.std.proofs.lemmas.List.{at_drop_all}
use Rattle.meson_syntax.specs.Grammar.{argument_words}
use Rattle.meson_syntax.specs.View.{arg_view, args_view}
use Rattle.meson_calls.specs.Parts.{argument_child_count}
use Rattle.meson_calls.specs.Strings.{AreGood}
use Rattle.meson_calls.proofs.Nested.{good_arg}
use Rattle.meson_places.specs.Slots.{child_of, nth_child}
use Rattle.meson_places.proofs.ListElements.{child_here, child_later}
use Rattle.meson_places.proofs.slots.nth_child.Goals as goal

pub returns-then-i-n-clause-child : goal.returns-then-i-n-clause-child
returns-then-i-n-clause-child c = λ source.
    ap Some (c.child_of.ensures.child source ∙ ap (λ a. child_of c.loop-i.before (arg_view source a)) c.index-elements-i.is)
    ∙ sym (child_here source c.args.elements.now c.loop-i.i c.index-elements-i.result c.loop-i-test.true c.loop-i.before c.args.n c.if-i-n.true)
    ∙ c.loop-i.invariant.rest source

pub returns-then-i-n-clause-good : goal.returns-then-i-n-clause-good
returns-then-i-n-clause-good c = λ source good.
    c.child_of.ensures.good source
    (subst (λ a. AreGood (argument_words (arg_view source a))) (sym c.index-elements-i.is) (good_arg source c.args.elements.now c.loop-i.i c.index-elements-i.result c.loop-i-test.true good))

pub loop-i-preserved : goal.loop-i-preserved
loop-i-preserved c = record {
  few = omega arith;
  left = omega arith;
  rest = λ source.
      let past : c.loop-i.i < c.args.n = omega arith in
      child_later source c.args.elements.now c.loop-i.i c.index-elements-i.result c.loop-i-test.true c.loop-i.before c.args.n c.child_count-before.result past
      (c.child_count-before.ensures.count source ∙ ap (λ a. argument_child_count (arg_view source a)) c.index-elements-i.is)
      ∙ c.loop-i.invariant.rest source;
}

pub returns-clause-child : goal.returns-clause-child
returns-clause-child c = λ source.
    sym (at_drop_all (λ xs. nth_child c.loop-i.before (args_view source xs) (c.args.n - c.loop-i.i)) c.args.elements.now c.loop-i.i c.loop-i-test.false) ∙ c.loop-i.invariant.rest source
