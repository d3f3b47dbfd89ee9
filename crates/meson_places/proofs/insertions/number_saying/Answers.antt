use Rattle.std.proofs.Common.{◌∙◌, sym, ap, subst}
use Rattle.meson_syntax.specs.Grammar.{argument_words}
use Rattle.meson_syntax.specs.View.{arg_view}
use Rattle.meson_calls.specs.Strings.{AreGood}
use Rattle.meson_calls.proofs.Nested.{good_arg}
use Rattle.meson_places.specs.Equality.{element_says}
use Rattle.meson_places.proofs.Marks.{number_here, number_more}
use Rattle.meson_places.proofs.insertions.number_saying.Goals as goal

pub element_says-requires : goal.element_says-requires
element_says-requires c =
    subst (λ a. AreGood (argument_words (arg_view c.args.source.now a))) (sym c.index-elements-i.is)
    (good_arg c.args.source.now c.args.elements.now c.loop-i.i c.index-elements-i.result c.loop-i-test.true c.requires)

pub returns-then-branch-clause-found : goal.returns-then-branch-clause-found
returns-then-branch-clause-found c =
    let source = c.args.source.now in
    let g = c.args.given.now in
    let here = ap (λ a. element_says source g (arg_view source a)) (sym c.index-elements-i.is) ∙ sym c.in_ok-element_says.ensures ∙ c.if-branch.true in
    sym (sym c.loop-i.invariant ∙ number_here source g c.args.elements.now c.loop-i.i c.index-elements-i.result c.loop-i-test.true here)

pub loop-i-preserved : goal.loop-i-preserved
loop-i-preserved c =
    let source = c.args.source.now in
    let g = c.args.given.now in
    let here = ap (λ a. element_says source g (arg_view source a)) (sym c.index-elements-i.is) ∙ sym c.in_ok-element_says.ensures ∙ c.if-branch.false in
    sym (number_more source g c.args.elements.now c.loop-i.i c.index-elements-i.result c.loop-i-test.true here) ∙ c.loop-i.invariant
