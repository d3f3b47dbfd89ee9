use Rattle.std.proofs.Common.{◌∙◌, sym, ap, subst}
use Rattle.meson_syntax.specs.Grammar.{argument_words}
use Rattle.meson_syntax.specs.View.{arg_view}
use Rattle.meson_calls.specs.Strings.{AreGood}
use Rattle.meson_calls.proofs.Nested.{good_arg}
use Rattle.meson_places.specs.Values.{is_text}
use Rattle.meson_places.proofs.ListElements.{all_more, all_not}
use Rattle.meson_places.proofs.changes.all_texts.Goals as goal

pub is_text-requires : goal.is_text-requires
is_text-requires c =
    subst (λ a. AreGood (argument_words (arg_view c.args.source.now a))) (sym c.index-elements-i.is)
    (good_arg c.args.source.now c.args.elements.now c.loop-i.i c.index-elements-i.result c.loop-i-test.true c.requires)

pub returns-then-not-branch : goal.returns-then-not-branch
returns-then-not-branch c =
    let source = c.args.source.now in
    let here = ap (λ a. is_text (arg_view source a)) (sym c.index-elements-i.is) ∙ sym c.in_ok-is_text.ensures ∙ c.if-not-branch.true in
    sym (sym c.loop-i.invariant ∙ all_not source c.args.elements.now c.loop-i.i c.index-elements-i.result c.loop-i-test.true is_text here)

pub loop-i-preserved : goal.loop-i-preserved
loop-i-preserved c =
    let source = c.args.source.now in
    let here = ap (λ a. is_text (arg_view source a)) (sym c.index-elements-i.is) ∙ sym c.in_ok-is_text.ensures ∙ c.if-not-branch.false in
    sym (all_more source c.args.elements.now c.loop-i.i c.index-elements-i.result c.loop-i-test.true is_text here) ∙ c.loop-i.invariant
