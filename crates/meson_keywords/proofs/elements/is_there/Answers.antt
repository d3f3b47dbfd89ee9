use Rattle.meson_keywords.proofs.Words.{◌∙◌, sym, ap, subst, argument_words, arg_view, AreGood, good_arg, says}
use Rattle.meson_keywords.proofs.ElementsSay.{any_here, any_more}
use Rattle.meson_keywords.proofs.elements.is_there.Goals as goal

pub passes-requires : goal.passes-requires
passes-requires c =
    subst (λ a. AreGood (argument_words (arg_view c.args.source.now a))) (sym c.index-elements-i.is)
    (good_arg c.args.source.now c.args.elements.now c.loop-i.i c.index-elements-i.result c.loop-i-test.true c.requires)

pub returns-then-branch : goal.returns-then-branch
returns-then-branch c =
    let source = c.args.source.now in
    let here = ap (λ a. says c.args.kind c.args.text.now (arg_view source a)) (sym c.index-elements-i.is) ∙ sym c.in_ok-passes.ensures ∙ c.if-branch.true in
    sym (sym c.loop-i.invariant ∙ any_here source c.args.elements.now c.loop-i.i c.index-elements-i.result c.loop-i-test.true (says c.args.kind c.args.text.now) here)

pub loop-i-preserved : goal.loop-i-preserved
loop-i-preserved c =
    let source = c.args.source.now in
    let here = ap (λ a. says c.args.kind c.args.text.now (arg_view source a)) (sym c.index-elements-i.is) ∙ sym c.in_ok-passes.ensures ∙ c.if-branch.false in
    sym (any_more source c.args.elements.now c.loop-i.i c.index-elements-i.result c.loop-i-test.true (says c.args.kind c.args.text.now) here) ∙ c.loop-i.invariant
