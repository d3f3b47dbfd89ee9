use Rattle.meson_keywords.proofs.Words.{◌∙◌, sym, ap, subst, is_some, expression_words, arg_view, expr_view, literal_of, AreGood, plain_view, named_view}
use Rattle.meson_keywords.proofs.Words.{good_arg, key_text}
use Rattle.meson_keywords.proofs.ElementsSay.{good_key, keys_more, keys_not, pair_view}
use Rattle.meson_keywords.proofs.elements.keys_known.Goals as goal

pub is_element-requires : goal.is_element-requires
is_element-requires c =
    let source = c.args.source.now in
    subst (λ e. AreGood (expression_words (expr_view source e))) (sym c.get.ensures)
    (good_key source _ c.in-Pair.span c.in-Pair.key c.in-Pair.value (good_arg source c.args.elements.now c.loop-i.i c.index-elements-i.result c.loop-i-test.true c.requires) (sym c.index-elements-i.is ∙ c.in-Pair.is))

pub returns-then-not-branch : goal.returns-then-not-branch
returns-then-not-branch c =
    let source = c.args.source.now in
    let view = ap (λ a. is_some (key_text (arg_view source a))) (sym c.index-elements-i.is ∙ c.in-Pair.is) ∙ ap (λ a. is_some (key_text a)) (pair_view source c.in-Pair.span c.in-Pair.key c.in-Pair.value)
    ∙ ap (λ e. is_some (literal_of (expr_view source e))) (sym c.get.ensures) in
    sym (sym c.loop-i.invariant ∙ keys_not source c.args.elements.now c.loop-i.i c.index-elements-i.result c.loop-i-test.true (view ∙ sym c.in_ok-is_element-in-Pair.ensures ∙ c.if-not-branch.true))

pub returns-in-Plain : goal.returns-in-Plain
returns-in-Plain c =
    let source = c.args.source.now in
    let view = ap (λ a. is_some (key_text (arg_view source a))) (sym c.index-elements-i.is ∙ c.in-Plain.is) ∙ ap (λ a. is_some (key_text a)) (plain_view source c.in-Plain.field-0) in
    sym (sym c.loop-i.invariant ∙ keys_not source c.args.elements.now c.loop-i.i c.index-elements-i.result c.loop-i-test.true view)

pub returns-in-Named : goal.returns-in-Named
returns-in-Named c =
    let source = c.args.source.now in
    let view = ap (λ a. is_some (key_text (arg_view source a))) (sym c.index-elements-i.is ∙ c.in-Named.is) ∙ ap (λ a. is_some (key_text a)) (named_view source c.in-Named.span c.in-Named.name c.in-Named.value) in
    sym (sym c.loop-i.invariant ∙ keys_not source c.args.elements.now c.loop-i.i c.index-elements-i.result c.loop-i-test.true view)

pub loop-i-preserved : goal.loop-i-preserved
loop-i-preserved c =
    let source = c.args.source.now in
    let view = ap (λ a. is_some (key_text (arg_view source a))) (sym c.index-elements-i.is ∙ c.in-Pair.is) ∙ ap (λ a. is_some (key_text a)) (pair_view source c.in-Pair.span c.in-Pair.key c.in-Pair.value)
    ∙ ap (λ e. is_some (literal_of (expr_view source e))) (sym c.get.ensures) in
    sym (keys_more source c.args.elements.now c.loop-i.i c.index-elements-i.result c.loop-i-test.true (view ∙ sym c.in_ok-is_element-in-Pair.ensures ∙ c.if-not-branch.false)) ∙ c.loop-i.invariant
