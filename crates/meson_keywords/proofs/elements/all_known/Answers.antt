use Rattle.meson_keywords.proofs.Words.{◌∙◌, sym, ap, is_some, arg_view, plain_view, named_view, element_text}
use Rattle.meson_keywords.proofs.ElementsSay.{good_plain, known_more, known_not, pair_view}
use Rattle.meson_keywords.proofs.elements.all_known.Goals as goal

pub is_element-requires : goal.is_element-requires
is_element-requires c = good_plain c.args.source.now c.args.elements.now c.loop-i.i c.index-elements-i.result c.in-Plain.value c.loop-i-test.true c.requires (sym c.index-elements-i.is ∙ c.in-Plain.is)

pub returns-then-not-branch : goal.returns-then-not-branch
returns-then-not-branch c =
    let source = c.args.source.now in
    let view = ap (λ a. is_some (element_text c.args.kind (arg_view source a))) (sym c.index-elements-i.is ∙ c.in-Plain.is) ∙ ap (λ a. is_some (element_text c.args.kind a)) (plain_view source c.in-Plain.value) in
    sym (sym c.loop-i.invariant ∙ known_not source c.args.elements.now c.loop-i.i c.index-elements-i.result c.loop-i-test.true c.args.kind (view ∙ sym c.in_ok-is_element-in-Plain.ensures ∙ c.if-not-branch.true))

pub returns-in-Named : goal.returns-in-Named
returns-in-Named c =
    let source = c.args.source.now in
    let view = ap (λ a. is_some (element_text c.args.kind (arg_view source a))) (sym c.index-elements-i.is ∙ c.in-Named.is) ∙ ap (λ a. is_some (element_text c.args.kind a)) (named_view source c.in-Named.span c.in-Named.name c.in-Named.value) in
    sym (sym c.loop-i.invariant ∙ known_not source c.args.elements.now c.loop-i.i c.index-elements-i.result c.loop-i-test.true c.args.kind view)

pub returns-in-Pair : goal.returns-in-Pair
returns-in-Pair c =
    let source = c.args.source.now in
    let view = ap (λ a. is_some (element_text c.args.kind (arg_view source a))) (sym c.index-elements-i.is ∙ c.in-Pair.is) ∙ ap (λ a. is_some (element_text c.args.kind a)) (pair_view source c.in-Pair.span c.in-Pair.key c.in-Pair.value) in
    sym (sym c.loop-i.invariant ∙ known_not source c.args.elements.now c.loop-i.i c.index-elements-i.result c.loop-i-test.true c.args.kind view)

pub loop-i-preserved : goal.loop-i-preserved
loop-i-preserved c =
    let source = c.args.source.now in
    let view = ap (λ a. is_some (element_text c.args.kind (arg_view source a))) (sym c.index-elements-i.is ∙ c.in-Plain.is) ∙ ap (λ a. is_some (element_text c.args.kind a)) (plain_view source c.in-Plain.value) in
    sym (known_more source c.args.elements.now c.loop-i.i c.index-elements-i.result c.loop-i-test.true c.args.kind (view ∙ sym c.in_ok-is_element-in-Plain.ensures ∙ c.if-not-branch.false)) ∙ c.loop-i.invariant
