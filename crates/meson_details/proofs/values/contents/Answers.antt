use Rattle.std.proofs.Common.{◌≤◌, ◌+◌, ◌++◌, ◌∷◌, [], drop, length, sym, ap, ◌∙◌, subst, arith}
use Rattle.meson_syntax.specs.Grammar.{argument_words}
use Rattle.meson_syntax.specs.View.{arg_view, args_view}
use Rattle.meson_calls.specs.Strings.{AreGood}
use Rattle.meson_calls.proofs.Nested.{good_arg}
use Rattle.meson_details.specs.Values.{AreTextsOf, content, contents_from, number_after}
use Rattle.meson_details.proofs.ValueParts.{its_texts, one_more}
use Rattle.meson_details.proofs.values.contents.Goals as goal

pub content-requires-clause-good : goal.content-requires-clause-good
content-requires-clause-good c =
    subst (λ a. AreGood (argument_words (arg_view c.args.source.now a))) (sym c.index-elements-i.is)
    (good_arg c.args.source.now c.args.elements.now c.loop-i.i c.index-elements-i.result c.loop-i-test.true c.requires.good)

pub content-requires-clause-texts : goal.content-requires-clause-texts
content-requires-clause-texts c =
    let source = c.args.source.now in
    subst (λ a. AreTextsOf source (arg_view source a)) (sym c.index-elements-i.is)
    (its_texts source c.args.elements.now c.loop-i.i c.index-elements-i.result c.loop-i-test.true c.requires.texts)

pub loop-i-preserved : goal.loop-i-preserved
loop-i-preserved c =
    let source = c.args.source.now in
    let args = c.args.elements.now in
    let i = c.loop-i.i in
    let n = c.loop-i.number in
    let d = c.index-elements-i.result in
    let all = c.loop-i.all.items in
    let rest = args_view source (drop (i + 1) args) in
    let few : c.number_after-number.result ≤ i + 1 = omega (arith, c.loop-i.invariant.few, c.number_after-number.ensures.few) in
    record {
      few = few;
      seen = c.loop-i.invariant.seen ∙ one_more source args i d c.loop-i-test.true all n
          ∙ ap (λ a. (all ++ content source n (arg_view source a) ∷ []) ++ contents_from source (number_after n (arg_view source a)) rest) (sym c.index-elements-i.is)
          ∙ ap (λ x. (all ++ x ∷ []) ++ contents_from source (number_after n (arg_view source d)) rest) (sym c.in_ok-content.ensures)
          ∙ ap (λ xs. xs ++ contents_from source (number_after n (arg_view source d)) rest) (sym c.in_ok-push.ensures.items)
          ∙ ap (λ m. c.push.new.self.items ++ contents_from source m rest) (sym (c.number_after-number.ensures.next source));
    }
