use Rattle.std.proofs.Common.{◌+◌, drop, sym, ap, ◌∙◌, subst}
use Rattle.meson_syntax.specs.Grammar.{argument_words}
use Rattle.meson_syntax.specs.View.{arg_view, args_view}
use Rattle.meson_calls.specs.Strings.{AreGood}
use Rattle.meson_calls.proofs.Nested.{good_arg}
use Rattle.meson_details.specs.Details.{literal_in, of_each}
use Rattle.meson_details.proofs.EachShown.{after, each_more, each_stops}
use Rattle.meson_details.proofs.showing.literals_in.Goals as goal

pub literal_in-requires : goal.literal_in-requires
literal_in-requires c =
    subst (λ a. AreGood (argument_words (arg_view c.args.source.now a))) (sym c.index-elements-i.is)
    (good_arg c.args.source.now c.args.elements.now c.loop-i.i c.index-elements-i.result c.loop-i-test.true c.requires)

pub returns-in-None : goal.returns-in-None
returns-in-None c =
    let source = c.args.source.now in
    let none = ap (λ a. literal_in (arg_view source a)) (sym c.index-elements-i.is) ∙ sym c.in_ok-text.ensures ∙ c.in-None.is in
    sym (c.loop-i.invariant ∙ each_stops literal_in source c.args.elements.now c.loop-i.i c.index-elements-i.result c.loop-i-test.true c.loop-i.texts.items none)

pub loop-i-preserved : goal.loop-i-preserved
loop-i-preserved c =
    let source = c.args.source.now in
    let args = c.args.elements.now in
    let i = c.loop-i.i in
    let some = ap (λ a. literal_in (arg_view source a)) (sym c.index-elements-i.is) ∙ sym c.in_ok-text.ensures ∙ c.in-Some.is in
    c.loop-i.invariant ∙ each_more literal_in source args i c.index-elements-i.result c.loop-i-test.true c.loop-i.texts.items c.in-Some.text some
    ∙ ap (λ ts. after ts (of_each literal_in (args_view source (drop (i + 1) args)))) (sym c.in_ok-push-in-Some.ensures.items)
