use Rattle.std.proofs.Common.{◌+◌, ◌++◌, ◌∷◌, [], ◌∙◌, sym, ap, subst, drop}
use Rattle.meson_syntax.specs.Grammar.{argument_words}
use Rattle.meson_syntax.specs.View.{arg_view, args_view}
use Rattle.meson_calls.specs.Strings.{AreGood}
use Rattle.meson_calls.proofs.ArgumentViews.{plain_view}
use Rattle.meson_calls.proofs.Nested.{good_arg}
use Rattle.meson_steps.specs.OrderedLists.{sort_keys}
use Rattle.meson_steps.proofs.OrderedKeys.{keys_more, keys_named, keys_pair}
use Rattle.meson_steps.proofs.ordered_list.sort_keys.Goals as goal

pub sort_key-requires : goal.sort_key-requires
sort_key-requires c =
    let source = c.args.source.now in
    let d = c.index-args-i.result in
    let good = subst (λ a. AreGood (argument_words (arg_view source a))) (sym c.index-args-i.is) (good_arg source c.args.args.now c.loop-i.i d c.loop-i-test.true c.requires) in
    subst (λ a. AreGood (argument_words a)) (ap (arg_view source) c.in-Plain.is ∙ plain_view source c.in-Plain.value) good

pub returns-in-Named : goal.returns-in-Named
returns-in-Named c =
    keys_named c.args.source.now c.args.args.now c.loop-i.i c.index-args-i.result c.loop-i-test.true c.index-args-i.is c.loop-i.keys.items _ _ _ c.in-Named.is
    ∙ c.loop-i.invariant

pub returns-in-Pair : goal.returns-in-Pair
returns-in-Pair c =
    keys_pair c.args.source.now c.args.args.now c.loop-i.i c.index-args-i.result c.loop-i-test.true c.index-args-i.is c.loop-i.keys.items _ _ _ c.in-Pair.is
    ∙ c.loop-i.invariant

pub loop-i-preserved : goal.loop-i-preserved
loop-i-preserved c =
    let source = c.args.source.now in
    let args = c.args.args.now in
    let later = sort_keys (args_view source (drop (c.loop-i.i + 1) args)) in
    ap (λ l. l ++ later) (c.in_ok-push-in-Plain.ensures.items ∙ ap (λ k. c.loop-i.keys.items ++ k ∷ []) c.in_ok-sort_key-in-Plain.ensures)
    ∙ keys_more source args c.loop-i.i c.index-args-i.result c.loop-i-test.true c.index-args-i.is c.loop-i.keys.items c.in-Plain.value c.in-Plain.is
    ∙ c.loop-i.invariant
