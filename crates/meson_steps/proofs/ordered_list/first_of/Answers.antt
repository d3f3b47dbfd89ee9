use Rattle.std.proofs.Common.{◌∙◌, List, ℕ, Option, sym, ap, subst}
use Rattle.std.specs.Prelude.{option_map}
use Rattle.std.proofs.lemmas.Result.{IfOk-weaker}
use Rattle.meson_edit.specs.Edits.{Written}
use Rattle.meson_syntax.specs.Grammar.{argument_words}
use Rattle.meson_syntax.specs.Tree.{Expression, Nowhere}
use Rattle.meson_syntax.specs.View.{arg_view}
use Rattle.meson_calls.specs.Strings.{AreGood}
use Rattle.meson_calls.proofs.ArgumentViews.{plain_view}
use Rattle.meson_calls.proofs.Nested.{good_arg}
use Rattle.meson_steps.proofs.OrderedKeys.{first_named, first_pair, first_plain}
use Rattle.meson_steps.proofs.ordered_list.first_of.Goals as goal

abbrev text : Option (Written (Expression Nowhere)) → Option (List ℕ)
text o = option_map (λ w. w.bytes) o

pub first_text-requires : goal.first_text-requires
first_text-requires c =
    let source = c.args.source.now in
    let d = c.index-args-from.result in
    let good = subst (λ a. AreGood (argument_words (arg_view source a))) (sym c.index-args-from.is) (good_arg source c.args.args.now c.args.from d c.if-from-args.false c.requires) in
    subst (λ a. AreGood (argument_words a)) (ap (arg_view source) c.in-Plain.is ∙ plain_view source c.in-Plain.value) good

pub returns-in-Plain : goal.returns-in-Plain
returns-in-Plain c =
    let whole = first_plain c.args.source.now c.args.args.now c.args.from c.index-args-from.result c.if-from-args.false c.index-args-from.is c.in-Plain.value c.in-Plain.is in
    IfOk-weaker c.first_text.result _ _ (λ t h. h ∙ ap text (sym whole)) c.first_text.ensures

pub returns-in-Named : goal.returns-in-Named
returns-in-Named c =
    sym (ap text (first_named c.args.source.now c.args.args.now c.args.from c.index-args-from.result c.if-from-args.false c.index-args-from.is c.in-Named.span c.in-Named.name c.in-Named.value c.in-Named.is))

pub returns-in-Pair : goal.returns-in-Pair
returns-in-Pair c =
    sym (ap text (first_pair c.args.source.now c.args.args.now c.args.from c.index-args-from.result c.if-from-args.false c.index-args-from.is c.in-Pair.span c.in-Pair.key c.in-Pair.value c.in-Pair.is))
