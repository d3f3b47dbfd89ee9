use Rattle.std.proofs.Common.{◌+◌, ◌++◌, drop, sym, ap, ◌∙◌, subst}
use Rattle.std.specs.List.{filter_map}
use Rattle.meson_syntax.specs.Grammar.{argument_words}
use Rattle.meson_syntax.specs.View.{arg_view, args_view}
use Rattle.meson_calls.specs.Strings.{AreGood}
use Rattle.meson_calls.proofs.Nested.{good_arg}
use Rattle.meson_details.specs.Details.{shown_argument}
use Rattle.meson_details.proofs.EachShown.{kept_more, kept_none}
use Rattle.meson_details.specs.ValueTexts.{HasText}
use Rattle.meson_details.proofs.ValuesAreTexts.{arg_text}
use Rattle.meson_details.proofs.showing.shown_arguments.Goals as goal
use Rattle.meson_details.proofs.showing.shown_arguments.Goals.{in-Some+in_ok-push, in_default}

pub shown_argument-requires-clause-good : goal.shown_argument-requires-clause-good
shown_argument-requires-clause-good c =
    subst (λ a. AreGood (argument_words (arg_view c.args.source.now a))) (sym c.index-args-i.is)
    (good_arg c.args.source.now c.args.args.now c.loop-i.i c.index-args-i.result c.loop-i-test.true c.requires.good)

pub shown_argument-requires-clause-text : goal.shown_argument-requires-clause-text
shown_argument-requires-clause-text c =
    let source = c.args.source.now in
    subst (λ a. HasText source (arg_view source a)) (sym c.index-args-i.is) (arg_text source c.args.args.now c.loop-i.i c.index-args-i.result c.loop-i-test.true c.requires.texts)

pub loop-i-preserved : goal.loop-i-preserved
loop-i-preserved c =
    let source = c.args.source.now in
    let args = c.args.args.now in
    let i = c.loop-i.i in
    let d = c.index-args-i.result in
    let all = c.loop-i.pairs.items in
    let rest = filter_map (shown_argument source c.args.role) (args_view source (drop (i + 1) args)) in
    let here = ap (λ a. shown_argument source c.args.role (arg_view source a)) (sym c.index-args-i.is) ∙ sym c.in_ok-pair.ensures in
    elim c.match-branch-2.branch [
      | in-Some+in_ok-push w ↦
          ap (λ v. v.items ++ rest) w.pairs-is ∙ ap (λ ps. ps ++ rest) w.in_ok-push.ensures.items
          ∙ kept_more (shown_argument source c.args.role) source args i d c.loop-i-test.true all w.in-Some.pair (here ∙ w.in-Some.is) ∙ c.loop-i.invariant
      | in_default w ↦
          ap (λ v. v.items ++ rest) w.pairs-is ∙ kept_none (shown_argument source c.args.role) source args i d c.loop-i-test.true all (here ∙ w.in_default.is) ∙ c.loop-i.invariant
    ]
