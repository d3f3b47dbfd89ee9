use Rattle.std.proofs.Common.{◌∙◌, sym, ap, subst}
use Rattle.meson_syntax.specs.Grammar.{expression_words, operands_words}
use Rattle.meson_syntax.specs.Tree.{operands_of}
use Rattle.meson_syntax.specs.View.{expr_view, operands_view}
use Rattle.meson_calls.specs.Calls.{literal_of}
use Rattle.meson_calls.specs.Strings.{AreGood}
use Rattle.meson_calls.proofs.GoodParts.{good_left}
use Rattle.meson_following.specs.Names.{between, fit, text_or_empty}
use Rattle.meson_following.proofs.NameParts.{last_good}
use Rattle.meson_following.proofs.names.fit_sum.Goals as goal

pub text_or_empty-requires : goal.text_or_empty-requires
text_or_empty-requires c = good_left (expression_words (expr_view c.args.source.now c.args.first.now)) (operands_words (operands_of (operands_view c.args.source.now c.args.rest.now))) c.requires

pub text_or_empty-requires-2 : goal.text_or_empty-requires-2
text_or_empty-requires-2 c = subst (λ e. AreGood (expression_words e)) (sym (c.last_of.ensures c.args.source.now)) (last_good (expr_view c.args.source.now c.args.first.now) (operands_of (operands_view c.args.source.now c.args.rest.now)) c.requires)

pub returns : goal.returns
returns c =
    let x = c.args.variable.now in
    let begun = text_or_empty (literal_of (expr_view c.args.source.now c.args.first.now)) in
    let front = c.as_bytes.ensures.value ∙ c.in_ok-front.ensures in
    let back = c.as_bytes-2.ensures.value ∙ c.in_ok-back.ensures ∙ ap (λ e. text_or_empty (literal_of e)) (c.last_of.ensures c.args.source.now) in
    c.fit_between.ensures ∙ ap (λ t. fit x (between t c.as_bytes-2.result.now)) front ∙ ap (λ t. fit x (between begun t)) back
