use Rattle.std.proofs.Common.{◌<◌, ◌≤◌, length, arith, ◌++◌, ap, sym, subst, ◌∙◌, map, string_bytes}
use Rattle.std.specs.Borrow.{Bor}
use Rattle.meson_syntax.specs.Grammar.{expression_words}
use Rattle.meson_syntax.specs.View.{expr_view}
use Rattle.meson_syntax.specs.declared.tree.Expr.{Expr}
use Rattle.meson_calls.specs.Strings.{AreGood}
use Rattle.meson_entering.specs.Lists.{own_texts}
use Rattle.meson_entering.proofs.Sums.{AllGood, good_at, summands_good}
use Rattle.meson_entering.proofs.Turns.{ended, next, through}
use Rattle.meson_entering.proofs.lists.add_value.Goals as goal

pub add_own-requires : goal.add_own-requires
add_own-requires c =
    let source = c.args.source.now in
    let within : c.loop-i.i < length c.in_ok-summands.summands.items = omega (arith, c.loop-i-test.true, c.len-i-end.ensures) in
    let all = subst AllGood (sym (c.in_ok-summands.ensures source)) (summands_good (expr_view source c.args.value.now) c.requires) in
    subst (λ (e : Bor Expr). AreGood (expression_words (expr_view source e.now))) (sym c.index.ensures) (good_at source c.in_ok-summands.summands.items c.loop-i.i c.index.result.now within all)

pub loop-i-preserved : goal.loop-i-preserved
loop-i-preserved c =
    let source = c.args.source.now in
    let within : c.loop-i.i < length c.in_ok-summands.summands.items = omega (arith, c.loop-i-test.true, c.len-i-end.ensures) in
    let is = c.in_ok-add_own.ensures ∙ ap (λ (e : Bor Expr). map string_bytes c.loop-i.texts.items ++ own_texts (expr_view source e.now)) c.index.ensures in
    next (λ e. own_texts (expr_view source e.now)) c.in_ok-summands.summands.items c.loop-i.i c.index.result.now _ _ _ within is c.loop-i.invariant

pub returns : goal.returns
returns c =
    let source = c.args.source.now in
    let past : length c.in_ok-summands.summands.items ≤ c.loop-i.i = omega (arith, c.loop-i-test.false, c.len-i-end.ensures) in
    ended (λ e. own_texts (expr_view source e.now)) c.in_ok-summands.summands.items c.loop-i.i _ _ past c.loop-i.invariant
    ∙ ap (λ ts. map string_bytes c.args.texts.now.items ++ ts) (through own_texts (λ e. expr_view source e.now) _ _ (c.in_ok-summands.ensures source))
