use Rattle.std.proofs.Common.{rules, ◌≡◌, ◌++◌, ◌∷◌, [], refl, sym, ap, ◌∙◌}
use Rattle.std.proofs.lemmas.List.{append_assoc, map-append}
use Rattle.std.proofs.lemmas.Result.{on_ok_weaker}
use Rattle.meson_syntax.specs.Tree.{operands_of}
use Rattle.meson_syntax.specs.declared.tree.Arg.TheFolds.{the_lemmas}
use Rattle.meson_syntax.specs.View.{expr_view, operands_view}
use Rattle.meson_variables.specs.Expansion.{are_plus}
use Rattle.meson_entering.specs.Lists.{added, summands}
use Rattle.meson_entering.proofs.Sums.{operand_texts, other_row, paren_sum, plus_sum, views}
use Rattle.meson_entering.proofs.Turns.{ended, next}
use Rattle.meson_entering.proofs.lists.+sums.Goals as goal

pub add_summands-returns-in-Paren : goal.add_summands-returns-in-Paren
add_summands-returns-in-Paren t c = λ source.
    on_ok_weaker c.add_summands.result (λ found. found ∙ sym (ap (λ es. views source c.args.found.now.items ++ es) (paren_sum source c.args.expr.now _ _ _ c.in-Paren.is c.get.ensures))) (c.add_summands.ensures source)

pub add_summands-returns-in_ok-add_summands-in-Row : goal.add_summands-returns-in_ok-add_summands-in-Row
add_summands-returns-in_ok-add_summands-in-Row t c = λ source.
    let before = views source c.args.found.now.items in
    let first = c.get-then-are_plus.result.now in
    let rest = c.get-then-are_plus-2.result.now in
    let others = added (operands_of (operands_view source rest)) in
    let plus = sym c.if-are_plus.true ∙ c.are_plus.ensures source ∙ ap (λ os. are_plus (operands_of (operands_view source os))) (c.get-in-Row.ensures ∙ sym c.get-then-are_plus-2.ensures) in
    on_ok_weaker c.add_operands.result (λ found.
    found ∙ ap (λ es. es ++ others) (c.in_ok-add_summands-in-Row.ensures source)
    ∙ append_assoc before (summands (expr_view source first)) others
    ∙ sym (ap (λ es. before ++ es) (plus_sum source c.args.expr.now _ _ first _ rest c.in-Row.is c.get-then-are_plus.ensures c.get-then-are_plus-2.ensures plus))) (c.add_operands.ensures source)

pub add_summands-returns-in_ok-push-in-Row : goal.add_summands-returns-in_ok-push-in-Row
add_summands-returns-in_ok-push-in-Row t c = λ source.
    let other = sym c.if-are_plus.false ∙ c.are_plus.ensures source in
    ap (views source) c.in_ok-push-in-Row.ensures.items ∙ map-append (λ e. expr_view source e.now) c.args.found.now.items (c.args.expr ∷ [])
    ∙ sym (ap (λ es. views source c.args.found.now.items ++ es) (other_row source c.args.expr.now _ _ _ _ _ c.in-Row.is refl c.get-in-Row.ensures other))

pub add_summands-returns-in_ok-push-in_default : goal.add_summands-returns-in_ok-push-in_default
add_summands-returns-in_ok-push-in_default t c = λ source.
    let one : summands (expr_view source c.args.expr.now) ≡ expr_view source c.args.expr.now ∷ [] = search (rules, the_lemmas) in
    ap (views source) c.in_ok-push-in_default.ensures.items ∙ map-append (λ e. expr_view source e.now) c.args.found.now.items (c.args.expr ∷ [])
    ∙ sym (ap (λ es. views source c.args.found.now.items ++ es) one)

-- ---- operands

pub add_operands-loop-i-init : goal.add_operands-loop-i-init
add_operands-loop-i-init t c = λ source. refl

pub add_operands-loop-i-preserved : goal.add_operands-loop-i-preserved
add_operands-loop-i-preserved t c = λ source.
    next (λ o. summands (expr_view source o.value)) c.args.operands.now c.loop-i.i c.index-operands-i.result _ _ _ c.loop-i-test.true (c.in_ok-add_summands.ensures source) (c.loop-i.invariant source)

pub add_operands-returns : goal.add_operands-returns
add_operands-returns t c = λ source.
    let before = views source c.args.found.now.items in
    ended (λ o. summands (expr_view source o.value)) c.args.operands.now c.loop-i.i _ _ c.loop-i-test.false (c.loop-i.invariant source)
    ∙ sym (ap (λ es. before ++ es) (operand_texts source c.args.operands.now))
