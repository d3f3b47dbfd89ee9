use Rattle.meson_calls.proofs.Words.{rules, ◌≡◌, ◌+◌, ◌∙◌, sym, ap, refl, get_or, arith, expr_view, arg_view, parts_of_expression, parts_of_argument, place}
use Rattle.meson_calls.proofs.Words.{child, keeper_view, with_parts}
use Rattle.meson_calls.proofs.Visits.{two_parts, turn, count_turn, count_ended}
use Rattle.meson_calls.proofs.Parted.{operand_value, pair_view}
use Rattle.meson_calls.proofs.ListTurns.{args_parts, args_part, args_size, args_count, row_parts, row_part, tail_list_parts, tail_part, tail_size}
use Rattle.meson_calls.proofs.WalkedWords.{paren_fits, unary_fits, first_fits, base_fits, condition_of_fits, arg_some, pair_some, expr_count, array_fits}
use Rattle.meson_calls.proofs.WalkedWords.{dictionary_fits, call_fits, tails_fit, operand_fits, method_fits, args_width, arg_count, args_more, arg_size_fits}
use Rattle.meson_calls.proofs.WalkedWords.{tails_width, tail_count, tails_more, tail_size_fits, next_turn}
use Rattle.meson_syntax.specs.declared.tree.Arg.TheFolds.{the_lemmas}
use Rattle.meson_syntax.proofs.tree.Operand.TheLaws as operands
use denote.Param.Weighed.{at_most}
use Rattle.meson_calls.proofs.part.Walk.+walk.Goals as goal

pub in_args-loop-i-preserved : goal.in_args-loop-i-preserved
in_args-loop-i-preserved t c =
    let source = c.args.self.now.source.now in
    let p = place c.args.self.now.file c.args.path.now.items in
    let now = args_part source (place c.args.self.now.file c.loop-i.path.items) c.loop-i.number c.index-args-i.result in
    let here : now ≡ args_part source p c.loop-i.number (get_or c.args.args.now c.loop-i.i c.index-args-i.result) =
    ap (λ path. args_part source (place c.args.self.now.file path) c.loop-i.number c.index-args-i.result) c.loop-i.invariant.0
    ∙ ap (λ x. args_part source p c.loop-i.number x) c.index-args-i.is in
    let next = c.in_ok-number.ensures.after ∙ ap (λ x. c.loop-i.number + args_size source x) c.index-args-i.is in (
      c.in_ok-number.ensures.back ∙ c.loop-i.invariant.0,
      turn (args_parts source p) (args_part source p) (args_size source) (λ n x xs. refl) c.args.args.now c.loop-i.i c.index-args-i.result c.loop-i.number c.in_ok-number.number (keeper_view c.loop-i.keeper) (keeper_view c.in_arg.new.keeper) _ now c.loop-i-test.true c.in_ok-number.ensures.all here next c.loop-i.invariant.1,
      count_turn (args_count source) (args_size source) (λ x xs. refl) c.args.args.now c.loop-i.i c.index-args-i.result c.loop-i.number c.in_ok-number.number _ c.loop-i-test.true next c.loop-i.invariant.2,
      next_turn (args_width source) (arg_count source) (args_more source) (args_size source) (arg_size_fits source) c.args.args.now c.loop-i.i c.index-args-i.result c.loop-i.number c.in_ok-number.number _ c.loop-i-test.true next c.loop-i.invariant.3,
    )

pub in_args-returns-clause-after : goal.in_args-returns-clause-after
in_args-returns-clause-after t c =
    count_ended (args_count c.args.self.now.source.now) (args_size c.args.self.now.source.now) (λ x xs. refl) c.args.args.now c.loop-i.i c.loop-i.number _ refl c.loop-i-test.false c.loop-i.invariant.2

pub in_tails-loop-i-preserved : goal.in_tails-loop-i-preserved
in_tails-loop-i-preserved t c =
    let source = c.args.self.now.source.now in
    let p = place c.args.self.now.file c.args.path.now.items in
    let now = tail_part source (place c.args.self.now.file c.loop-i.path.items) c.loop-i.number c.index-tails-i.result in
    let here : now ≡ tail_part source p c.loop-i.number (get_or c.args.tails.now c.loop-i.i c.index-tails-i.result) =
    ap (λ path. tail_part source (place c.args.self.now.file path) c.loop-i.number c.index-tails-i.result) c.loop-i.invariant.0
    ∙ ap (λ x. tail_part source p c.loop-i.number x) c.index-tails-i.is in
    let next = c.in_ok-number.ensures.after ∙ ap (λ x. c.loop-i.number + tail_size source x) c.index-tails-i.is in (
      c.in_ok-number.ensures.back ∙ c.loop-i.invariant.0,
      turn (tail_list_parts source p) (tail_part source p) (tail_size source) (λ n x xs. refl) c.args.tails.now c.loop-i.i c.index-tails-i.result c.loop-i.number c.in_ok-number.number (keeper_view c.loop-i.keeper) (keeper_view c.in_tail.new.keeper) _ now c.loop-i-test.true c.in_ok-number.ensures.all here next c.loop-i.invariant.1,
      next_turn (tails_width source) (tail_count source) (tails_more source) (tail_size source) (tail_size_fits source) c.args.tails.now c.loop-i.i c.index-tails-i.result c.loop-i.number c.in_ok-number.number _ c.loop-i-test.true next c.loop-i.invariant.2,
    )

pub in_operands-loop-i-preserved : goal.in_operands-loop-i-preserved
in_operands-loop-i-preserved t c =
    let source = c.args.self.now.source.now in
    let n = c.loop-i.i + 1 in
    let p = place c.args.self.now.file c.args.path.now.items in
    let q = place c.args.self.now.file c.loop-i.path.items in
    let x = get_or c.args.operands.now c.loop-i.i c.index-operands-i.result in
    let found = parts_of_expression (child q n) (expr_view source x.value) in
    let here : found ≡ row_part source p n x =
    ap (λ e. parts_of_expression (child q n) e) (sym (operand_value source x))
    ∙ ap (λ path. row_part source (place c.args.self.now.file path) n x) c.loop-i.invariant.0 in (
      c.in_ok-in_child.ensures.back ∙ c.loop-i.invariant.0,
      turn (row_parts source p) (row_part source p) (λ y. 1) (λ n y ys. refl) c.args.operands.now c.loop-i.i c.index-operands-i.result n (n + 1)
          (keeper_view c.loop-i.keeper) (keeper_view c.in_child.new.keeper) _ found c.loop-i-test.true c.in_ok-in_child.ensures.all here refl c.loop-i.invariant.1,
    )

pub in_arg-returns-in_ok-in_child-in-Pair-2-clause-all : goal.in_arg-returns-in_ok-in_child-in-Pair-2-clause-all
in_arg-returns-in_ok-in_child-in-Pair-2-clause-all t c =
    let source = c.args.self.now.source.now in
    let file = c.args.self.now.file in
    let p = place file c.args.path.now.items in
    let before = keeper_view c.args.keeper.now in
    let middle = keeper_view c.in_child-in-Pair.new.keeper in
    two_parts before middle _ (parts_of_expression (child p c.args.number) (expr_view source c.in-Pair.key)) (parts_of_expression (child p (c.args.number + 1)) (expr_view source c.in-Pair.value))
    (c.in_ok-in_child-in-Pair.ensures.all ∙ ap (λ x. with_parts before (parts_of_expression (child p c.args.number) (expr_view source x))) c.get.ensures)
    (c.in_ok-in_child-in-Pair-2.ensures.all
    ∙ ap (λ path. with_parts middle (parts_of_expression (child (place file path) (c.args.number + 1)) (expr_view source c.get-in-Pair.result.now))) c.in_ok-in_child-in-Pair.ensures.back
    ∙ ap (λ x. with_parts middle (parts_of_expression (child p (c.args.number + 1)) (expr_view source x))) c.get-in-Pair.ensures)
    ∙ ap (with_parts before) (sym (ap (parts_of_argument p c.args.number) (pair_view source c.in-Pair.span c.in-Pair.key c.in-Pair.value)))
    ∙ ap (λ x. with_parts before (parts_of_argument p c.args.number (arg_view source x))) (sym c.in-Pair.is)

pub in_expr-in_list-requires : goal.in_expr-in_list-requires
in_expr-in_list-requires t c = (search (rules, the_lemmas), array_fits c.args.self.now.source.now _ _ _ c.in-Array.is c.requires.fits)

pub in_expr-in_list-requires-in-Dictionary : goal.in_expr-in_list-requires-in-Dictionary
in_expr-in_list-requires-in-Dictionary t c = (search (rules, the_lemmas), dictionary_fits c.args.self.now.source.now _ _ _ c.in-Dictionary.is c.requires.fits)

pub in_expr-in_list-requires-in-Call : goal.in_expr-in_list-requires-in-Call
in_expr-in_list-requires-in-Call t c = (search (rules, the_lemmas), call_fits c.args.self.now.source.now _ _ _ _ _ c.in-Call.is c.requires.fits)

pub in_expr-in_child-requires : goal.in_expr-in_child-requires
in_expr-in_child-requires t c = (search (rules, the_lemmas), paren_fits c.args.self.now.source.now _ _ _ _ _ c.in-Paren.is c.get.ensures c.requires.fits)

pub in_expr-in_child-requires-in-Unary : goal.in_expr-in_child-requires-in-Unary
in_expr-in_child-requires-in-Unary t c = (search (rules, the_lemmas), unary_fits c.args.self.now.source.now _ _ _ _ _ _ c.in-Unary.is c.get-in-Unary.ensures c.requires.fits)

pub in_expr-in_child-requires-in-Row : goal.in_expr-in_child-requires-in-Row
in_expr-in_child-requires-in-Row t c = (search (rules, the_lemmas), first_fits c.args.self.now.source.now _ _ _ _ _ _ c.in-Row.is c.get-in-Row.ensures c.requires.fits)

pub in_expr-in_child-requires-in-Postfix : goal.in_expr-in_child-requires-in-Postfix
in_expr-in_child-requires-in-Postfix t c = (search (rules, the_lemmas), base_fits c.args.self.now.source.now _ _ _ _ _ _ c.in-Postfix.is c.get-in-Postfix.ensures c.requires.fits)

pub in_expr-in_child-requires-in-Conditional : goal.in_expr-in_child-requires-in-Conditional
in_expr-in_child-requires-in-Conditional t c = (search (rules, the_lemmas), condition_of_fits c.args.self.now.source.now _ _ _ _ _ _ _ c.in-Conditional.is c.get-in-Conditional.ensures c.requires.fits)

pub in_expr-in_tails-requires : goal.in_expr-in_tails-requires
in_expr-in_tails-requires t c = (search (rules, the_lemmas), tails_fit c.args.self.now.source.now _ _ _ _ _ _ c.in-Postfix.is c.get-in-Postfix-2.ensures c.requires.fits)

pub in_operands-in_child-requires : goal.in_operands-in_child-requires
in_operands-in_child-requires t c =
    let source = c.args.self.now.source.now in
    let deep = at_most operands.the_size c.args.operands.now c.loop-i.i c.index-operands-i.result c.loop-i-test.true in
    let fits = operand_fits source c.args.operands.now c.loop-i.i c.index-operands-i.result _ c.loop-i-test.true c.requires.fits in
    (grind (arith, the_lemmas, deep), omega (arith, fits, ap (λ o. expr_count source o.value) c.index-operands-i.is))

pub in_tail-in_args-requires : goal.in_tail-in_args-requires
in_tail-in_args-requires t c = (search (rules, the_lemmas), method_fits c.args.self.now.source.now _ _ _ _ _ _ _ c.in-Method.is c.get.ensures c.requires.fits)

pub in_arg-overflow_add-result : goal.in_arg-overflow_add-result
in_arg-overflow_add-result t c = let some = arg_some c.args.self.now.source.now c.args.arg.now in omega (arith, some, c.requires.fits)

pub in_arg-overflow_add-number : goal.in_arg-overflow_add-number
in_arg-overflow_add-number t c = let some = pair_some c.args.self.now.source.now _ _ _ _ c.in-Pair.is in omega (arith, some, c.requires.fits)

pub in_arg-overflow_add-result-in-Pair : goal.in_arg-overflow_add-result-in-Pair
in_arg-overflow_add-result-in-Pair t c = let some = pair_some c.args.self.now.source.now _ _ _ _ c.in-Pair.is in omega (arith, some, c.requires.fits)
