use Rattle.std.proofs.Common.{rules, ◌++◌, refl, sym, ap, subst, ◌∙◌, arith}
use Rattle.std.specs.Prelude.{true}
use Rattle.std.specs.List.{list_any}
use Rattle.std.proofs.lemmas.Result.{IfOk-weaker}
use Rattle.meson_syntax.specs.declared.tree.Arg.TheFolds.{the_lemmas}
use Rattle.meson_syntax.specs.Grammar.{argument_words, tail_words}
use Rattle.meson_syntax.specs.View.{arg_view, tail_view}
use Rattle.meson_syntax.proofs.tree.Operand.TheLaws as operands
use denote.Param.Weighed.{at_most}
use Rattle.meson_calls.specs.GoodLists.{GoodArgs}
use Rattle.meson_calls.specs.Strings.{AreGood}
use Rattle.meson_calls.proofs.Nested.{good_arg, good_args, good_operand}
use Rattle.meson_following.specs.CodeEffects.{does}
use Rattle.meson_following.proofs.GoodNodes.{array_good, base_good, call_good, condition_good, dictionary_good, first_good, index_good, key_good, method_good, no_good, operands_good, paren_good, tail_good, tails_good, value_good, yes_good}
use Rattle.meson_following.proofs.SearchParts.{args_more, conditional_calls, listing_calls, operands_more, pair_calls, postfix_calls, row_calls, within, within_arg, within_args, within_operand, within_operands, within_tails}
use Rattle.meson_following.proofs.Searches.{first_found, found_at, none_at, none_left, then_found}
use Rattle.meson_following.proofs.effects.Search.+search.Goals as goal

-- ---- what calls require

pub in_expr-in_expr-requires : goal.in_expr-in_expr-requires
in_expr-in_expr-requires t c = (search (rules, the_lemmas), paren_good c.args.self.now.source.now _ _ _ _ c.in-Paren.is c.get.ensures c.requires)

pub in_expr-in_list-requires : goal.in_expr-in_list-requires
in_expr-in_list-requires t c = (search (rules, the_lemmas), array_good c.args.self.now.source.now _ _ c.in-Array.is c.requires)

pub in_expr-in_list-requires-in-Dictionary : goal.in_expr-in_list-requires-in-Dictionary
in_expr-in_list-requires-in-Dictionary t c = (search (rules, the_lemmas), dictionary_good c.args.self.now.source.now _ _ c.in-Dictionary.is c.requires)

pub in_expr-in_list-requires-in-Call : goal.in_expr-in_list-requires-in-Call
in_expr-in_list-requires-in-Call t c = (search (rules, the_lemmas), call_good c.args.self.now.source.now _ _ _ _ c.in-Call.is c.requires)

pub in_arg-in_expr-requires-in-Pair : goal.in_arg-in_expr-requires-in-Pair
in_arg-in_expr-requires-in-Pair t c = (search (rules, the_lemmas), key_good c.args.self.now.source.now _ _ _ _ c.in-Pair.is c.requires _ c.get.ensures)

pub in_arg-in_expr-requires-in-Pair-2 : goal.in_arg-in_expr-requires-in-Pair-2
in_arg-in_expr-requires-in-Pair-2 t c = (search (rules, the_lemmas), value_good c.args.self.now.source.now _ _ _ _ c.in-Pair.is c.requires _ c.get-in-Pair.ensures)

pub in_tail-in_list-requires : goal.in_tail-in_list-requires
in_tail-in_list-requires t c = (search (rules, the_lemmas), method_good c.args.self.now.source.now _ _ _ _ c.in-Method.is c.requires)

pub in_tail-in_expr-requires : goal.in_tail-in_expr-requires
in_tail-in_expr-requires t c = (search (rules, the_lemmas), index_good c.args.self.now.source.now _ _ _ c.in-Index.is c.requires)

pub in_expr-in_expr-requires-in-Row : goal.in_expr-in_expr-requires-in-Row
in_expr-in_expr-requires-in-Row t c = (search (rules, the_lemmas), first_good c.args.self.now.source.now _ _ _ _ _ _ c.in-Row.is c.get-in-Row.ensures refl c.requires)

pub in_expr-in_operands-requires : goal.in_expr-in_operands-requires
in_expr-in_operands-requires t c = (search (rules, the_lemmas), operands_good c.args.self.now.source.now _ _ _ _ _ _ c.in-Row.is refl c.get-in-Row-2.ensures c.requires)

pub in_expr-in_expr-requires-in-Postfix : goal.in_expr-in_expr-requires-in-Postfix
in_expr-in_expr-requires-in-Postfix t c = (search (rules, the_lemmas), base_good c.args.self.now.source.now _ _ _ _ _ _ c.in-Postfix.is c.get-in-Postfix.ensures refl c.requires)

pub in_expr-in_tails-requires : goal.in_expr-in_tails-requires
in_expr-in_tails-requires t c = (search (rules, the_lemmas), tails_good c.args.self.now.source.now _ _ _ _ _ _ c.in-Postfix.is refl c.get-in-Postfix-2.ensures c.requires)

pub in_expr-in_expr-requires-in-Conditional : goal.in_expr-in_expr-requires-in-Conditional
in_expr-in_expr-requires-in-Conditional t c = (search (rules, the_lemmas), condition_good c.args.self.now.source.now _ _ _ _ _ c.in-Conditional.is c.requires _ c.get-in-Conditional.ensures)

pub in_expr-in_expr-requires-in-Conditional-2 : goal.in_expr-in_expr-requires-in-Conditional-2
in_expr-in_expr-requires-in-Conditional-2 t c = (search (rules, the_lemmas), yes_good c.args.self.now.source.now _ _ _ _ _ c.in-Conditional.is c.requires _ c.get-in-Conditional-2.ensures)

pub in_expr-in_expr-requires-in-Conditional-3 : goal.in_expr-in_expr-requires-in-Conditional-3
in_expr-in_expr-requires-in-Conditional-3 t c = (search (rules, the_lemmas), no_good c.args.self.now.source.now _ _ _ _ _ c.in-Conditional.is c.requires _ c.get-in-Conditional-3.ensures)

pub in_list-in_arg-requires : goal.in_list-in_arg-requires
in_list-in_arg-requires t c =
    let source = c.args.self.now.source.now in
    let good = subst (GoodArgs source) (sym c.get-args.ensures) (good_args source c.args.list.now c.requires) in (
      search (rules, the_lemmas),
      subst (λ x. AreGood (argument_words (arg_view source x))) (sym c.index-args-i.is) (good_arg source c.get-args.result.now c.loop-i.i c.index-args-i.result c.loop-i-test.true good),
    )

pub in_operands-in_expr-requires : goal.in_operands-in_expr-requires
in_operands-in_expr-requires t c =
    let source = c.args.self.now.source.now in
    let deep = at_most operands.the_size c.args.operands.now c.loop-i.i c.index-operands-i.result c.loop-i-test.true in (
      grind (arith, the_lemmas, deep),
      good_operand source c.args.operands.now c.loop-i.i c.index-operands-i.result c.loop-i-test.true c.requires,
    )

pub in_tails-in_tail-requires : goal.in_tails-in_tail-requires
in_tails-in_tail-requires t c =
    let source = c.args.self.now.source.now in (
      search (rules, the_lemmas),
      subst (λ x. AreGood (tail_words (tail_view source x))) (sym c.index-tails-i.is)
          (tail_good source c.args.tails.now c.loop-i.i c.index-tails-i.result c.loop-i-test.true c.requires),
    )

-- ---- what is found

pub in_arg-returns-then-branch : goal.in_arg-returns-then-branch
in_arg-returns-then-branch t c =
    let source = c.args.self.now.source.now in
    first_found (does c.args.self.now.deed c.args.self.now.variable.now) (within source c.get.result.now) (within source c.in-Pair.value) _ _
    (pair_calls source _ _ _ _ _ _ c.in-Pair.is c.get.ensures refl) c.in_ok-in_expr-in-Pair.ensures c.if-branch.true

pub in_arg-returns-else-branch : goal.in_arg-returns-else-branch
in_arg-returns-else-branch t c =
    let source = c.args.self.now.source.now in
    IfOk-weaker c.in_expr-in-Pair-2.result _ _ (λ found is.
    then_found (does c.args.self.now.deed c.args.self.now.variable.now) (within source c.get.result.now) (within source c.get-in-Pair.result.now) _ _ found
    (pair_calls source _ _ _ _ _ _ c.in-Pair.is c.get.ensures c.get-in-Pair.ensures) c.in_ok-in_expr-in-Pair.ensures c.if-branch.false is) c.in_expr-in-Pair-2.ensures

pub in_expr-returns-then-branch-2 : goal.in_expr-returns-then-branch-2
in_expr-returns-then-branch-2 t c =
    let source = c.args.self.now.source.now in
    first_found (does c.args.self.now.deed c.args.self.now.variable.now) (within source c.get-in-Row.result.now) (within_operands source c.in-Row.rest) _ _
    (row_calls source _ _ _ _ _ _ c.in-Row.is c.get-in-Row.ensures refl) c.in_ok-in_expr-in-Row.ensures c.if-branch-2.true

pub in_expr-returns-else-branch-2 : goal.in_expr-returns-else-branch-2
in_expr-returns-else-branch-2 t c =
    let source = c.args.self.now.source.now in
    IfOk-weaker c.in_operands.result _ _ (λ found is.
    then_found (does c.args.self.now.deed c.args.self.now.variable.now) (within source c.get-in-Row.result.now) (within_operands source c.get-in-Row-2.result.now) _ _ found
    (row_calls source _ _ _ _ _ _ c.in-Row.is c.get-in-Row.ensures c.get-in-Row-2.ensures) c.in_ok-in_expr-in-Row.ensures c.if-branch-2.false is) c.in_operands.ensures

pub in_expr-returns-then-branch-3 : goal.in_expr-returns-then-branch-3
in_expr-returns-then-branch-3 t c =
    let source = c.args.self.now.source.now in
    first_found (does c.args.self.now.deed c.args.self.now.variable.now) (within source c.get-in-Postfix.result.now) (within_tails source c.in-Postfix.tails) _ _
    (postfix_calls source _ _ _ _ _ _ c.in-Postfix.is c.get-in-Postfix.ensures refl) c.in_ok-in_expr-in-Postfix.ensures c.if-branch-3.true

pub in_expr-returns-else-branch-3 : goal.in_expr-returns-else-branch-3
in_expr-returns-else-branch-3 t c =
    let source = c.args.self.now.source.now in
    IfOk-weaker c.in_tails.result _ _ (λ found is.
    then_found (does c.args.self.now.deed c.args.self.now.variable.now) (within source c.get-in-Postfix.result.now) (within_tails source c.get-in-Postfix-2.result.now) _ _ found
    (postfix_calls source _ _ _ _ _ _ c.in-Postfix.is c.get-in-Postfix.ensures c.get-in-Postfix-2.ensures) c.in_ok-in_expr-in-Postfix.ensures c.if-branch-3.false is) c.in_tails.ensures

pub in_expr-returns-then-branch-4 : goal.in_expr-returns-then-branch-4
in_expr-returns-then-branch-4 t c =
    let source = c.args.self.now.source.now in
    first_found (does c.args.self.now.deed c.args.self.now.variable.now) (within source c.get-in-Conditional.result.now) (within source c.in-Conditional.yes ++ within source c.in-Conditional.no) _ _
    (conditional_calls source _ _ _ _ _ _ _ _ c.in-Conditional.is c.get-in-Conditional.ensures refl refl) c.in_ok-in_expr-in-Conditional.ensures c.if-branch-4.true

pub in_expr-returns-then-branch-5 : goal.in_expr-returns-then-branch-5
in_expr-returns-then-branch-5 t c =
    let source = c.args.self.now.source.now in
    let test = (does c.args.self.now.deed c.args.self.now.variable.now) in
    let yes = within source c.get-in-Conditional-2.result.now in
    let no = within source c.in-Conditional.no in
    then_found test (within source c.get-in-Conditional.result.now) (yes ++ no) _ _ true
    (conditional_calls source _ _ _ _ _ _ _ _ c.in-Conditional.is c.get-in-Conditional.ensures c.get-in-Conditional-2.ensures refl)
    c.in_ok-in_expr-in-Conditional.ensures c.if-branch-4.false (first_found test yes no (yes ++ no) _ refl c.in_ok-in_expr-in-Conditional-2.ensures c.if-branch-5.true)

pub in_expr-returns-else-branch-5 : goal.in_expr-returns-else-branch-5
in_expr-returns-else-branch-5 t c =
    let source = c.args.self.now.source.now in
    let test = (does c.args.self.now.deed c.args.self.now.variable.now) in
    let yes = within source c.get-in-Conditional-2.result.now in
    let no = within source c.get-in-Conditional-3.result.now in
    IfOk-weaker c.in_expr-in-Conditional-3.result _ _ (λ found is.
    then_found test (within source c.get-in-Conditional.result.now) (yes ++ no) _ _ found
    (conditional_calls source _ _ _ _ _ _ _ _ c.in-Conditional.is c.get-in-Conditional.ensures c.get-in-Conditional-2.ensures c.get-in-Conditional-3.ensures)
    c.in_ok-in_expr-in-Conditional.ensures c.if-branch-4.false
    (then_found test yes no (yes ++ no) _ found refl c.in_ok-in_expr-in-Conditional-2.ensures c.if-branch-5.false is)) c.in_expr-in-Conditional-3.ensures

pub in_operands-returns-then-branch : goal.in_operands-returns-then-branch
in_operands-returns-then-branch t c =
    let source = c.args.self.now.source.now in
    let test = (does c.args.self.now.deed c.args.self.now.variable.now) in
    found_at test (within_operands source) (within_operand source) (operands_more source) c.args.operands.now c.loop-i.i c.index-operands-i.result _ _ c.loop-i-test.true
    c.in_ok-in_expr.ensures c.if-branch.true c.loop-i.invariant

pub in_operands-loop-i-preserved : goal.in_operands-loop-i-preserved
in_operands-loop-i-preserved t c =
    let source = c.args.self.now.source.now in
    let test = (does c.args.self.now.deed c.args.self.now.variable.now) in
    none_at test (within_operands source) (within_operand source) (operands_more source) c.args.operands.now c.loop-i.i c.index-operands-i.result _ _ c.loop-i-test.true
    c.in_ok-in_expr.ensures c.if-branch.false c.loop-i.invariant

pub in_list-returns-then-branch : goal.in_list-returns-then-branch
in_list-returns-then-branch t c =
    let source = c.args.self.now.source.now in
    let test = (does c.args.self.now.deed c.args.self.now.variable.now) in
    found_at test (within_args source) (within_arg source) (args_more source) c.get-args.result.now c.loop-i.i c.index-args-i.result _ _ c.loop-i-test.true
    (c.in_ok-in_arg.ensures ∙ ap (λ x. list_any test (within_arg source x)) c.index-args-i.is) c.if-branch.true c.loop-i.invariant
    ∙ ap (λ xs. list_any test (within_args source xs)) c.get-args.ensures ∙ sym (ap (list_any test) (listing_calls source c.args.list.now))

pub in_list-returns : goal.in_list-returns
in_list-returns t c =
    let source = c.args.self.now.source.now in
    let test = (does c.args.self.now.deed c.args.self.now.variable.now) in
    none_left test (within_args source) (within_arg source) (args_more source) c.get-args.result.now c.loop-i.i _ refl c.loop-i-test.false c.loop-i.invariant
    ∙ ap (λ xs. list_any test (within_args source xs)) c.get-args.ensures ∙ sym (ap (list_any test) (listing_calls source c.args.list.now))
