use Rattle.std.proofs.Common.{rules, ◌≡◌, ◌+◌, ◌++◌, get_or, refl, sym, ap, subst, ◌∙◌, arith}
use Rattle.std.proofs.lemmas.Result.{on_ok_weaker}
use Rattle.meson_syntax.specs.declared.tree.Arg.TheFolds.{the_lemmas}
use Rattle.meson_syntax.specs.Grammar.{argument_words, tail_words}
use Rattle.meson_syntax.specs.View.{arg_view, expr_view, tail_view}
use Rattle.meson_syntax.proofs.tree.Operand.TheLaws as operands
use denote.Param.Weighed.{at_most}
use Rattle.meson_calls.specs.GoodLists.{GoodArgs}
use Rattle.meson_calls.specs.Parts.{parts_of_argument, parts_of_expression}
use Rattle.meson_calls.specs.Project.{child, place}
use Rattle.meson_calls.specs.Strings.{AreGood}
use Rattle.meson_calls.proofs.ListTurns.{args_parts, args_part, args_size, args_count, row_parts, row_part, tail_list_parts, tail_part, tail_size}
use Rattle.meson_calls.proofs.Nested.{good_arg, good_args, good_operand}
use Rattle.meson_calls.proofs.Parted.{operand_value, pair_view}
use Rattle.meson_calls.proofs.Visits.{count_turn, count_ended}
use Rattle.meson_calls.proofs.WalkedWords.{paren_fits, unary_fits, first_fits, base_fits, condition_of_fits, arg_some, pair_some, expr_count, array_fits, dictionary_fits, call_fits, tails_fit, operand_fits, method_fits, args_width, arg_count, args_more, arg_size_fits, tails_width, tail_count, tails_more, tail_size_fits, next_turn}
use Rattle.meson_following.specs.CodeReads.{reads_in}
use Rattle.meson_following.proofs.GoodNodes.{array_good, base_good, call_good, condition_good, dictionary_good, first_good, index_good, key_good, method_good, no_good, operands_good, paren_good, tail_good, tails_good, unary_good, value_good, yes_good}
use Rattle.meson_following.proofs.ReadTurns.{arg_fits, conditional_read, index_fits, key_fits, no_fits, postfix_read, read_turn, rest_fits, row_read, tail_fits, two_read, value_fits, yes_fits}
use Rattle.meson_following.proofs.reads.Reader.+reading.Goals as goal

-- ---- what calls require

pub in_expr-in_list-requires : goal.in_expr-in_list-requires
in_expr-in_list-requires t c =
    let source = c.args.self.now.source.now in
    (search (rules, the_lemmas), (array_good source _ _ c.in-Array.is c.requires.good, array_fits source _ _ _ c.in-Array.is c.requires.fits))

pub in_expr-in_list-requires-in-Dictionary : goal.in_expr-in_list-requires-in-Dictionary
in_expr-in_list-requires-in-Dictionary t c =
    let source = c.args.self.now.source.now in
    (search (rules, the_lemmas), (dictionary_good source _ _ c.in-Dictionary.is c.requires.good, dictionary_fits source _ _ _ c.in-Dictionary.is c.requires.fits))

pub in_expr-in_list-requires-in-Call : goal.in_expr-in_list-requires-in-Call
in_expr-in_list-requires-in-Call t c =
    let source = c.args.self.now.source.now in
    (search (rules, the_lemmas), (call_good source _ _ _ _ c.in-Call.is c.requires.good, call_fits source _ _ _ _ _ c.in-Call.is c.requires.fits))

pub in_expr-in_child-requires : goal.in_expr-in_child-requires
in_expr-in_child-requires t c =
    let source = c.args.self.now.source.now in
    (search (rules, the_lemmas), (paren_good source _ _ _ _ c.in-Paren.is c.get.ensures c.requires.good, paren_fits source _ _ _ _ _ c.in-Paren.is c.get.ensures c.requires.fits))

pub in_expr-in_child-requires-in-Unary : goal.in_expr-in_child-requires-in-Unary
in_expr-in_child-requires-in-Unary t c =
    let source = c.args.self.now.source.now in (
      search (rules, the_lemmas),
      (unary_good source _ _ _ _ _ c.in-Unary.is c.get-in-Unary.ensures c.requires.good, unary_fits source _ _ _ _ _ _ c.in-Unary.is c.get-in-Unary.ensures c.requires.fits),
    )

pub in_expr-in_child-requires-in-Row : goal.in_expr-in_child-requires-in-Row
in_expr-in_child-requires-in-Row t c =
    let source = c.args.self.now.source.now in (
      search (rules, the_lemmas),
      (first_good source _ _ _ _ _ _ c.in-Row.is c.get-in-Row.ensures refl c.requires.good, first_fits source _ _ _ _ _ _ c.in-Row.is c.get-in-Row.ensures c.requires.fits),
    )

pub in_expr-in_child-requires-in-Postfix : goal.in_expr-in_child-requires-in-Postfix
in_expr-in_child-requires-in-Postfix t c =
    let source = c.args.self.now.source.now in (
      search (rules, the_lemmas),
      (base_good source _ _ _ _ _ _ c.in-Postfix.is c.get-in-Postfix.ensures refl c.requires.good, base_fits source _ _ _ _ _ _ c.in-Postfix.is c.get-in-Postfix.ensures c.requires.fits),
    )

pub in_expr-in_child-requires-in-Conditional : goal.in_expr-in_child-requires-in-Conditional
in_expr-in_child-requires-in-Conditional t c =
    let source = c.args.self.now.source.now in (
      search (rules, the_lemmas),
      (
        condition_good source _ _ _ _ _ c.in-Conditional.is c.requires.good _ c.get-in-Conditional.ensures,
        condition_of_fits source _ _ _ _ _ _ _ c.in-Conditional.is c.get-in-Conditional.ensures c.requires.fits,
      ),
    )

pub in_expr-in_tails-requires : goal.in_expr-in_tails-requires
in_expr-in_tails-requires t c =
    let source = c.args.self.now.source.now in (
      search (rules, the_lemmas),
      (tails_good source _ _ _ _ _ _ c.in-Postfix.is refl c.get-in-Postfix-2.ensures c.requires.good, tails_fit source _ _ _ _ _ _ c.in-Postfix.is c.get-in-Postfix-2.ensures c.requires.fits),
    )

pub in_operands-in_child-requires : goal.in_operands-in_child-requires
in_operands-in_child-requires t c =
    let source = c.args.self.now.source.now in
    let deep = at_most operands.the_size c.args.operands.now c.loop-i.i c.index-operands-i.result c.loop-i-test.true in
    let fits = operand_fits source c.args.operands.now c.loop-i.i c.index-operands-i.result _ c.loop-i-test.true c.requires.fits in (
      grind (arith, the_lemmas, deep),
      (
        good_operand source c.args.operands.now c.loop-i.i c.index-operands-i.result c.loop-i-test.true c.requires.good,
        omega (arith, fits, ap (λ o. expr_count source o.value) c.index-operands-i.is),
      ),
    )

pub in_tail-in_args-requires : goal.in_tail-in_args-requires
in_tail-in_args-requires t c =
    let source = c.args.self.now.source.now in (
      search (rules, the_lemmas),
      (
        subst (GoodArgs source) (sym c.get.ensures) (good_args source c.in-Method.arguments (method_good source _ _ _ _ c.in-Method.is c.requires.good)),
        method_fits source _ _ _ _ _ _ _ c.in-Method.is c.get.ensures c.requires.fits,
      ),
    )

pub in_arg-overflow_add-result : goal.in_arg-overflow_add-result
in_arg-overflow_add-result t c = let some = arg_some c.args.self.now.source.now c.args.arg.now in omega (arith, some, c.requires.fits)

pub in_arg-overflow_add-number : goal.in_arg-overflow_add-number
in_arg-overflow_add-number t c = let some = pair_some c.args.self.now.source.now _ _ _ _ c.in-Pair.is in omega (arith, some, c.requires.fits)

pub in_arg-overflow_add-result-in-Pair : goal.in_arg-overflow_add-result-in-Pair
in_arg-overflow_add-result-in-Pair t c = let some = pair_some c.args.self.now.source.now _ _ _ _ c.in-Pair.is in omega (arith, some, c.requires.fits)

pub in_arg-in_child-requires-in-Pair : goal.in_arg-in_child-requires-in-Pair
in_arg-in_child-requires-in-Pair t c =
    let source = c.args.self.now.source.now in
    (search (rules, the_lemmas), (key_good source _ _ _ _ c.in-Pair.is c.requires.good _ c.get.ensures, key_fits source _ _ _ _ _ _ _ c.in-Pair.is c.get.ensures c.requires.fits))

pub in_arg-in_child-requires-in-Pair-2 : goal.in_arg-in_child-requires-in-Pair-2
in_arg-in_child-requires-in-Pair-2 t c =
    let source = c.args.self.now.source.now in (
      search (rules, the_lemmas),
      (value_good source _ _ _ _ c.in-Pair.is c.requires.good _ c.get-in-Pair.ensures, value_fits source _ _ _ _ _ _ _ c.in-Pair.is c.get-in-Pair.ensures c.requires.fits),
    )

pub in_args-in_arg-requires : goal.in_args-in_arg-requires
in_args-in_arg-requires t c =
    let source = c.args.self.now.source.now in
    let args = c.args.args.now in
    let x = c.index-args-i.result in (
      search (rules, the_lemmas),
      (
        subst (λ a. AreGood (argument_words (arg_view source a))) (sym c.index-args-i.is) (good_arg source args c.loop-i.i x c.loop-i-test.true c.requires.good),
        arg_fits source args c.loop-i.i x _ _ _ c.loop-i-test.true c.index-args-i.is c.loop-i.invariant.3 c.requires.fits,
      ),
    )

pub in_expr-in_operands-requires : goal.in_expr-in_operands-requires
in_expr-in_operands-requires t c =
    let source = c.args.self.now.source.now in (
      search (rules, the_lemmas),
      (operands_good source _ _ _ _ _ _ c.in-Row.is refl c.get-in-Row-2.ensures c.requires.good, rest_fits source _ _ _ _ _ _ c.in-Row.is c.get-in-Row-2.ensures c.requires.fits),
    )

pub in_expr-in_child-requires-in-Conditional-2 : goal.in_expr-in_child-requires-in-Conditional-2
in_expr-in_child-requires-in-Conditional-2 t c =
    let source = c.args.self.now.source.now in (
      search (rules, the_lemmas),
      (
        yes_good source _ _ _ _ _ c.in-Conditional.is c.requires.good _ c.get-in-Conditional-2.ensures,
        yes_fits source _ _ _ _ _ _ c.in-Conditional.is c.requires.fits _ c.get-in-Conditional-2.ensures,
      ),
    )

pub in_expr-in_child-requires-in-Conditional-3 : goal.in_expr-in_child-requires-in-Conditional-3
in_expr-in_child-requires-in-Conditional-3 t c =
    let source = c.args.self.now.source.now in (
      search (rules, the_lemmas),
      (
        no_good source _ _ _ _ _ c.in-Conditional.is c.requires.good _ c.get-in-Conditional-3.ensures,
        no_fits source _ _ _ _ _ _ c.in-Conditional.is c.requires.fits _ c.get-in-Conditional-3.ensures,
      ),
    )

pub in_tail-in_child-requires : goal.in_tail-in_child-requires
in_tail-in_child-requires t c =
    let source = c.args.self.now.source.now in
    (search (rules, the_lemmas), (index_good source _ _ _ c.in-Index.is c.requires.good, index_fits source _ _ _ _ _ c.in-Index.is c.requires.fits))

pub in_tails-in_tail-requires : goal.in_tails-in_tail-requires
in_tails-in_tail-requires t c =
    let source = c.args.self.now.source.now in
    let ts = c.args.tails.now in
    let x = c.index-tails-i.result in (
      search (rules, the_lemmas),
      (
        subst (λ a. AreGood (tail_words (tail_view source a))) (sym c.index-tails-i.is) (tail_good source ts c.loop-i.i x c.loop-i-test.true c.requires.good),
        tail_fits source ts c.loop-i.i x _ _ _ c.loop-i-test.true c.index-tails-i.is c.loop-i.invariant.2 c.requires.fits,
      ),
    )

-- ---- what is taken

pub in_args-loop-i-preserved : goal.in_args-loop-i-preserved
in_args-loop-i-preserved t c =
    let source = c.args.self.now.source.now in
    let p = place c.args.self.now.file c.args.path.now.items in
    let now = args_part source (place c.args.self.now.file c.loop-i.path.items) c.loop-i.number c.index-args-i.result in
    let here : now ≡ args_part source p c.loop-i.number (get_or c.args.args.now c.loop-i.i c.index-args-i.result) =
    ap (λ path. args_part source (place c.args.self.now.file path) c.loop-i.number c.index-args-i.result) c.loop-i.invariant.0
    ∙ ap (λ x. args_part source p c.loop-i.number x) c.index-args-i.is in
    let next = c.in_ok-number.ensures.after ∙ ap (λ x. c.loop-i.number + args_size source x) c.index-args-i.is in (
      c.in_ok-number.ensures.back ∙ c.loop-i.invariant.0,
      read_turn c.args.self.now.variable.now (args_parts source p) (args_part source p) (args_size source) (λ n x xs. refl) c.args.args.now c.loop-i.i c.index-args-i.result c.loop-i.number c.in_ok-number.number c.loop-i.found.items c.in_arg.new.found.items _ now c.loop-i-test.true c.in_ok-number.ensures.all here next c.loop-i.invariant.1,
      count_turn (args_count source) (args_size source) (λ x xs. refl) c.args.args.now c.loop-i.i c.index-args-i.result c.loop-i.number c.in_ok-number.number _ c.loop-i-test.true next c.loop-i.invariant.2,
      next_turn (args_width source) (arg_count source) (args_more source) (args_size source) (arg_size_fits source) c.args.args.now c.loop-i.i c.index-args-i.result c.loop-i.number c.in_ok-number.number _ c.loop-i-test.true next c.loop-i.invariant.3,
    )

pub in_args-returns-clause-after : goal.in_args-returns-clause-after
in_args-returns-clause-after t c =
    count_ended (args_count c.args.self.now.source.now) (args_size c.args.self.now.source.now) (λ x xs. refl) c.args.args.now c.loop-i.i c.loop-i.number _ refl c.loop-i-test.false c.loop-i.invariant.2

pub in_tails-loop-i-preserved : goal.in_tails-loop-i-preserved
in_tails-loop-i-preserved t c =
    let source = c.args.self.now.source.now in
    let p = place c.args.self.now.file c.args.path.now.items in
    let now = tail_part source (place c.args.self.now.file c.loop-i.path.items) c.loop-i.number c.index-tails-i.result in
    let here : now ≡ tail_part source p c.loop-i.number (get_or c.args.tails.now c.loop-i.i c.index-tails-i.result) =
    ap (λ path. tail_part source (place c.args.self.now.file path) c.loop-i.number c.index-tails-i.result) c.loop-i.invariant.0
    ∙ ap (λ x. tail_part source p c.loop-i.number x) c.index-tails-i.is in
    let next = c.in_ok-number.ensures.after ∙ ap (λ x. c.loop-i.number + tail_size source x) c.index-tails-i.is in (
      c.in_ok-number.ensures.back ∙ c.loop-i.invariant.0,
      read_turn c.args.self.now.variable.now (tail_list_parts source p) (tail_part source p) (tail_size source) (λ n x xs. refl) c.args.tails.now c.loop-i.i c.index-tails-i.result c.loop-i.number c.in_ok-number.number c.loop-i.found.items c.in_tail.new.found.items _ now c.loop-i-test.true c.in_ok-number.ensures.all here next c.loop-i.invariant.1,
      next_turn (tails_width source) (tail_count source) (tails_more source) (tail_size source) (tail_size_fits source) c.args.tails.now c.loop-i.i c.index-tails-i.result c.loop-i.number c.in_ok-number.number _ c.loop-i-test.true next c.loop-i.invariant.2,
    )

pub in_operands-loop-i-preserved : goal.in_operands-loop-i-preserved
in_operands-loop-i-preserved t c =
    let source = c.args.self.now.source.now in
    let n = c.loop-i.i + 1 in
    let p = place c.args.self.now.file c.args.path.now.items in
    let q = place c.args.self.now.file c.loop-i.path.items in
    let x = get_or c.args.operands.now c.loop-i.i c.index-operands-i.result in
    let found = parts_of_expression (child q n) (expr_view source x.value) in
    let here : found ≡ row_part source p n x =
    ap (λ e. parts_of_expression (child q n) e) (sym (operand_value source x))
    ∙ ap (λ path. row_part source (place c.args.self.now.file path) n x) c.loop-i.invariant.0 in (
      c.in_ok-in_child.ensures.back ∙ c.loop-i.invariant.0,
      read_turn c.args.self.now.variable.now (row_parts source p) (row_part source p) (λ y. 1) (λ n y ys. refl) c.args.operands.now c.loop-i.i c.index-operands-i.result n (n + 1)
          c.loop-i.found.items c.in_child.new.found.items _ found c.loop-i-test.true c.in_ok-in_child.ensures.all here refl c.loop-i.invariant.1,
    )

pub in_arg-returns-in_ok-in_child-in-Pair-2-clause-all : goal.in_arg-returns-in_ok-in_child-in-Pair-2-clause-all
in_arg-returns-in_ok-in_child-in-Pair-2-clause-all t c =
    let source = c.args.self.now.source.now in
    let x = c.args.self.now.variable.now in
    let file = c.args.self.now.file in
    let p = place file c.args.path.now.items in
    let before = c.args.found.now.items in
    let middle = c.in_child-in-Pair.new.found.items in
    two_read x before middle _ (parts_of_expression (child p c.args.number) (expr_view source c.in-Pair.key)) (parts_of_expression (child p (c.args.number + 1)) (expr_view source c.in-Pair.value))
    (c.in_ok-in_child-in-Pair.ensures.all ∙ ap (λ e. before ++ reads_in x (parts_of_expression (child p c.args.number) (expr_view source e))) c.get.ensures)
    (c.in_ok-in_child-in-Pair-2.ensures.all
    ∙ ap (λ path. middle ++ reads_in x (parts_of_expression (child (place file path) (c.args.number + 1)) (expr_view source c.get-in-Pair.result.now))) c.in_ok-in_child-in-Pair.ensures.back
    ∙ ap (λ e. middle ++ reads_in x (parts_of_expression (child p (c.args.number + 1)) (expr_view source e))) c.get-in-Pair.ensures)
    ∙ ap (λ ps. before ++ reads_in x ps) (sym (ap (parts_of_argument p c.args.number) (pair_view source c.in-Pair.span c.in-Pair.key c.in-Pair.value)))
    ∙ ap (λ a. before ++ reads_in x (parts_of_argument p c.args.number (arg_view source a))) (sym c.in-Pair.is)

-- ---- within an expression

pub in_expr-returns-in_ok-in_child-in-Row-clause-all : goal.in_expr-returns-in_ok-in_child-in-Row-clause-all
in_expr-returns-in_ok-in_child-in-Row-clause-all t c =
    let x = c.args.self.now.variable.now in
    let source = c.args.self.now.source.now in
    let file = c.args.self.now.file in
    let q = place file c.args.path.now.items in
    let it = c.in-Row in
    let middle = c.in_child-in-Row.new.found.items in
    let os = c.get-in-Row-2.result.now in
    on_ok_weaker c.in_operands.result
    (λ second. row_read x source q c.args.expr.now c.args.found.now.items middle c.in_operands.new.found.items it.span it.first c.get-in-Row.result.now it.rest os it.is
    c.get-in-Row.ensures c.get-in-Row-2.ensures c.in_ok-in_child-in-Row.ensures.all
    (second ∙ ap (λ steps. middle ++ reads_in x (row_parts source (place file steps) 1 os)) c.in_ok-in_child-in-Row.ensures.back))
    c.in_operands.ensures.all

pub in_expr-returns-in_ok-in_child-in-Postfix-clause-all : goal.in_expr-returns-in_ok-in_child-in-Postfix-clause-all
in_expr-returns-in_ok-in_child-in-Postfix-clause-all t c =
    let x = c.args.self.now.variable.now in
    let source = c.args.self.now.source.now in
    let file = c.args.self.now.file in
    let q = place file c.args.path.now.items in
    let it = c.in-Postfix in
    let middle = c.in_child-in-Postfix.new.found.items in
    let ts = c.get-in-Postfix-2.result.now in
    on_ok_weaker c.in_tails.result
    (λ second. postfix_read x source q c.args.expr.now c.args.found.now.items middle c.in_tails.new.found.items it.span it.base c.get-in-Postfix.result.now it.tails ts it.is
    c.get-in-Postfix.ensures c.get-in-Postfix-2.ensures c.in_ok-in_child-in-Postfix.ensures.all
    (second ∙ ap (λ steps. middle ++ reads_in x (tail_list_parts source (place file steps) 1 ts)) c.in_ok-in_child-in-Postfix.ensures.back))
    c.in_tails.ensures.all

pub in_expr-returns-in_ok-in_child-in-Conditional-2-clause-all : goal.in_expr-returns-in_ok-in_child-in-Conditional-2-clause-all
in_expr-returns-in_ok-in_child-in-Conditional-2-clause-all t c =
    let x = c.args.self.now.variable.now in
    let source = c.args.self.now.source.now in
    let file = c.args.self.now.file in
    let q = place file c.args.path.now.items in
    let it = c.in-Conditional in
    let middle = c.in_child-in-Conditional.new.found.items in
    let between = c.in_child-in-Conditional-2.new.found.items in
    let y = expr_view source c.get-in-Conditional-2.result.now in
    let n = expr_view source c.get-in-Conditional-3.result.now in
    on_ok_weaker c.in_child-in-Conditional-3.result
    (λ third. conditional_read x source q c.args.expr.now c.args.found.now.items middle c.in_child-in-Conditional-3.new.found.items it.span it.condition it.yes it.no
    c.get-in-Conditional.result.now c.get-in-Conditional-2.result.now c.get-in-Conditional-3.result.now it.is
    c.get-in-Conditional.ensures c.get-in-Conditional-2.ensures c.get-in-Conditional-3.ensures between
    c.in_ok-in_child-in-Conditional.ensures.all
    (c.in_ok-in_child-in-Conditional-2.ensures.all
    ∙ ap (λ steps. middle ++ reads_in x (parts_of_expression (child (place file steps) 1) y)) c.in_ok-in_child-in-Conditional.ensures.back)
    (third ∙ ap (λ steps. between ++ reads_in x (parts_of_expression (child (place file steps) 2) n)) (c.in_ok-in_child-in-Conditional-2.ensures.back ∙ c.in_ok-in_child-in-Conditional.ensures.back)))
    c.in_child-in-Conditional-3.ensures.all
