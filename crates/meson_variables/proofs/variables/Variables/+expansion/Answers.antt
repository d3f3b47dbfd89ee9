use Rattle.meson_variables.proofs.Words.{◌≡◌, ℕ, suc, ◌+◌, ◌-◌, ◌<◌, ◌≤◌, List, [], ◌∷◌, ◌++◌, get_or, ◌∙◌, sym, ap, subst, arith, true, ◌&&◌, if◌then◌else◌}
use Rattle.meson_variables.proofs.Words.{max, Some, None, OnOk, option_map, on_ok_weaker, expression_words, operands_words, argument_words, arguments_of}
use Rattle.meson_variables.proofs.Words.{operands_of, text_at, expr_view, list_view, arg_view, args_view, operands_view, GoodArgs, child, place, one_of}
use Rattle.meson_variables.proofs.Words.{AreGood, name_view, array_view, call_view, plain_view, good_listing, good_args, good_arg, good_operand, row_is}
use Rattle.meson_variables.proofs.Words.{value_view, project_of, Stand, fixed, met, opaque, empty, within, element, operand_at, is_files, are_plus}
use Rattle.meson_variables.proofs.Words.{is_list_operand, Gathered, all_marked, gathered, expanded, with_mark, stand_at, follow_of, expand_left, rank}
use Rattle.meson_variables.proofs.Words.{operands_rank, listing_rank, argument_rank, arguments_rank, listing_left, argument_left, sum_left, row_left}
use Rattle.meson_lex.specs.Kinds.{IsIdentifier}
use Rattle.meson_syntax.specs.declared.operator.Bracket.TheVariants as bracket
use Rattle.meson_variables.proofs.Singles.{single_fine}
use Rattle.meson_variables.proofs.Measures.{values_rank, lower_step, inner_step, variable_step}
use Rattle.meson_calls.proofs.GoodParts.{good_left, good_right}
use Rattle.meson_variables.proofs.Ranks.{args_rank, arg_rank, operand_rank}
use Rattle.meson_variables.proofs.Gathers.{expanded_twice, arg_turn, listing_alike, rest_left, operand_turn, rest_ended, sum_alike, followed_value, first_of}
use Rattle.meson_variables.proofs.Gathers.{second_of}
use Rattle.meson_variables.proofs.Vacant.{vacant_list, filled_list}
use Rattle.meson_variables.proofs.variables.Variables.+expansion.Goals as goal

-- ---- an expression

pub expand-expand_list-requires : goal.expand-expand_list-requires
expand-expand_list-requires t c =
    let source = c.args.site.source.now in
    let is = ap (expr_view source) c.in-Array.is ∙ array_view source c.in-Array.list in
    let within : listing_rank (list_view source c.in-Array.list) ≤ rank (expr_view source c.args.expr.now) = let e = ap rank is in omega arith in (
      lower_step c.args.left (values_rank c.args.self.now) _ _ 3 4 t within (omega arith) (sym c.decreases),
      (c.requires.holds, good_listing (list_view source c.in-Array.list) bracket.Square (subst (λ e. AreGood (expression_words e)) is c.requires.good)),
    )

pub expand-expand_list-requires-then-is_files : goal.expand-expand_list-requires-then-is_files
expand-expand_list-requires-then-is_files t c =
    let source = c.args.site.source.now in
    let is = ap (expr_view source) c.in-Call.is ∙ call_view source c.in-Call.span c.in-Call.name c.in-Call.arguments in
    let within : listing_rank (list_view source c.in-Call.arguments) ≤ rank (expr_view source c.args.expr.now) = let e = ap rank is in omega arith in (
      lower_step c.args.left (values_rank c.args.self.now) _ _ 3 4 t within (omega arith) (sym c.decreases),
      (c.requires.holds, good_listing (list_view source c.in-Call.arguments) bracket.Round (subst (λ e. AreGood (expression_words e)) is c.requires.good).1),
    )

pub expand-follow-requires : goal.expand-follow-requires
expand-follow-requires t c =
    let here = rank (expr_view c.args.site.source.now c.args.expr.now) in
    let within : 0 ≤ here = omega arith in
    let source = c.args.site.source.now in
    let is = ap (expr_view source) c.in-Identifier.is ∙ name_view source c.in-Identifier.name in
    let named = subst IsIdentifier (sym c.text_of.ensures) (subst (λ e. AreGood (expression_words e)) is c.requires.good).0 in
    (lower_step c.args.left (values_rank c.args.self.now) 0 here 1 4 t within (omega arith) (sym c.decreases), (c.requires.holds, named))

pub expand-returns-then-is_files-clause-all : goal.expand-returns-then-is_files-clause-all
expand-returns-then-is_files-clause-all t c =
    let source = c.args.site.source.now in
    let l = list_view source c.in-Call.arguments in
    let g = gathered c.args.marks.now in
    let p = project_of c.args.self.now in
    let s = stand_at c.args.site c.args.path.now.items c.args.slot in
    let is = ap (expr_view source) c.in-Call.is ∙ call_view source c.in-Call.span c.in-Call.name c.in-Call.arguments in
    let after = gathered c.expand_list-then-is_files.new.marks in
    subst (λ e. OnOk c.expand_list-then-is_files.result (after ≡ expanded g (expand_left p c.args.left e s))) (sym is)
    (first_of c.expand_list-then-is_files.result g after (λ f. within s.place (listing_left p c.args.left l s f)) (λ f. met opaque f)
    (is_files (text_at source c.in-Call.name) l) (sym c.is_files.ensures ∙ c.if-is_files.true) c.expand_list-then-is_files.ensures.all)

pub expand-returns-else-is_files-clause-all : goal.expand-returns-else-is_files-clause-all
expand-returns-else-is_files-clause-all t c =
    let source = c.args.site.source.now in
    let l = list_view source c.in-Call.arguments in
    let g = gathered c.args.marks.now in
    let p = project_of c.args.self.now in
    let s = stand_at c.args.site c.args.path.now.items c.args.slot in
    let is = ap (expr_view source) c.in-Call.is ∙ call_view source c.in-Call.span c.in-Call.name c.in-Call.arguments in
    subst (λ e. OnOk c.miss.result (gathered c.miss.new.self ≡ expanded g (expand_left p c.args.left e s))) (sym is)
    (second_of c.miss.result g (gathered c.miss.new.self) (λ f. within s.place (listing_left p c.args.left l s f)) (λ f. met opaque f)
    (is_files (text_at source c.in-Call.name) l) (sym c.is_files.ensures ∙ c.if-is_files.false) c.miss.ensures.done)

pub expand-expand_row-requires : goal.expand-expand_row-requires
expand-expand_row-requires t c =
    let source = c.args.site.source.now in
    let first = c.get.result.now in
    let rest = c.get-in-Row.result.now in
    let is = row_is source c.args.expr.now c.in-Row.span c.in-Row.first first c.in-Row.rest rest c.in-Row.is c.get.ensures c.get-in-Row.ensures in
    let within : suc (max (rank (expr_view source first)) (operands_rank (operands_of (operands_view source rest)))) ≤ rank (expr_view source c.args.expr.now) = let e = ap rank is in omega arith in (
      lower_step c.args.left (values_rank c.args.self.now) _ _ 3 4 t within (omega arith) (sym c.decreases),
      (c.requires.holds, subst (λ e. AreGood (expression_words e)) is c.requires.good),
    )

pub expand-returns-in-Row-clause-all : goal.expand-returns-in-Row-clause-all
expand-returns-in-Row-clause-all t c =
    let source = c.args.site.source.now in
    let g = gathered c.args.marks.now in
    let p = project_of c.args.self.now in
    let s = stand_at c.args.site c.args.path.now.items c.args.slot in
    let is = row_is source c.args.expr.now c.in-Row.span c.in-Row.first c.get.result.now c.in-Row.rest c.get-in-Row.result.now c.in-Row.is c.get.ensures c.get-in-Row.ensures in
    subst (λ e. OnOk c.expand_row.result (gathered c.expand_row.new.marks ≡ expanded g (expand_left p c.args.left e s))) (sym is) c.expand_row.ensures.all

-- ---- the list of an array or a call

pub expand_list-expand_own-requires : goal.expand_list-expand_own-requires
expand_list-expand_own-requires t c =
    let here = listing_rank (list_view c.args.site.source.now c.args.list.now) in
    let within : here ≤ here = omega arith in
    (lower_step c.args.left (values_rank c.args.self.now) here here 2 3 t within (omega arith) (sym c.decreases), (c.requires.holds, c.requires.good))

pub expand_list-expand_own-requires-in-None : goal.expand_list-expand_own-requires-in-None
expand_list-expand_own-requires-in-None t c =
    let here = listing_rank (list_view c.args.site.source.now c.args.list.now) in
    let within : here ≤ here = omega arith in
    (lower_step c.args.left (values_rank c.args.self.now) here here 2 3 t within (omega arith) (sym c.decreases), (c.requires.holds, c.requires.good))

pub expand_list-returns-in_ok-expand_own-in-Some-clause-all : goal.expand_list-returns-in_ok-expand_own-in-Some-clause-all
expand_list-returns-in_ok-expand_own-in-Some-clause-all t c =
    let l = list_view c.args.site.source.now c.args.list.now in
    let g = gathered c.args.marks.now in
    let p = project_of c.args.self.now in
    let path = c.args.path.now.items in
    let n = c.in-Some.number in
    let q = child (place c.args.site.file path) n in
    c.in_ok-expand_own-in-Some.ensures.all
    ∙ ap (λ steps. expanded g (λ f. within (stand_at c.args.site steps None).place (listing_left p c.args.left l (stand_at c.args.site steps None) f))) c.in_ok-push-in-Some.ensures.items
    ∙ ap (λ e. record { tally = all_marked g.tally (within q e).marks; followed = (within q e).followed }) (sym (listing_alike p c.args.left l (stand_at c.args.site path (Some n)) g.followed))
    ∙ ap (λ slot. expanded g (λ f. within (stand_at c.args.site path slot).place (listing_left p c.args.left l (stand_at c.args.site path slot) f))) (sym c.in-Some.is)

-- ---- the list of an array or a call at the path

pub expand_own-expand_args-requires : goal.expand_own-expand_args-requires
expand_own-expand_args-requires t c =
    let source = c.args.site.source.now in
    let same = ap (λ xs. suc (arguments_rank (arguments_of (args_view source xs)))) c.get-args.ensures in
    let whole = args_rank source c.args.list.now in
    let within : suc (arguments_rank (arguments_of (args_view source c.get-args.result.now))) ≤ listing_rank (list_view source c.args.list.now) = omega arith in (
      lower_step c.args.left (values_rank c.args.self.now) _ _ 1 2 t within (omega arith) (sym c.decreases),
      (c.requires.holds, subst (GoodArgs source) (sym c.get-args.ensures) (good_args source c.args.list.now c.requires.good)),
    )

pub expand_own-returns-then-is_empty-clause-all : goal.expand_own-returns-then-is_empty-clause-all
expand_own-returns-then-is_empty-clause-all t c =
    let g = gathered c.args.marks.now in
    let after = gathered c.meet_vacant.new.self in
    vacant_list (project_of c.args.self.now) c.args.left c.args.site.source.now c.args.list.now (stand_at c.args.site c.args.path.now.items None) g
    c.meet_vacant.result after c.get-args.result.now (sym c.is_empty.ensures ∙ c.if-is_empty.true) c.get-args.ensures
    (subst (λ path. OnOk c.meet_vacant.result (after ≡ with_mark g (empty (place c.args.site.file path)))) c.as_slice.ensures.value c.meet_vacant.ensures.done)

pub expand_own-returns-else-is_empty-clause-all : goal.expand_own-returns-else-is_empty-clause-all
expand_own-returns-else-is_empty-clause-all t c =
    filled_list (project_of c.args.self.now) c.args.left c.args.site.source.now c.args.list.now (stand_at c.args.site c.args.path.now.items None) (gathered c.args.marks.now)
    c.expand_args.result (gathered c.expand_args.new.marks) c.get-args.result.now (sym c.is_empty.ensures ∙ c.if-is_empty.false) c.get-args.ensures c.expand_args.ensures.all

-- ---- elements

pub expand_args-expand_arg-requires : goal.expand_args-expand_arg-requires
expand_args-expand_arg-requires t c =
    let source = c.args.site.source.now in
    let args = c.args.args.now in
    let x = c.index-args-i.result in
    let within = subst (λ a. argument_rank (arg_view source a) < suc (arguments_rank (arguments_of (args_view source args)))) (sym c.index-args-i.is) (arg_rank source args c.loop-i.i x c.loop-i-test.true) in (
      inner_step c.args.left (values_rank c.args.self.now) _ _ 5 1 t within (omega arith) (sym c.decreases),
      (c.requires.holds, subst (λ a. AreGood (argument_words (arg_view source a))) (sym c.index-args-i.is) (good_arg source args c.loop-i.i x c.loop-i-test.true c.requires.good)),
    )

pub expand_args-loop-i-preserved : goal.expand_args-loop-i-preserved
expand_args-loop-i-preserved t c =
    let source = c.args.site.source.now in
    let p = project_of c.args.self.now in
    let before = gathered c.loop-i.marks in
    let i = c.loop-i.i in
    let x = c.index-args-i.result in
    let s = stand_at c.args.site c.args.path.now.items None in (
      c.in_ok-expand_arg.ensures.back ∙ c.loop-i.invariant.0,
      arg_turn p c.args.left source c.args.args.now i x s before (gathered c.expand_arg.new.marks) _ c.loop-i-test.true
          (c.in_ok-expand_arg.ensures.all
          ∙ ap (λ path. expanded before (argument_left p c.args.left (arg_view source x) (element (stand_at c.args.site path None) i))) c.loop-i.invariant.0
          ∙ ap (λ a. expanded before (argument_left p c.args.left (arg_view source a) (element s i))) c.index-args-i.is)
          c.loop-i.invariant.1,
    )

pub expand_arg-expand-requires : goal.expand_arg-expand-requires
expand_arg-expand-requires t c =
    let source = c.args.site.source.now in
    let is = ap (arg_view source) c.in-Plain.is ∙ plain_view source c.in-Plain.value in
    let within : rank (expr_view source c.in-Plain.value) ≤ argument_rank (arg_view source c.args.arg.now) = let e = ap argument_rank is in omega arith in
    (lower_step c.args.left (values_rank c.args.self.now) _ _ 4 5 t within (omega arith) (sym c.decreases), (c.requires.holds, subst (λ a. AreGood (argument_words a)) is c.requires.good))

-- ---- operands

pub expand_row-expand_operands-requires : goal.expand_row-expand_operands-requires
expand_row-expand_operands-requires t c =
    let source = c.args.site.source.now in
    let here = suc (max (rank (expr_view source c.args.first.now)) (operands_rank (operands_of (operands_view source c.args.rest.now)))) in
    let within : here ≤ here = omega arith in
    (lower_step c.args.left (values_rank c.args.self.now) here here 2 3 t within (omega arith) (sym c.decreases), (c.requires.holds, c.requires.good))

pub expand_row-expand_operands-requires-in-None : goal.expand_row-expand_operands-requires-in-None
expand_row-expand_operands-requires-in-None t c =
    let source = c.args.site.source.now in
    let here = suc (max (rank (expr_view source c.args.first.now)) (operands_rank (operands_of (operands_view source c.args.rest.now)))) in
    let within : here ≤ here = omega arith in
    (lower_step c.args.left (values_rank c.args.self.now) here here 2 3 t within (omega arith) (sym c.decreases), (c.requires.holds, c.requires.good))

pub expand_row-returns-then-not-branch-clause-all : goal.expand_row-returns-then-not-branch-clause-all
expand_row-returns-then-not-branch-clause-all t c =
    let source = c.args.site.source.now in
    let p = project_of c.args.self.now in
    let e = expr_view source c.args.first.now in
    let os = operands_of (operands_view source c.args.rest.now) in
    second_of c.miss.result (gathered c.args.marks.now) (gathered c.miss.new.self) (sum_left p c.args.left e os (stand_at c.args.site c.args.path.now.items c.args.slot)) (λ f. met opaque f)
    (are_plus os && is_list_operand p e) (sym c.in_ok-is_sum.ensures ∙ c.if-not-branch.true) c.miss.ensures.done

pub expand_row-returns-in_ok-expand_operands-in-Some-clause-all : goal.expand_row-returns-in_ok-expand_operands-in-Some-clause-all
expand_row-returns-in_ok-expand_operands-in-Some-clause-all t c =
    let source = c.args.site.source.now in
    let g = gathered c.args.marks.now in
    let p = project_of c.args.self.now in
    let e = expr_view source c.args.first.now in
    let os = operands_of (operands_view source c.args.rest.now) in
    let path = c.args.path.now.items in
    let sums : are_plus os && is_list_operand p e ≡ true = sym c.in_ok-is_sum.ensures ∙ c.if-not-branch.false in
    let s = stand_at c.args.site path (Some c.in-Some.number) in
    c.in_ok-expand_operands-in-Some.ensures.all
    ∙ ap (λ steps. expanded g (sum_left p c.args.left e os (stand_at c.args.site steps None))) c.in_ok-push-in-Some.ensures.items
    ∙ ap (λ x. record { tally = all_marked g.tally x.marks; followed = x.followed }) (sym (sum_alike p c.args.left e os s g.followed))
    ∙ ap (λ b. expanded g (λ f. if b then sum_left p c.args.left e os s f else met opaque f)) (sym sums)
    ∙ ap (λ slot. expanded g (row_left p c.args.left e os (stand_at c.args.site path slot))) (sym c.in-Some.is)

pub expand_row-returns-in-None-clause-all : goal.expand_row-returns-in-None-clause-all
expand_row-returns-in-None-clause-all t c =
    let source = c.args.site.source.now in
    let g = gathered c.args.marks.now in
    let p = project_of c.args.self.now in
    let e = expr_view source c.args.first.now in
    let os = operands_of (operands_view source c.args.rest.now) in
    let after = gathered c.expand_operands-in-None.new.marks in
    let path = c.args.path.now.items in
    let sums : are_plus os && is_list_operand p e ≡ true = sym c.in_ok-is_sum.ensures ∙ c.if-not-branch.false in
    subst (λ slot. OnOk c.expand_operands-in-None.result (after ≡ expanded g (row_left p c.args.left e os (stand_at c.args.site path slot)))) (sym c.in-None.is)
    (first_of c.expand_operands-in-None.result g after (sum_left p c.args.left e os (stand_at c.args.site path None)) (λ f. met opaque f) (are_plus os && is_list_operand p e) sums c.expand_operands-in-None.ensures.all)

pub expand_operands-expand_operand-requires : goal.expand_operands-expand_operand-requires
expand_operands-expand_operand-requires t c =
    let source = c.args.site.source.now in
    let e = expr_view source c.args.first.now in
    let os = operands_of (operands_view source c.args.rest.now) in
    let x = rank e in
    let y = operands_rank os in
    let within : x < suc (max x y) = omega arith in
    (inner_step c.args.left (values_rank c.args.self.now) _ _ 5 2 t within (omega arith) (sym c.decreases), (c.requires.holds, good_left (expression_words e) (operands_words os) c.requires.good))

pub expand_operands-expand_operand-requires-in-loop-i : goal.expand_operands-expand_operand-requires-in-loop-i
expand_operands-expand_operand-requires-in-loop-i t c =
    let source = c.args.site.source.now in
    let e = expr_view source c.args.first.now in
    let rest = c.args.rest.now in
    let os = operands_of (operands_view source rest) in
    let o = c.index-rest-i.result in
    let one = operand_rank source rest c.loop-i.i o c.loop-i-test.true in
    let within : rank (expr_view source (get_or rest c.loop-i.i o).value) < suc (max (rank e) (operands_rank os)) = let x = rank e in let y = operands_rank os in omega arith in (
      inner_step c.args.left (values_rank c.args.self.now) _ _ 5 2 t within (omega arith) (sym c.decreases),
      (c.requires.holds, good_operand source rest c.loop-i.i o c.loop-i-test.true (good_right (expression_words e) (operands_words os) c.requires.good)),
    )

pub expand_operands-loop-i-init : goal.expand_operands-loop-i-init
expand_operands-loop-i-init t c =
    let source = c.args.site.source.now in
    let p = project_of c.args.self.now in
    let g = gathered c.args.marks.now in
    let s = stand_at c.args.site c.args.path.now.items None in
    let e = expr_view source c.args.first.now in
    let more = rest_left p c.args.left source c.args.rest.now 1 s in (
      c.in_ok-expand_operand.ensures.back,
      ap (λ h. expanded h more) c.in_ok-expand_operand.ensures.all ∙ sym (expanded_twice g (expand_left p c.args.left e (operand_at s 0)) more),
    )

pub expand_operands-loop-i-preserved : goal.expand_operands-loop-i-preserved
expand_operands-loop-i-preserved t c =
    let source = c.args.site.source.now in
    let p = project_of c.args.self.now in
    let before = gathered c.loop-i.marks in
    let i = c.loop-i.i in
    let o = c.index-rest-i.result in
    let e = expr_view source (get_or c.args.rest.now i o).value in
    let s = stand_at c.args.site c.args.path.now.items None in (
      c.in_ok-expand_operand-2.ensures.back ∙ c.loop-i.invariant.0,
      operand_turn p c.args.left source c.args.rest.now i o s before (gathered c.expand_operand-in-loop-i.new.marks) _ c.loop-i-test.true
          (c.in_ok-expand_operand-2.ensures.all ∙ ap (λ path. expanded before (expand_left p c.args.left e (operand_at (stand_at c.args.site path None) (i + 1)))) c.loop-i.invariant.0)
          c.loop-i.invariant.1,
    )

pub expand_operands-returns-clause-all : goal.expand_operands-returns-clause-all
expand_operands-returns-clause-all t c =
    rest_ended (project_of c.args.self.now) c.args.left c.args.site.source.now c.args.rest.now c.loop-i.i (stand_at c.args.site c.args.path.now.items None)
    (gathered c.loop-i.marks) _ c.loop-i-test.false c.loop-i.invariant.1

pub expand_operand-expand-requires : goal.expand_operand-expand-requires
expand_operand-expand-requires t c =
    let here = rank (expr_view c.args.site.source.now c.args.operand.now) in
    let within : here ≤ here = omega arith in
    (lower_step c.args.left (values_rank c.args.self.now) here here 4 5 t within (omega arith) (sym c.decreases), (c.requires.holds, c.requires.good))

-- ---- a variable

pub follow-expand-requires : goal.follow-expand-requires
follow-expand-requires t c =
    let p = project_of c.args.self.now in
    let is = sym c.in_ok-value.ensures ∙ ap (option_map value_view) c.in-Some.is in
    let fine = single_fine c.args.name.now p (value_view c.in-Some.value) c.requires.holds.good is in
    let some : 0 < c.args.left = omega arith in
    (variable_step c.args.left (values_rank c.args.self.now) _ t some fine.1 (sym c.decreases), (c.requires.holds, fine.0))

pub follow-returns-in_ok-follow-in-Some : goal.follow-returns-in_ok-follow-in-Some
follow-returns-in_ok-follow-in-Some t c =
    let p = project_of c.args.self.now in
    let x = c.args.name.now in
    let g = gathered c.args.marks.now in
    let v = c.in-Some.value in
    let k = c.args.left - 1 in
    let is = sym c.in_ok-value.ensures ∙ ap (option_map value_view) c.in-Some.is in
    let new = sym c.has_followed.ensures ∙ c.if-has_followed.false in
    let one_more : suc k ≡ c.args.left = omega arith in
    let path = c.in_ok-push-in-Some-2.ensures.items ∙ ap (λ xs. xs ++ 0 ∷ []) (c.in_ok-push-in-Some.ensures.items ∙ ap (λ xs. xs ++ v.statement ∷ []) c.new-path.ensures.items) in
    let stands : List ℕ → List ℕ → Stand = λ y steps. record { place = place v.file steps; slot = fixed; variable = Some y } in
    let later : Gathered = record { tally = g.tally; followed = x ∷ g.followed } in
    on_ok_weaker c.expand.result (λ so. so
    ∙ ap (λ h. expanded h (expand_left p k (value_view v).it (stands c.identifier_text.result.now c.push-in-Some.new.self.items))) c.in_ok-follow-in-Some.ensures.done
    ∙ ap (λ y. expanded later (expand_left p k (value_view v).it (stands y c.push-in-Some.new.self.items))) c.identifier_text.ensures
    ∙ ap (λ steps. expanded later (expand_left p k (value_view v).it (stands x steps))) path
    ∙ sym (followed_value p k x (value_view v) g is new)
    ∙ ap (λ n. expanded g (λ f. if one_of f x then met opaque f else follow_of p n x f)) one_more) c.expand.ensures.all
