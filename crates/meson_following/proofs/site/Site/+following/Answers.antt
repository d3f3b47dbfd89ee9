use Rattle.std.proofs.Common.{suc, ◌+◌, ◌-◌, ◌<◌, ◌≤◌, length, get_or, refl, sym, ap, subst, ◌∙◌, arith}
use Rattle.std.proofs.lemmas.Result.{on_ok_weaker}
use Rattle.meson_syntax.specs.Grammar.{argument_words, expression_words, operands_words}
use Rattle.meson_syntax.specs.Tree.{arguments_of, operands_of}
use Rattle.meson_syntax.specs.View.{arg_view, args_view, expr_view, list_view, operands_view}
use Rattle.meson_calls.specs.GoodLists.{GoodArgs}
use Rattle.meson_calls.specs.Project.{place}
use Rattle.meson_calls.specs.Strings.{AreGood}
use Rattle.meson_calls.proofs.GoodParts.{good_left, good_right}
use Rattle.meson_calls.proofs.Listed.{list_is}
use Rattle.meson_calls.proofs.Nested.{good_arg, good_args, good_operand}
use Rattle.meson_following.specs.CodeFollowing.{following_view, value_view}
use Rattle.meson_following.specs.CodeMakers.{made_view, maker_view}
use Rattle.meson_following.specs.CodeSites.{argument_met, each_met, expression_met, listing_met, maker_met, makers_met, operands_met, project_at, way_at}
use Rattle.meson_following.specs.Following.{element, empty, follow_left, follow_variable, inside, met, then_follow}
use Rattle.meson_following.specs.Lists.{is_list}
use Rattle.meson_following.proofs.Followed.{all_turned, arg_turn, follow_twice, made_unknown, none_met, one_turn, operand_turn}
use Rattle.meson_following.proofs.GoodNodes.{array_good, call_good, no_good, paren_good, plain_good, row_good, yes_good}
use Rattle.meson_following.proofs.Measures.{inner_step, lower_step, measure, one_less, value_step}
use Rattle.meson_following.proofs.Weights.{all_weight, answers_within, arg_less, args_weight, argument_weight, array_within, call_within, items_within, listing_weight, operand_less, paren_less, plain_within, rest_weight, sum_within, value_within, weight_of}
use Rattle.meson_following.proofs.site.Site.+following.Goals as goal

-- ---- an expression

pub meet-meet_list-requires : goal.meet-meet_list-requires
meet-meet_list-requires t c =
    let s = c.args.self.now in
    let source = s.source.now in
    let x = c.args.expr.now in
    let l = c.in-Array.list in
    (lower_step s.left (all_weight (project_at s)) (suc (listing_weight (list_view source l))) (weight_of source x) 1 3 t (array_within source x l c.in-Array.is) (omega arith) (sym c.decreases), (c.requires.project, array_good source x l c.in-Array.is c.requires.good))

pub meet-meet_call-requires : goal.meet-meet_call-requires
meet-meet_call-requires t c =
    let s = c.args.self.now in
    let source = s.source.now in
    let x = c.args.expr.now in
    let it = c.in-Call in
    (lower_step s.left (all_weight (project_at s)) (suc (listing_weight (list_view source it.arguments))) (weight_of source x) 2 3 t (call_within source x it.span it.name it.arguments it.is) (omega arith) (sym c.decreases), (c.requires.project, call_good source x it.span it.name it.arguments it.is c.requires.good))

pub meet-meet_variable-requires : goal.meet-meet_variable-requires
meet-meet_variable-requires t c =
    let s = c.args.self.now in
    let w = weight_of s.source.now c.args.expr.now in
    let none : 0 ≤ w = omega arith in
    (lower_step s.left (all_weight (project_at s)) 0 w 2 3 t none (omega arith) (sym c.decreases), c.requires.project)

pub meet-meet_child-requires : goal.meet-meet_child-requires
meet-meet_child-requires t c =
    let s = c.args.self.now in
    let source = s.source.now in
    let x = c.args.expr.now in
    let it = c.in-Paren in
    let y = c.get.result.now in
    (inner_step s.left (all_weight (project_at s)) (weight_of source y) (weight_of source x) 4 3 t (paren_less source x it.span it.inside y it.is c.get.ensures) (omega arith) (sym c.decreases), (c.requires.project, paren_good source x it.span it.inside y it.is c.get.ensures c.requires.good))

pub meet-meet_answers-requires : goal.meet-meet_answers-requires
meet-meet_answers-requires t c =
    let s = c.args.self.now in
    let source = s.source.now in
    let x = c.args.expr.now in
    let it = c.in-Conditional in
    let y = c.get-in-Conditional.result.now in
    let n = c.get-in-Conditional-2.result.now in
    let within = answers_within source x it.span it.condition it.yes it.no y n it.is c.get-in-Conditional.ensures c.get-in-Conditional-2.ensures in (
      lower_step s.left (all_weight (project_at s)) (suc (weight_of source y + weight_of source n)) (weight_of source x) 2 3 t within (omega arith) (sym c.decreases),
      (
        c.requires.project,
        (
          yes_good source x it.span it.condition it.yes it.no it.is c.requires.good y c.get-in-Conditional.ensures,
          no_good source x it.span it.condition it.yes it.no it.is c.requires.good n c.get-in-Conditional-2.ensures,
        ),
      ),
    )

pub meet-meet_sum-requires : goal.meet-meet_sum-requires
meet-meet_sum-requires t c =
    let s = c.args.self.now in
    let source = s.source.now in
    let x = c.args.expr.now in
    let it = c.in-Row in
    let f = c.get-in-Row.result.now in
    let os = c.get-in-Row-2.result.now in
    let within = sum_within source x it.span it.first f it.rest os it.is c.get-in-Row.ensures c.get-in-Row-2.ensures in (
      lower_step s.left (all_weight (project_at s)) (suc (weight_of source f + rest_weight source os)) (weight_of source x) 2 3 t within (omega arith) (sym c.decreases),
      (c.requires.project, row_good source x it.span it.first f it.rest os it.is c.get-in-Row.ensures c.get-in-Row-2.ensures c.requires.good),
    )

pub meet_child-meet-requires : goal.meet_child-meet-requires
meet_child-meet-requires t c =
    let s = c.args.self.now in
    let w = weight_of s.source.now c.args.expr.now in
    (lower_step s.left (all_weight (project_at s)) w w 3 4 t (omega arith) (omega arith) (sym c.decreases), (c.requires.project, c.requires.good))

pub meet_call-meet_list-requires : goal.meet_call-meet_list-requires
meet_call-meet_list-requires t c =
    let s = c.args.self.now in
    let w = suc (listing_weight (list_view s.source.now c.args.arguments.now)) in
    (lower_step s.left (all_weight (project_at s)) w w 1 2 t (omega arith) (omega arith) (sym c.decreases), (c.requires.project, c.requires.good))

pub meet_answers-meet_child-requires : goal.meet_answers-meet_child-requires
meet_answers-meet_child-requires t c =
    let s = c.args.self.now in
    let y = weight_of s.source.now c.args.yes.now in
    let n = weight_of s.source.now c.args.no.now in
    let less : y < suc (y + n) = omega arith in
    (inner_step s.left (all_weight (project_at s)) y (suc (y + n)) 4 2 t less (omega arith) (sym c.decreases), (c.requires.project, c.requires.yes))

pub meet_answers-meet_child-requires-2 : goal.meet_answers-meet_child-requires-2
meet_answers-meet_child-requires-2 t c =
    let s = c.args.self.now in
    let y = weight_of s.source.now c.args.yes.now in
    let n = weight_of s.source.now c.args.no.now in
    let less : n < suc (y + n) = omega arith in
    (inner_step s.left (all_weight (project_at s)) n (suc (y + n)) 4 2 t less (omega arith) (sym c.decreases), (c.requires.project, c.requires.no))

-- ---- a list

pub meet_list-meet_elements-requires : goal.meet_list-meet_elements-requires
meet_list-meet_elements-requires t c =
    let s = c.args.self.now in
    let source = s.source.now in
    let args = c.get-args.result.now in (
      lower_step s.left (all_weight (project_at s)) (suc (args_weight source args)) (suc (listing_weight (list_view source c.args.list.now))) 0 1 t (items_within source c.args.list.now args c.get-args.ensures) (omega arith) (sym c.decreases),
      (c.requires.project, subst (GoodArgs source) (sym c.get-args.ensures) (good_args source c.args.list.now c.requires.good)),
    )

pub meet_list-returns-clause-all : goal.meet_list-returns-clause-all
meet_list-returns-clause-all t c =
    let s = c.args.self.now in
    let source = s.source.now in
    let q = place s.file c.args.path.now.items in
    let w = way_at s in
    let f = following_view c.args.found.now in
    let between = following_view c.meet_elements.new.found in
    let e = c.if-after-before.false in
    let none : length between.marks ≤ length f.marks = let first = c.count-before.ensures in let second = c.count-after.ensures in omega (arith, e, first, second) in
    let is = c.in_ok-meet_elements.ensures.all
    ∙ ap (λ xs. then_follow f (each_met s (arguments_of (args_view source xs)) 0 q)) c.get-args.ensures
    ∙ sym (ap (λ v. then_follow f (listing_met s v q)) (list_is source c.args.list.now)) in
    on_ok_weaker c.meet_empty.result
    (λ so. none_met q w f (listing_met s (list_view source c.args.list.now) q) between (following_view c.meet_empty.new.self) none is
    (so ∙ ap (λ steps. then_follow between (met (empty (place s.file steps) w))) (c.as_slice.ensures.value ∙ c.in_ok-meet_elements.ensures.back)))
    c.meet_empty.ensures

pub meet_elements-meet_element-requires : goal.meet_elements-meet_element-requires
meet_elements-meet_element-requires t c =
    let s = c.args.self.now in
    let source = s.source.now in
    let args = c.args.args.now in
    let x = c.index-args-i.result in
    let less = subst (λ a. argument_weight (arg_view source a) < suc (args_weight source args)) (sym c.index-args-i.is) (arg_less source args c.loop-i.i x c.loop-i-test.true) in (
      inner_step s.left (all_weight (project_at s)) (argument_weight (arg_view source x)) (suc (args_weight source args)) 4 0 t less (omega arith) (sym c.decreases),
      (c.requires.project, subst (λ a. AreGood (argument_words (arg_view source a))) (sym c.index-args-i.is) (good_arg source args c.loop-i.i x c.loop-i-test.true c.requires.good)),
    )

pub meet_elements-loop-i-preserved : goal.meet_elements-loop-i-preserved
meet_elements-loop-i-preserved t c =
    let s = c.args.self.now in
    let source = s.source.now in
    let q = place s.file c.args.path.now.items in
    let w = way_at s in
    let before = following_view c.loop-i.found in
    let i = c.loop-i.i in
    let x = c.index-args-i.result in (
      c.in_ok-meet_element.ensures.back ∙ c.loop-i.invariant.0,
      arg_turn (is_list (project_at s)) (follow_variable (project_at s) s.left) source q w c.args.args.now i x before (following_view c.meet_element.new.found) _ c.loop-i-test.true
          (c.in_ok-meet_element.ensures.all
          ∙ ap (λ steps. then_follow before (argument_met s (arg_view source x) (element (place s.file steps) w i))) c.loop-i.invariant.0
          ∙ ap (λ a. then_follow before (argument_met s (arg_view source a) (element q w i))) c.index-args-i.is)
          c.loop-i.invariant.1,
    )

pub meet_element-meet-requires : goal.meet_element-meet-requires
meet_element-meet-requires t c =
    let s = c.args.self.now in
    let source = s.source.now in
    let a = c.args.arg.now in
    let e = c.in-Plain.value in
    (lower_step s.left (all_weight (project_at s)) (weight_of source e) (argument_weight (arg_view source a)) 3 4 t (plain_within source a e c.in-Plain.is) (omega arith) (sym c.decreases), (c.requires.project, plain_good source a e c.in-Plain.is c.requires.good))

-- ---- a sum

pub meet_sum-meet_child-requires : goal.meet_sum-meet_child-requires
meet_sum-meet_child-requires t c =
    let s = c.args.self.now in
    let source = s.source.now in
    let e = weight_of source c.args.first.now in
    let os = rest_weight source c.args.rest.now in
    let less : e < suc (e + os) = omega arith in (
      inner_step s.left (all_weight (project_at s)) e (suc (e + os)) 4 2 t less (omega arith) (sym c.decreases),
      (c.requires.project, good_left (expression_words (expr_view source c.args.first.now)) (operands_words (operands_of (operands_view source c.args.rest.now))) c.requires.good),
    )

pub meet_sum-meet_child-requires-in-loop-i : goal.meet_sum-meet_child-requires-in-loop-i
meet_sum-meet_child-requires-in-loop-i t c =
    let s = c.args.self.now in
    let source = s.source.now in
    let rest = c.args.rest.now in
    let o = c.index-rest-i.result in
    let e = weight_of source c.args.first.now in
    let one = operand_less source rest c.loop-i.i o c.loop-i-test.true in
    let less : weight_of source (get_or rest c.loop-i.i o).value < suc (e + rest_weight source rest) = omega (arith, one) in (
      inner_step s.left (all_weight (project_at s)) (weight_of source (get_or rest c.loop-i.i o).value) (suc (e + rest_weight source rest)) 4 2 t less (omega arith) (sym c.decreases),
      (
        c.requires.project,
        good_operand source rest c.loop-i.i o c.loop-i-test.true
            (good_right (expression_words (expr_view source c.args.first.now)) (operands_words (operands_of (operands_view source rest))) c.requires.good),
      ),
    )

pub meet_sum-loop-i-init : goal.meet_sum-loop-i-init
meet_sum-loop-i-init t c =
    let s = c.args.self.now in
    let source = s.source.now in
    let q = place s.file c.args.path.now.items in
    let f = following_view c.args.found.now in
    let more = operands_met s (operands_of (operands_view source c.args.rest.now)) 1 q in (
      c.in_ok-meet_child.ensures.back,
      ap (λ g. then_follow g more) c.in_ok-meet_child.ensures.all ∙ sym (follow_twice f (expression_met s (expr_view source c.args.first.now) (inside q (way_at s) 0)) more),
    )

pub meet_sum-loop-i-preserved : goal.meet_sum-loop-i-preserved
meet_sum-loop-i-preserved t c =
    let s = c.args.self.now in
    let source = s.source.now in
    let q = place s.file c.args.path.now.items in
    let w = way_at s in
    let before = following_view c.loop-i.found in
    let i = c.loop-i.i in
    let o = c.index-rest-i.result in
    let e = expr_view source (get_or c.args.rest.now i o).value in (
      c.in_ok-meet_child-2.ensures.back ∙ c.loop-i.invariant.0,
      operand_turn (is_list (project_at s)) (follow_variable (project_at s) s.left) source q w c.args.rest.now i o before (following_view c.meet_child-in-loop-i.new.found) _ c.loop-i-test.true
          (c.in_ok-meet_child-2.ensures.all ∙ ap (λ steps. then_follow before (expression_met s e (inside (place s.file steps) w (i + 1)))) c.loop-i.invariant.0)
          c.loop-i.invariant.1,
    )

-- ---- a variable

pub meet_variable-meet_made-requires : goal.meet_variable-meet_made-requires
meet_variable-meet_made-requires t c =
    let s = c.args.self.now in
    let z = c.if-left-eq0.false in
    let some : 0 < s.left = omega (arith, z) in
    (lower_step s.left (all_weight (project_at s)) 0 0 1 2 t (omega arith) (omega arith) (sym c.decreases), (c.requires, some))

pub meet_made-meet_maker-requires : goal.meet_made-meet_maker-requires
meet_made-meet_maker-requires t c =
    let s = c.args.self.now in
    (lower_step s.left (all_weight (project_at s)) 0 0 0 1 t (omega arith) (omega arith) (sym c.decreases), (c.requires.project, c.requires.more))

pub meet_made-loop-maker-preserved : goal.meet_made-loop-maker-preserved
meet_made-loop-maker-preserved t c =
    let s = c.args.self.now in
    let mixed = c.in_ok-mixed.mixed in
    one_turn maker_view (maker_met s mixed) (makers_met s mixed) (λ y ys now. refl) c.deref-maker-items.result.now c.loop-maker.maker-index c.maker-item.result
    (following_view c.loop-maker.found) (following_view c.meet_maker.new.found) _ c.loop-maker-test.true c.maker-item.is c.in_ok-meet_maker.ensures c.loop-maker.invariant

pub meet_made-returns-then-made : goal.meet_made-returns-then-made
meet_made-returns-then-made t c =
    let s = c.args.self.now in
    let p = project_at s in
    let k = made_view c.args.made.now in
    let f = following_view c.args.found.now in
    let between = following_view c.loop-maker.found in
    let made = all_turned maker_view (makers_met s c.in_ok-mixed.mixed) (λ now. refl) c.deref-maker-items.result.now c.loop-maker.maker-index between _ c.loop-maker-test.false c.loop-maker.invariant
    ∙ ap (λ b. then_follow f (makers_met s b k.makers)) c.in_ok-mixed.ensures in
    on_ok_weaker c.miss.result
    (λ so. made_unknown p (follow_left p (s.left - 1)) (way_at s) f (following_view c.miss.new.self) k between made c.if-made.true so) c.miss.ensures

pub meet_maker-meet-requires : goal.meet_maker-meet-requires
meet_maker-meet-requires t c =
    let s = c.args.self.now in
    let p = project_at s in
    let all = all_weight p in
    let v = c.in-Some.value in
    let within = value_within p c.args.maker.now.place (value_view v) (sym c.in-Some.ensures.value) in
    let one_more = sym c.decreases ∙ ap (λ n. measure n all 0 0) (sym (one_less s.left c.requires.more)) in
    (value_step (s.left - 1) all (weight_of v.source.now v.expr.now) 3 t within (omega arith) one_more, (c.requires.project, c.in-Some.ensures.good))
