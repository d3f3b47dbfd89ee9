use Rattle.std.proofs.Common.{suc, ◌+◌, ◌<◌, ◌≤◌, get_or, refl, sym, ap, subst, ◌∙◌, arith}
use Rattle.std.specs.Prelude.{false, if◌then◌else◌}
use Rattle.std.proofs.lemmas.Result.{IfOk-weaker}
use Rattle.meson_syntax.specs.Tree.{operands_of}
use Rattle.meson_syntax.specs.View.{expr_view, operands_view}
use Rattle.meson_calls.specs.Project.{child, place}
use Rattle.meson_variables.specs.Expansion.{are_plus}
use Rattle.meson_calls.proofs.Parted.{row_is}
use Rattle.meson_following.specs.CodeFollowing.{followed_project, value_view}
use Rattle.meson_following.specs.CodeLists.{has_list_at, is_list_at, is_maker_at, is_sum_at, is_variable_at, seen_at}
use Rattle.meson_following.specs.CodeMakers.{known_view, made_view, maker_view}
use Rattle.meson_following.specs.Lists.{has_plain_list, told}
use Rattle.meson_following.proofs.Asking.{maker_seen, operand_found, operand_passed, or_no, or_yes, other_sum, plain_sum, variable_made}
use Rattle.meson_following.proofs.Measures.{inner_step, lower_step, measure, one_less, value_step}
use Rattle.meson_following.proofs.Weights.{all_weight, first_less, no_less, operand_less, paren_less, rest_weight, rest_within, value_within, weight_of, yes_less}
use Rattle.meson_following.proofs.+lists.Goals as goal

-- ---- makers

pub follower::Follower::is_made-is_maker-requires : goal.follower::Follower::is_made-is_maker-requires
follower::Follower::is_made-is_maker-requires t c =
    (lower_step (suc c.args.depth) (all_weight (followed_project c.args.self.now)) 0 0 0 1 t (omega arith) (omega arith) (sym c.decreases), c.requires)

pub follower::Follower::is_made-loop-maker-preserved : goal.follower::Follower::is_made-loop-maker-preserved
follower::Follower::is_made-loop-maker-preserved t c =
    maker_seen maker_view (is_maker_at c.args.self.now c.args.depth) c.deref-maker-items.result.now c.loop-maker.maker-index c.maker-item.result _
    (seen_at c.loop-maker.seen c.loop-maker.left) (seen_at c.with-seen.result c.is_maker.new.left) (told c.in_ok-lists.lists c.is_maker.new.left) c.loop-maker-test.true c.maker-item.is
    c.in_ok-lists.ensures (c.with-seen.ensures c.loop-maker.left c.is_maker.new.left) c.loop-maker.invariant

pub follower::Follower::is_maker-is_list-requires : goal.follower::Follower::is_maker-is_list-requires
follower::Follower::is_maker-is_list-requires t c =
    let p = followed_project c.args.self.now in
    let within = value_within p c.args.maker.now.place (value_view c.in-Some.value) (sym c.in-Some.ensures.value) in
    (value_step c.args.depth (all_weight p) (weight_of c.in-Some.value.source.now c.in-Some.value.expr.now) 3 t within (omega arith) (sym c.decreases), c.requires)

-- ---- a variable

pub lists::Lists::is_variable-is_made-requires : goal.lists::Lists::is_variable-is_made-requires
lists::Lists::is_variable-is_made-requires t c =
    let l = c.args.self.now in
    let all = all_weight (followed_project l.follower) in
    let z = c.if-depth-eq0.false in
    let some : 0 < l.depth = omega (arith, z) in
    (subst (λ n. measure n all 0 1 < t) (sym (one_less l.depth some)) (lower_step l.depth all 0 0 1 2 t (omega arith) (omega arith) (sym c.decreases)), c.requires)

pub lists::Lists::is_variable-returns-in-Some : goal.lists::Lists::is_variable-returns-in-Some
lists::Lists::is_variable-returns-in-Some t c =
    let l = c.args.self.now in
    let z = c.if-depth-eq0.false in
    let y = c.if-left-eq0.false in
    let some : 0 < l.depth = omega (arith, z) in
    let more : 0 < c.args.left.now = omega (arith, y) in
    let is = sym c.in_ok-made.ensures ∙ ap known_view c.in-Some.is in
    IfOk-weaker c.is_made.result _ _
    (λ b so. so ∙ variable_made (followed_project l.follower) c.args.name.now (place l.file c.args.path.now) (made_view c.in-Some.made) is l.depth c.args.left.now some more) c.is_made.ensures

-- ---- operands

pub lists::Lists::has_list-is_child-requires : goal.lists::Lists::has_list-is_child-requires
lists::Lists::has_list-is_child-requires t c =
    let l = c.args.self.now in
    let source = l.source.now in
    let rest = c.args.rest.now in
    let o = c.index-rest-i.result in
    let less = operand_less source rest c.loop-i.i o c.loop-i-test.true in
    (inner_step l.depth (all_weight (followed_project l.follower)) (weight_of source (get_or rest c.loop-i.i o).value) (suc (rest_weight source rest)) 4 2 t less (omega arith) (sym c.decreases), c.requires)

pub lists::Lists::has_list-returns-then-branch-clause-told : goal.lists::Lists::has_list-returns-then-branch-clause-told
lists::Lists::has_list-returns-then-branch-clause-told t c =
    let l = c.args.self.now in
    let source = l.source.now in
    let q = place l.file c.args.path.now.items in
    let i = c.loop-i.i in
    let o = c.index-rest-i.result in
    let before = c.loop-i.left in
    let is = c.in_ok-is_child.ensures.told
    ∙ ap (λ steps. is_list_at l (child (place l.file steps) (i + 1)) (expr_view source (get_or c.args.rest.now i o).value) before) c.loop-i.invariant.0 in
    operand_found (is_variable_at l) source q c.args.rest.now i o before c.is_child.new.left _ c.in_ok-is_child.field-0 c.loop-i-test.true is c.if-branch.true c.loop-i.invariant.1

pub lists::Lists::has_list-loop-i-preserved : goal.lists::Lists::has_list-loop-i-preserved
lists::Lists::has_list-loop-i-preserved t c =
    let l = c.args.self.now in
    let source = l.source.now in
    let q = place l.file c.args.path.now.items in
    let i = c.loop-i.i in
    let o = c.index-rest-i.result in
    let before = c.loop-i.left in
    let is = c.in_ok-is_child.ensures.told
    ∙ ap (λ steps. is_list_at l (child (place l.file steps) (i + 1)) (expr_view source (get_or c.args.rest.now i o).value) before) c.loop-i.invariant.0 in (
      c.in_ok-is_child.ensures.back ∙ c.loop-i.invariant.0,
      operand_passed (is_variable_at l) source q c.args.rest.now i o before c.is_child.new.left _ c.in_ok-is_child.field-0 c.loop-i-test.true is c.if-branch.false c.loop-i.invariant.1,
    )

-- ---- an expression

pub lists::Lists::is_child-is_list-requires : goal.lists::Lists::is_child-is_list-requires
lists::Lists::is_child-is_list-requires t c =
    let l = c.args.self.now in
    let w = weight_of l.source.now c.args.expr.now in
    (lower_step l.depth (all_weight (followed_project l.follower)) w w 3 4 t (omega arith) (omega arith) (sym c.decreases), c.requires)

pub lists::Lists::is_list-is_child-requires : goal.lists::Lists::is_list-is_child-requires
lists::Lists::is_list-is_child-requires t c =
    let l = c.args.self.now in
    let source = l.source.now in
    let less = paren_less source c.args.expr.now c.in-Paren.span c.in-Paren.inside c.get.result.now c.in-Paren.is c.get.ensures in
    (inner_step l.depth (all_weight (followed_project l.follower)) (weight_of source c.get.result.now) (weight_of source c.args.expr.now) 4 3 t less (omega arith) (sym c.decreases), c.requires)

pub lists::Lists::is_list-is_child-requires-in-Conditional : goal.lists::Lists::is_list-is_child-requires-in-Conditional
lists::Lists::is_list-is_child-requires-in-Conditional t c =
    let l = c.args.self.now in
    let source = l.source.now in
    let it = c.in-Conditional in
    let less = yes_less source c.args.expr.now it.span it.condition it.yes it.no c.get-in-Conditional.result.now it.is c.get-in-Conditional.ensures in
    (inner_step l.depth (all_weight (followed_project l.follower)) (weight_of source c.get-in-Conditional.result.now) (weight_of source c.args.expr.now) 4 3 t less (omega arith) (sym c.decreases), c.requires)

pub lists::Lists::is_list-is_child-requires-in-Conditional-2 : goal.lists::Lists::is_list-is_child-requires-in-Conditional-2
lists::Lists::is_list-is_child-requires-in-Conditional-2 t c =
    let l = c.args.self.now in
    let source = l.source.now in
    let it = c.in-Conditional in
    let less = no_less source c.args.expr.now it.span it.condition it.yes it.no c.get-in-Conditional-2.result.now it.is c.get-in-Conditional-2.ensures in
    (inner_step l.depth (all_weight (followed_project l.follower)) (weight_of source c.get-in-Conditional-2.result.now) (weight_of source c.args.expr.now) 4 3 t less (omega arith) (sym c.decreases), c.requires)

pub lists::Lists::is_list-is_variable-requires : goal.lists::Lists::is_list-is_variable-requires
lists::Lists::is_list-is_variable-requires t c =
    let l = c.args.self.now in
    let w = weight_of l.source.now c.args.expr.now in
    let none : 0 ≤ w = omega arith in
    (lower_step l.depth (all_weight (followed_project l.follower)) 0 w 2 3 t none (omega arith) (sym c.decreases), c.requires)

pub lists::Lists::is_list-is_child-requires-in-Row : goal.lists::Lists::is_list-is_child-requires-in-Row
lists::Lists::is_list-is_child-requires-in-Row t c =
    let l = c.args.self.now in
    let source = l.source.now in
    let it = c.in-Row in
    let less = first_less source c.args.expr.now it.span it.first c.get-in-Row-3.result.now it.rest it.is c.get-in-Row-3.ensures in
    (inner_step l.depth (all_weight (followed_project l.follower)) (weight_of source c.get-in-Row-3.result.now) (weight_of source c.args.expr.now) 4 3 t less (omega arith) (sym c.decreases), c.requires)

pub lists::Lists::is_list-has_list-requires : goal.lists::Lists::is_list-has_list-requires
lists::Lists::is_list-has_list-requires t c =
    let l = c.args.self.now in
    let source = l.source.now in
    let it = c.in-Row in
    let within = rest_within source c.args.expr.now it.span it.first it.rest c.get-in-Row-4.result.now it.is c.get-in-Row-4.ensures in
    (lower_step l.depth (all_weight (followed_project l.follower)) (suc (rest_weight source c.get-in-Row-4.result.now)) (weight_of source c.args.expr.now) 2 3 t within (omega arith) (sym c.decreases), c.requires)

pub lists::Lists::is_list-returns-then-not-are_plus-clause-told : goal.lists::Lists::is_list-returns-then-not-are_plus-clause-told
lists::Lists::is_list-returns-then-not-are_plus-clause-told t c =
    let l = c.args.self.now in
    let source = l.source.now in
    let q = place l.file c.args.path.now.items in
    let left = c.args.left.now in
    let it = c.in-Row in
    let os = operands_of (operands_view source c.get-in-Row.result.now) in
    let is = row_is source c.args.expr.now it.span it.first it.first it.rest c.get-in-Row.result.now it.is refl c.get-in-Row.ensures in
    let sums = sym (c.are_plus.ensures source) ∙ c.if-not-are_plus.true in
    sym (ap (λ e. is_list_at l q e left) is ∙ ap (λ b. if b then is_sum_at l q (expr_view source it.first) os left else told false left) sums)

pub lists::Lists::is_list-returns-then-has_plain_list-clause-told : goal.lists::Lists::is_list-returns-then-has_plain_list-clause-told
lists::Lists::is_list-returns-then-has_plain_list-clause-told t c =
    let l = c.args.self.now in
    let source = l.source.now in
    let q = place l.file c.args.path.now.items in
    let left = c.args.left.now in
    let it = c.in-Row in
    let rest = c.get-in-Row-2.result.now in
    let is = row_is source c.args.expr.now it.span it.first it.first it.rest rest it.is refl c.get-in-Row-2.ensures in
    let same = c.get-in-Row-2.ensures ∙ sym c.get-in-Row.ensures in
    let sums = ap (λ r. are_plus (operands_of (operands_view source r))) same ∙ sym (c.are_plus.ensures source) ∙ c.if-not-are_plus.false in
    let plain = sym c.has_plain_list.ensures ∙ c.if-has_plain_list.true in
    sym (ap (λ e. is_list_at l q e left) is ∙ plain_sum (is_variable_at l) q (expr_view source it.first) (operands_of (operands_view source rest)) left sums plain)

pub lists::Lists::is_list-returns-then-branch-clause-told : goal.lists::Lists::is_list-returns-then-branch-clause-told
lists::Lists::is_list-returns-then-branch-clause-told t c =
    let l = c.args.self.now in
    let source = l.source.now in
    let q = place l.file c.args.path.now.items in
    let left = c.args.left.now in
    let it = c.in-Row in
    let first = c.get-in-Row-3.result.now in
    let rest = c.get-in-Row-2.result.now in
    let os = operands_of (operands_view source rest) in
    let is = row_is source c.args.expr.now it.span it.first first it.rest rest it.is c.get-in-Row-3.ensures c.get-in-Row-2.ensures in
    let same = c.get-in-Row-2.ensures ∙ sym c.get-in-Row.ensures in
    let sums = ap (λ r. are_plus (operands_of (operands_view source r))) same ∙ sym (c.are_plus.ensures source) ∙ c.if-not-are_plus.false in
    let other = sym c.has_plain_list.ensures ∙ c.if-has_plain_list.false in
    or_yes c.in_ok-is_child-in-Row.field-0 c.is_child-in-Row.new.left (is_list_at l (child q 0) (expr_view source first) left) (λ now. has_list_at l q 1 os now)
    c.in_ok-is_child-in-Row.ensures.told c.if-branch.true
    ∙ sym (ap (λ e. is_list_at l q e left) is ∙ other_sum (is_variable_at l) q (expr_view source first) os left sums other)

pub lists::Lists::is_list-returns-else-branch-clause-told : goal.lists::Lists::is_list-returns-else-branch-clause-told
lists::Lists::is_list-returns-else-branch-clause-told t c =
    let l = c.args.self.now in
    let source = l.source.now in
    let q = place l.file c.args.path.now.items in
    let left = c.args.left.now in
    let now_left = c.is_child-in-Row.new.left in
    let it = c.in-Row in
    let first = c.get-in-Row-3.result.now in
    let rest = c.get-in-Row-4.result.now in
    let os = operands_of (operands_view source rest) in
    let is = row_is source c.args.expr.now it.span it.first first it.rest rest it.is c.get-in-Row-3.ensures c.get-in-Row-4.ensures in
    let same = c.get-in-Row-4.ensures ∙ sym c.get-in-Row.ensures in
    let as_before = c.get-in-Row-4.ensures ∙ sym c.get-in-Row-2.ensures in
    let sums = ap (λ r. are_plus (operands_of (operands_view source r))) same ∙ sym (c.are_plus.ensures source) ∙ c.if-not-are_plus.false in
    let other = ap (λ r. has_plain_list (operands_of (operands_view source r))) as_before ∙ sym c.has_plain_list.ensures ∙ c.if-has_plain_list.false in
    IfOk-weaker c.has_list.result _ _
    (λ b so. or_no c.in_ok-is_child-in-Row.field-0 now_left (is_list_at l (child q 0) (expr_view source first) left) (λ now. has_list_at l q 1 os now)
    c.in_ok-is_child-in-Row.ensures.told (told b c.has_list.new.left) c.if-branch.false
    (so ∙ ap (λ steps. has_list_at l (place l.file steps) 1 os now_left) c.in_ok-is_child-in-Row.ensures.back)
    ∙ sym (ap (λ e. is_list_at l q e left) is ∙ other_sum (is_variable_at l) q (expr_view source first) os left sums other))
    c.has_list.ensures.told
