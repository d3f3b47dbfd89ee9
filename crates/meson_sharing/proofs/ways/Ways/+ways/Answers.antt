use Rattle.std.proofs.Common.{◌+◌, ◌++◌, get_or, refl, sym, ap, ◌∙◌}
use Rattle.std.proofs.lemmas.Result.{on_ok_weaker}
use Rattle.meson_syntax.specs.View.{expr_view}
use Rattle.meson_calls.specs.Project.{child, place}
use Rattle.meson_sharing.specs.Sharing.{ways}
use Rattle.meson_sharing.proofs.WayTurns.{conditional_taken, element_turn, element_ways, operand_turn, operands_from, row_passed, row_taken}
use Rattle.meson_sharing.proofs.ways.Ways.+ways.Goals as goal

pub in_elements-loop-i-preserved : goal.in_elements-loop-i-preserved
in_elements-loop-i-preserved t c =
    let source = c.args.self.now.source.now in
    let file = c.args.self.now.file in
    let q = place file c.args.path.now.items in
    let i = c.loop-i.i in
    let a = c.index-args-i.result in (
      c.in_ok-in_element.ensures.back ∙ c.loop-i.invariant.0,
      element_turn source q c.args.args.now i a c.loop-i.found.items c.in_element.new.found.items _ (element_ways source (place file c.loop-i.path.items) i a) c.loop-i-test.true
          c.in_ok-in_element.ensures.all
          (ap (λ steps. element_ways source (place file steps) i a) c.loop-i.invariant.0 ∙ ap (element_ways source q i) c.index-args-i.is)
          c.loop-i.invariant.1,
    )

pub in_operands-loop-i-preserved : goal.in_operands-loop-i-preserved
in_operands-loop-i-preserved t c =
    let source = c.args.self.now.source.now in
    let file = c.args.self.now.file in
    let q = place file c.args.path.now.items in
    let i = c.loop-i.i in
    let o = c.index-rest-i.result in
    let before = c.loop-i.found.items in
    let e = expr_view source (get_or c.args.rest.now i o).value in (
      c.in_ok-in_child.ensures.back ∙ c.loop-i.invariant.0,
      operand_turn source q c.args.rest.now i o before c.in_child.new.found.items _ c.loop-i-test.true
          (c.in_ok-in_child.ensures.all ∙ ap (λ steps. before ++ ways (child (place file steps) (i + 1)) e) c.loop-i.invariant.0)
          c.loop-i.invariant.1,
    )

-- ---- in an expression

pub in_expr-returns-in_ok-in_child-in-Conditional-clause-all : goal.in_expr-returns-in_ok-in_child-in-Conditional-clause-all
in_expr-returns-in_ok-in_child-in-Conditional-clause-all t c =
    let source = c.args.self.now.source.now in
    let file = c.args.self.now.file in
    let q = place file c.args.path.now.items in
    let it = c.in-Conditional in
    let middle = c.in_child-in-Conditional.new.found.items in
    let n = expr_view source c.get-in-Conditional-2.result.now in
    on_ok_weaker c.in_child-in-Conditional-2.result
    (λ second. conditional_taken source q c.args.expr.now c.args.found.now.items middle c.in_child-in-Conditional-2.new.found.items it.span it.condition it.yes it.no
    c.get-in-Conditional.result.now c.get-in-Conditional-2.result.now it.is c.get-in-Conditional.ensures c.get-in-Conditional-2.ensures
    c.in_ok-in_child-in-Conditional.ensures.all
    (second ∙ ap (λ steps. middle ++ ways (child (place file steps) 2) n) c.in_ok-in_child-in-Conditional.ensures.back))
    c.in_child-in-Conditional-2.ensures.all

pub in_expr-returns-then-not-are_plus-clause-all : goal.in_expr-returns-then-not-are_plus-clause-all
in_expr-returns-then-not-are_plus-clause-all t c =
    let source = c.args.self.now.source.now in
    let q = place c.args.self.now.file c.args.path.now.items in
    let it = c.in-Row in
    let before = c.args.found.now.items in
    row_passed source q c.args.expr.now before before before it.span it.first it.first it.rest c.get-in-Row.result.now it.is refl c.get-in-Row.ensures c.are_plus.result
    (c.are_plus.ensures source) c.if-not-are_plus.true

pub in_expr-returns-in_ok-in_child-in-Row-clause-all : goal.in_expr-returns-in_ok-in_child-in-Row-clause-all
in_expr-returns-in_ok-in_child-in-Row-clause-all t c =
    let source = c.args.self.now.source.now in
    let file = c.args.self.now.file in
    let q = place file c.args.path.now.items in
    let it = c.in-Row in
    let middle = c.in_child-in-Row.new.found.items in
    let os = c.get-in-Row-3.result.now in
    on_ok_weaker c.in_operands.result
    (λ second. row_taken source q c.args.expr.now c.args.found.now.items middle c.in_operands.new.found.items it.span it.first c.get-in-Row-2.result.now it.rest
    c.get-in-Row.result.now it.is c.get-in-Row-2.ensures c.get-in-Row.ensures c.are_plus.result (c.are_plus.ensures source) c.if-not-are_plus.false
    c.in_ok-in_child-in-Row.ensures.all
    (second ∙ ap (λ steps. middle ++ operands_from source (place file steps) 1 os) c.in_ok-in_child-in-Row.ensures.back
    ∙ ap (λ xs. middle ++ operands_from source q 1 xs) (c.get-in-Row-3.ensures ∙ sym c.get-in-Row.ensures)))
    c.in_operands.ensures.all
