use Rattle.meson_variables.proofs.Words.{◌≡◌, ℕ, zero, suc, ◌-◌, ◌<◌, List, ◌∙◌, refl, sym, ap, arith, ◌&&◌, option_map, IfOk-weaker, Span, expr_view, Project}
use Rattle.meson_variables.proofs.Words.{array_view, call_view, row_is, value_view, project_of, is_operand_by, is_value_by, is_single_by, is_list_variable}
use Rattle.meson_variables.proofs.Words.{single}
use Rattle.meson_variables.proofs.variables.Variables.+operands.Goals as goal

-- ---- an operand

pub is_list_operand-returns-in-Array : goal.is_list_operand-returns-in-Array
is_list_operand-returns-in-Array t c =
    let source = c.args.source.now in
    let lists = is_operand_by (is_list_variable (project_of c.args.self.now) c.args.left) in
    sym (ap lists (ap (expr_view source) c.in-Array.is ∙ array_view source c.in-Array.field-0))

pub is_list_operand-returns-in-Call : goal.is_list_operand-returns-in-Call
is_list_operand-returns-in-Call t c =
    let source = c.args.source.now in
    let lists = is_operand_by (is_list_variable (project_of c.args.self.now) c.args.left) in
    c.is_files.ensures ∙ sym (ap lists (ap (expr_view source) c.in-Call.is ∙ call_view source c.in-Call.span c.in-Call.name c.in-Call.arguments))

-- ---- a variable

module _ (p : Project Span) (x : List ℕ) where
  by_single : (left : ℕ) → 0 < left → is_list_variable p left x ≡ is_single_by (is_operand_by (is_list_variable p (left - 1))) (single p x)
  by_single zero some = absurd (omega arith)
  by_single (suc k) some = let one_less : k ≡ suc k - 1 = omega arith in ap (λ n. is_single_by (is_operand_by (is_list_variable p n)) (single p x)) one_less

pub is_list_variable-returns-in-Some : goal.is_list_variable-returns-in-Some
is_list_variable-returns-in-Some t c =
    let p = project_of c.args.self.now in
    let x = c.args.name.now in
    let some : 0 < c.args.left = omega arith in
    let is = sym c.in_ok-value.ensures ∙ ap (option_map value_view) c.in-Some.is in
    let same = sym (by_single p x c.args.left some ∙ ap (is_single_by (is_operand_by (is_list_variable p (c.args.left - 1)))) is) in
    IfOk-weaker c.is_list_value.result _ _ (λ lists so. so ∙ same) c.is_list_value.ensures

pub is_list_variable-returns-in-None : goal.is_list_variable-returns-in-None
is_list_variable-returns-in-None t c =
    let p = project_of c.args.self.now in
    let x = c.args.name.now in
    let some : 0 < c.args.left = omega arith in
    let is = sym c.in_ok-value.ensures ∙ ap (option_map value_view) c.in-None.is in
    sym (by_single p x c.args.left some ∙ ap (is_single_by (is_operand_by (is_list_variable p (c.args.left - 1)))) is)

-- ---- a value

pub is_list_value-returns-in-Array : goal.is_list_value-returns-in-Array
is_list_value-returns-in-Array t c =
    let source = c.args.source.now in
    let lists = is_operand_by (is_list_variable (project_of c.args.self.now) c.args.left) in
    sym (ap (is_value_by lists) (ap (expr_view source) c.in-Array.is ∙ array_view source c.in-Array.field-0))

pub is_list_value-returns-in-Call : goal.is_list_value-returns-in-Call
is_list_value-returns-in-Call t c =
    let source = c.args.source.now in
    let lists = is_operand_by (is_list_variable (project_of c.args.self.now) c.args.left) in
    c.is_files.ensures ∙ sym (ap (is_value_by lists) (ap (expr_view source) c.in-Call.is ∙ call_view source c.in-Call.span c.in-Call.name c.in-Call.arguments))

pub is_list_value-returns-then-are_plus : goal.is_list_value-returns-then-are_plus
is_list_value-returns-then-are_plus t c =
    let source = c.args.source.now in
    let lists = is_operand_by (is_list_variable (project_of c.args.self.now) c.args.left) in
    let e = expr_view source c.get-then-are_plus.result.now in
    let is = row_is source c.args.value.now c.in-Row.span c.in-Row.first c.get-then-are_plus.result.now c.in-Row.rest c.get.result.now c.in-Row.is c.get-then-are_plus.ensures c.get.ensures in
    let sums = sym (c.are_plus.ensures source) ∙ c.if-are_plus.true in
    IfOk-weaker c.is_list_operand.result _ _ (λ b so. so ∙ sym (ap (is_value_by lists) is ∙ ap (λ a. a && lists e) sums)) c.is_list_operand.ensures

pub is_list_value-returns-else-are_plus : goal.is_list_value-returns-else-are_plus
is_list_value-returns-else-are_plus t c =
    let source = c.args.source.now in
    let lists = is_operand_by (is_list_variable (project_of c.args.self.now) c.args.left) in
    let is = row_is source c.args.value.now c.in-Row.span c.in-Row.first c.in-Row.first c.in-Row.rest c.get.result.now c.in-Row.is refl c.get.ensures in
    let sums = sym (c.are_plus.ensures source) ∙ c.if-are_plus.false in
    sym (ap (is_value_by lists) is ∙ ap (λ b. b && lists (expr_view source c.in-Row.first)) sums)
