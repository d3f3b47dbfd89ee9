use Rattle.meson_variables.proofs.Words.{◌∙◌, sym, ap, ◌&&◌, IfOk-weaker, expr_view, project_of}
use Rattle.meson_variables.specs.Expansion.{is_list_operand}
use Rattle.meson_variables.proofs.variables.Variables.is_sum.Goals as goal

pub returns-then-are_plus : goal.returns-then-are_plus
unfolding is_list_operand
returns-then-are_plus c =
    let source = c.args.source.now in
    let e = expr_view source c.args.first.now in
    let sums = sym (c.are_plus.ensures source) ∙ c.if-are_plus.true in
    IfOk-weaker c.is_list_operand.result _ _ (λ is so. so ∙ ap (λ x. x && is_list_operand (project_of c.args.self.now) e) (sym sums)) c.is_list_operand.ensures

pub returns-else-are_plus : goal.returns-else-are_plus
returns-else-are_plus c =
    let source = c.args.source.now in
    let e = expr_view source c.args.first.now in
    sym (ap (λ x. x && is_list_operand (project_of c.args.self.now) e) (sym (c.are_plus.ensures source) ∙ c.if-are_plus.false))
