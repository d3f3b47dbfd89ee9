use Rattle.meson_calls.proofs.Words.{◌≡◌, sym, subst, expr_view, taken_view, parts_of_expression, keeper_view, with_parts}
use Rattle.meson_calls.proofs.Visits.{assignments_stay, notes_stay, setters_stay}
use Rattle.meson_calls.proofs.keeper.Keeper.passes.Goals as goal

pub returns-in-Notes : goal.returns-in-Notes
returns-in-Notes c = λ plain source p.
    let parts = parts_of_expression p (expr_view source c.args.expr.now) in
    subst (λ k. keeper_view k ≡ with_parts (keeper_view k) parts) (sym c.in-Notes.is) (notes_stay (taken_view c.in-Notes.field-0) parts (c.is_plain.ensures plain source p))

pub returns-in-Setters : goal.returns-in-Setters
returns-in-Setters c = λ plain source p.
    subst (λ k. keeper_view k ≡ with_parts (keeper_view k) (parts_of_expression p (expr_view source c.args.expr.now))) (sym c.in-Setters.is)
    (setters_stay c.in-Setters.field-0.names.now (taken_view c.in-Setters.field-0.found) p (expr_view source c.args.expr.now))

pub returns-in-Assignments : goal.returns-in-Assignments
returns-in-Assignments c = λ plain source p.
    subst (λ k. keeper_view k ≡ with_parts (keeper_view k) (parts_of_expression p (expr_view source c.args.expr.now))) (sym c.in-Assignments.is)
    (assignments_stay c.in-Assignments.field-0.loops c.in-Assignments.field-0.found.items p (expr_view source c.args.expr.now))
