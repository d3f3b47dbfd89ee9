use Rattle.meson_edit.proofs.Words.{◌∙◌, nat_le, ◌-◌, refl, sym, ap}
use Rattle.meson_edit.proofs.Fitting.{one-more, both, first-fails, seen, told, element-fails, element-fits, all-fit}
use Rattle.meson_edit.proofs.DeepViews.{stmt_deep, stmts_deep, branch_deep, branches_deep, block_deep, otherwise_deep, deep_evaluate, deep_assign, deep_if}
use Rattle.meson_edit.proofs.DeepViews.{deep_foreach, deep_block, deep_branch}
use Rattle.meson_edit.proofs.depth.+statements.Goals as goal

-- ---- blocks

pub block_fits-returns-then-not-stmt_fits : goal.block_fits-returns-then-not-stmt_fits
block_fits-returns-then-not-stmt_fits t c = λ source.
    element-fails (stmts_deep source) (stmt_deep source) refl (λ x xs. refl) c.get-stmts.result.now c.loop-i.i c.index-stmts-i.result c.args.room c.stmt_fits.result c.loop-i-test.true c.index-stmts-i.is
    (c.stmt_fits.ensures source) c.if-not-stmt_fits.true (c.loop-i.invariant source)
    ∙ ap (λ xs. nat_le (stmts_deep source xs) c.args.room) c.get-stmts.ensures
    ∙ ap (λ n. nat_le n c.args.room) (sym (deep_block source c.args.block.now))

pub block_fits-loop-i-preserved : goal.block_fits-loop-i-preserved
block_fits-loop-i-preserved t c = λ source.
    element-fits (stmts_deep source) (stmt_deep source) refl (λ x xs. refl) c.get-stmts.result.now c.loop-i.i c.index-stmts-i.result c.args.room c.stmt_fits.result c.loop-i-test.true c.index-stmts-i.is
    (c.stmt_fits.ensures source) c.if-not-stmt_fits.false (c.loop-i.invariant source)

pub block_fits-returns : goal.block_fits-returns
block_fits-returns t c = λ source.
    all-fit (stmts_deep source) (stmt_deep source) refl (λ x xs. refl) c.get-stmts.result.now c.loop-i.i c.args.room c.loop-i-test.false (c.loop-i.invariant source)
    ∙ ap (λ xs. nat_le (stmts_deep source xs) c.args.room) c.get-stmts.ensures
    ∙ ap (λ n. nat_le n c.args.room) (sym (deep_block source c.args.block.now))

pub otherwise_fits-returns-in-Some : goal.otherwise_fits-returns-in-Some
otherwise_fits-returns-in-Some t c = λ source. seen (otherwise_deep source) _ _ _ c.args.room _ c.in-Some.is refl (c.block_fits.ensures source)

-- ---- branches

pub branch_fits-returns-then-expr_fits : goal.branch_fits-returns-then-expr_fits
branch_fits-returns-then-expr_fits t c = λ source.
    both _ _ c.args.room _ _ (c.expr_fits.ensures source) c.if-expr_fits.true (c.block_fits.ensures source) ∙ ap (λ n. nat_le n c.args.room) (sym (deep_branch source c.args.branch.now))

pub branch_fits-returns-else-expr_fits : goal.branch_fits-returns-else-expr_fits
branch_fits-returns-else-expr_fits t c = λ source.
    first-fails _ (block_deep source c.args.branch.now.block) c.args.room _ (c.expr_fits.ensures source) c.if-expr_fits.false
    ∙ ap (λ n. nat_le n c.args.room) (sym (deep_branch source c.args.branch.now))

pub branches_fit-returns-then-not-branch_fits : goal.branches_fit-returns-then-not-branch_fits
branches_fit-returns-then-not-branch_fits t c = λ source.
    element-fails (branches_deep source) (branch_deep source) refl (λ x xs. refl) c.args.branches.now c.loop-i.i c.index-branches-i.result c.args.room c.branch_fits.result c.loop-i-test.true c.index-branches-i.is
    (c.branch_fits.ensures source) c.if-not-branch_fits.true (c.loop-i.invariant source)

pub branches_fit-loop-i-preserved : goal.branches_fit-loop-i-preserved
branches_fit-loop-i-preserved t c = λ source.
    element-fits (branches_deep source) (branch_deep source) refl (λ x xs. refl) c.args.branches.now c.loop-i.i c.index-branches-i.result c.args.room c.branch_fits.result c.loop-i-test.true c.index-branches-i.is
    (c.branch_fits.ensures source) c.if-not-branch_fits.false (c.loop-i.invariant source)

pub branches_fit-returns : goal.branches_fit-returns
branches_fit-returns t c = λ source.
    all-fit (branches_deep source) (branch_deep source) refl (λ x xs. refl) c.args.branches.now c.loop-i.i c.args.room c.loop-i-test.false (c.loop-i.invariant source)

-- ---- statements

pub stmt_fits-returns-in-Expr : goal.stmt_fits-returns-in-Expr
stmt_fits-returns-in-Expr t c = λ source. seen (stmt_deep source) _ _ _ c.args.room _ c.in-Expr.is (deep_evaluate source c.in-Expr.value) (c.expr_fits.ensures source)

pub stmt_fits-returns-in-Assign : goal.stmt_fits-returns-in-Assign
stmt_fits-returns-in-Assign t c = λ source.
    seen (stmt_deep source) _ _ _ c.args.room _ c.in-Assign.is (deep_assign source c.in-Assign.span c.in-Assign.name c.in-Assign.assignment c.in-Assign.value) (c.expr_fits-in-Assign.ensures source)

pub stmt_fits-returns-then-branches_fit : goal.stmt_fits-returns-then-branches_fit
stmt_fits-returns-then-branches_fit t c = λ source.
    let k = c.in-If in
    let first = told (branches_deep source) _ _ (c.args.room - 1) _ (c.branches_fit.ensures source) c.get.ensures in
    let inside = both _ _ (c.args.room - 1) _ _ first c.if-branches_fit.true (c.otherwise_fits.ensures source) in
    seen (stmt_deep source) _ _ _ c.args.room _ k.is (deep_if source k.span k.branches k.otherwise) (one-more _ c.args.room _ c.if-room-gt0.true inside)

pub stmt_fits-returns-else-branches_fit : goal.stmt_fits-returns-else-branches_fit
stmt_fits-returns-else-branches_fit t c = λ source.
    let k = c.in-If in
    let first = told (branches_deep source) _ _ (c.args.room - 1) _ (c.branches_fit.ensures source) c.get.ensures in
    let inside = first-fails _ (otherwise_deep source k.otherwise) (c.args.room - 1) _ first c.if-branches_fit.false in
    seen (stmt_deep source) _ _ _ c.args.room _ k.is (deep_if source k.span k.branches k.otherwise) (one-more _ c.args.room _ c.if-room-gt0.true inside)

pub stmt_fits-returns-then-expr_fits : goal.stmt_fits-returns-then-expr_fits
stmt_fits-returns-then-expr_fits t c = λ source.
    let k = c.in-Foreach in
    let inside = both _ _ (c.args.room - 1) _ _ (c.expr_fits-then-room-gt0-2.ensures source) c.if-expr_fits.true (c.block_fits.ensures source) in
    seen (stmt_deep source) _ _ _ c.args.room _ k.is (deep_foreach source k.span k.names k.items k.body) (one-more _ c.args.room _ c.if-room-gt0-2.true inside)

pub stmt_fits-returns-else-expr_fits : goal.stmt_fits-returns-else-expr_fits
stmt_fits-returns-else-expr_fits t c = λ source.
    let k = c.in-Foreach in
    let inside = first-fails _ (block_deep source k.body) (c.args.room - 1) _ (c.expr_fits-then-room-gt0-2.ensures source) c.if-expr_fits.false in
    seen (stmt_deep source) _ _ _ c.args.room _ k.is (deep_foreach source k.span k.names k.items k.body) (one-more _ c.args.room _ c.if-room-gt0-2.true inside)
