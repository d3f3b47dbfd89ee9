use Rattle.meson_calls.proofs.Words.{rules, ◌≡◌, ◌+◌, ◌*◌, ◌++◌, ◌∙◌, sym, ap, refl, get_or, length, arith, append_assoc, expression_words, statement_words}
use Rattle.meson_calls.proofs.Words.{block_words, expr_view, stmt_view, block_view, branch_view, parts_of_expression, parts_of_block, parts_of_otherwise, place}
use Rattle.meson_calls.proofs.Words.{child, keeper_view, with_parts, else_view, parts_inside}
use Rattle.meson_calls.proofs.Visits.{two_parts, turn}
use Rattle.meson_calls.proofs.StatementParts.{list_parts, list_part, conditions_parts, conditions_part, branches_count, branch_condition, branch_block}
use Rattle.meson_calls.proofs.StatementParts.{two_each, if_view, foreach_view}
use Rattle.meson_calls.proofs.WalkedWords.{value_fits, assigned_fits, items_fit, branches_fit, otherwise_fits, body_fits, stmt_fits, condition_fits, block_fits}
use Rattle.meson_syntax.specs.declared.tree.Stmt.TheFolds.{the_lemmas}
use Rattle.meson_syntax.proofs.tree.Stmt.TheLaws as stmts
use Rattle.meson_syntax.proofs.tree.Branch.TheLaws as branches
use denote.Param.Weighed.{at_most}
use Rattle.meson_calls.proofs.part.Walk.+statements.Goals as goal

pub in_branch-returns-clause-all : goal.in_branch-returns-clause-all
in_branch-returns-clause-all t c =
    let source = c.args.self.now.source.now in
    let file = c.args.self.now.file in
    let p = place file c.args.path.now.items in
    let n = 2 * c.args.number in
    let before = keeper_view c.args.keeper.now in
    let middle = keeper_view c.in_child.new.keeper in
    let b = c.args.branch.now in
    two_parts before middle _ (parts_of_expression (child p n) (expr_view source b.condition)) (parts_of_block (child p (n + 1)) (block_view source b.block))
    c.in_ok-in_child.ensures.all
    (c.in_ok-in_block.ensures.all ∙ ap (λ path. with_parts middle (parts_of_block (child (place file path) (n + 1)) (block_view source b.block))) c.in_ok-in_child.ensures.back)
    ∙ ap (λ e. with_parts before (parts_of_expression (child p n) e ++ parts_of_block (child p (n + 1)) (block_view source b.block))) (sym (branch_condition source b))
    ∙ ap (λ k. with_parts before (parts_of_expression (child p n) (branch_view source b).0 ++ parts_of_block (child p (n + 1)) k)) (sym (branch_block source b))

pub in_stmts-loop-i-preserved : goal.in_stmts-loop-i-preserved
in_stmts-loop-i-preserved t c =
    let source = c.args.self.now.source.now in
    let file = c.args.self.now.file in
    let p = place file c.args.path.now.items in
    let x = get_or c.args.stmts.now c.loop-i.i c.index-stmts-i.result in
    let now = list_part source (place file c.loop-i.path.items) c.loop-i.i c.index-stmts-i.result in
    let here : now ≡ list_part source p c.loop-i.i x =
    ap (λ path. list_part source (place file path) c.loop-i.i c.index-stmts-i.result) c.loop-i.invariant.0
    ∙ ap (λ s. list_part source p c.loop-i.i s) c.index-stmts-i.is in (
      c.in_ok-in_stmt_at.ensures.back ∙ c.loop-i.invariant.0,
      turn (list_parts source p) (list_part source p) (λ s. 1) (λ n s ss. refl) c.args.stmts.now c.loop-i.i c.index-stmts-i.result c.loop-i.i (c.loop-i.i + 1) (keeper_view c.loop-i.keeper) (keeper_view c.in_stmt_at.new.keeper) _ now c.loop-i-test.true c.in_ok-in_stmt_at.ensures.all here refl c.loop-i.invariant.1,
    )

pub in_branches-loop-i-preserved : goal.in_branches-loop-i-preserved
in_branches-loop-i-preserved t c =
    let source = c.args.self.now.source.now in
    let file = c.args.self.now.file in
    let p = place file c.args.path.now.items in
    let i = c.loop-i.i in
    let x = get_or c.args.branches.now i c.index-branches-i.result in
    let now = conditions_part source (place file c.loop-i.path.items) (2 * i) c.index-branches-i.result in
    let here : now ≡ conditions_part source p (2 * i) x =
    ap (λ path. conditions_part source (place file path) (2 * i) c.index-branches-i.result) c.loop-i.invariant.0
    ∙ ap (λ b. conditions_part source p (2 * i) b) c.index-branches-i.is in
    let next : 2 * (i + 1) ≡ 2 * i + 2 = omega arith in (
      c.in_ok-in_branch.ensures.back ∙ c.loop-i.invariant.0,
      turn (conditions_parts source p) (conditions_part source p) (λ b. 2) (λ n b bs. sym (append_assoc (parts_of_expression (child p n) (branch_view source b).0) (parts_of_block (child p (n + 1)) (branch_view source b).1) (conditions_parts source p (n + 2) bs))) c.args.branches.now i c.index-branches-i.result (2 * i) (2 * (i + 1)) (keeper_view c.loop-i.keeper) (keeper_view c.in_branch.new.keeper) _ now c.loop-i-test.true c.in_ok-in_branch.ensures.all here next c.loop-i.invariant.1,
    )

pub in_stmt-returns-in_ok-in_otherwise-in-If-clause-all : goal.in_stmt-returns-in_ok-in_otherwise-in-If-clause-all
in_stmt-returns-in_ok-in_otherwise-in-If-clause-all t c =
    let source = c.args.self.now.source.now in
    let file = c.args.self.now.file in
    let p = place file c.args.path.now.items in
    let before = keeper_view c.args.keeper.now in
    let middle = keeper_view c.in_branches.new.keeper in
    let number = ap (λ bs. 2 * length bs) c.get-branches.ensures ∙ two_each source c.in-If.branches in
    two_parts before middle _ (conditions_parts source p 0 c.in-If.branches) (parts_of_otherwise p (branches_count source c.in-If.branches) (else_view source c.in-If.otherwise))
    (c.in_ok-in_branches-in-If.ensures.all ∙ ap (λ bs. with_parts before (conditions_parts source p 0 bs)) c.get-branches.ensures)
    (c.in_ok-in_otherwise-in-If.ensures.all
    ∙ ap (λ path. with_parts middle (parts_of_otherwise (place file path) (2 * length c.get-branches.result.now) (else_view source c.in-If.otherwise))) c.in_ok-in_branches-in-If.ensures.back
    ∙ ap (λ n. with_parts middle (parts_of_otherwise p n (else_view source c.in-If.otherwise))) number)
    ∙ ap (with_parts before) (sym (ap (parts_inside p) (if_view source c.in-If.span c.in-If.branches c.in-If.otherwise)))
    ∙ ap (λ x. with_parts before (parts_inside p (stmt_view source x))) (sym c.in-If.is)

pub in_stmt-returns-in_ok-in_block-in-Foreach-clause-all : goal.in_stmt-returns-in_ok-in_block-in-Foreach-clause-all
in_stmt-returns-in_ok-in_block-in-Foreach-clause-all t c =
    let source = c.args.self.now.source.now in
    let file = c.args.self.now.file in
    let p = place file c.args.path.now.items in
    let before = keeper_view c.args.keeper.now in
    let middle = keeper_view c.in_child-in-Foreach.new.keeper in
    two_parts before middle _ (parts_of_expression (child p 0) (expr_view source c.in-Foreach.items)) (parts_of_block (child p 1) (block_view source c.in-Foreach.body))
    c.in_ok-in_child-in-Foreach.ensures.all
    (c.in_ok-in_block-in-Foreach.ensures.all ∙ ap (λ path. with_parts middle (parts_of_block (child (place file path) 1) (block_view source c.in-Foreach.body))) c.in_ok-in_child-in-Foreach.ensures.back)
    ∙ ap (with_parts before) (sym (ap (parts_inside p) (foreach_view source c.in-Foreach.span c.in-Foreach.names c.in-Foreach.items c.in-Foreach.body)))
    ∙ ap (λ x. with_parts before (parts_inside p (stmt_view source x))) (sym c.in-Foreach.is)

pub in_stmt-in_child-requires : goal.in_stmt-in_child-requires
in_stmt-in_child-requires t c = record { fits = value_fits c.args.self.now.source.now _ _ _ c.in-Expr.is c.requires.fits }

pub in_stmt-in_child-requires-in-Assign : goal.in_stmt-in_child-requires-in-Assign
in_stmt-in_child-requires-in-Assign t c = record { fits = assigned_fits c.args.self.now.source.now _ _ _ _ _ _ c.in-Assign.is c.requires.fits }

pub in_stmt-in_child-requires-in-Foreach : goal.in_stmt-in_child-requires-in-Foreach
in_stmt-in_child-requires-in-Foreach t c = record { fits = items_fit c.args.self.now.source.now _ _ _ _ _ _ c.in-Foreach.is c.requires.fits }

pub in_stmt-in_branches-requires : goal.in_stmt-in_branches-requires
in_stmt-in_branches-requires t c = (search (rules, the_lemmas), branches_fit c.args.self.now.source.now _ _ _ _ _ _ c.in-If.is c.get-branches.ensures c.requires.fits)

pub in_stmt-in_otherwise-requires : goal.in_stmt-in_otherwise-requires
in_stmt-in_otherwise-requires t c = (search (rules, the_lemmas), otherwise_fits c.args.self.now.source.now _ _ _ _ _ c.in-If.is c.requires.fits)

pub in_stmt-in_block-requires : goal.in_stmt-in_block-requires
in_stmt-in_block-requires t c = (search (rules, the_lemmas), body_fits c.args.self.now.source.now _ _ _ _ _ _ c.in-Foreach.is c.requires.fits)

pub in_stmts-in_stmt_at-requires : goal.in_stmts-in_stmt_at-requires
in_stmts-in_stmt_at-requires t c =
    let source = c.args.self.now.source.now in
    let deep = at_most stmts.the_size c.args.stmts.now c.loop-i.i c.index-stmts-i.result c.loop-i-test.true in
    let fits = stmt_fits source c.args.stmts.now c.loop-i.i c.index-stmts-i.result _ c.loop-i-test.true c.requires.fits in
    (grind (arith, the_lemmas, deep), omega (arith, fits, ap (λ s. length (statement_words (stmt_view source s))) c.index-stmts-i.is))

pub in_branches-in_branch-requires : goal.in_branches-in_branch-requires
in_branches-in_branch-requires t c =
    let source = c.args.self.now.source.now in
    let list = c.args.branches.now in
    let b = c.index-branches-i.result in
    let deep = at_most branches.the_size list c.loop-i.i b c.loop-i-test.true in
    let condition = condition_fits source list c.loop-i.i b _ c.loop-i-test.true c.requires.fits in
    let inside = block_fits source list c.loop-i.i b _ c.loop-i-test.true c.requires.fits in (
      grind (arith, the_lemmas, deep),
      (search rules, (omega (arith, condition, ap (λ x. length (expression_words (branch_view source x).0)) c.index-branches-i.is), omega (arith, inside, ap (λ x. length (block_words (branch_view source x).1)) c.index-branches-i.is))),
    )
