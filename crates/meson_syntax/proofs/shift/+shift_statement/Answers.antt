use Rattle.std.proofs.Common.{rules, ◌≡◌, ◌<◌, map, option_map, length, ap, ◌∙◌, arith}
use denote.Param.Weighed.{at_most}
use Rattle.meson_syntax.proofs.tree.Stmt.TheLaws as stmts
use Rattle.meson_syntax.proofs.tree.Branch.TheLaws as branches
use Rattle.meson_syntax.specs.Furthest.{furthest_branch, furthest_stmt}
use Rattle.meson_syntax.specs.MovedCode.{moved_block, moved_branch, moved_expr, moved_stmt}
use Rattle.meson_syntax.specs.Moving.{span_by, border_by}
use Rattle.meson_syntax.proofs.InPlace.{at_most_greatest, next_exchanged}
use Rattle.meson_syntax.proofs.Moved.{written_back}
use Rattle.meson_syntax.proofs.MovedStatements.{moved_if, moved_foreach}
use Rattle.meson_syntax.proofs.shift.+shift_statement.Goals as goal

-- ---- statements

pub shift_stmt-returns-in-If : goal.shift_stmt-returns-in-If
shift_stmt-returns-in-If t c =
    let g = border_by c.args.by in
    moved_if g c.args.stmt.now c.in-If.span _ c.in-If.branches _ c.in-If.otherwise _ c.in-If.is
    (c.shift-in-If.ensures ∙ ap (span_by g) c.in-If.span-is)
    (written_back (moved_branch g) _ c.shift_branches.new.branches (c.shift_branches.ensures ∙ ap (map (moved_branch g)) c.get_mut.ensures.value)
    ∙ ap (map (moved_branch g)) c.in-If.branches-is)
    (c.shift_otherwise.ensures ∙ ap (option_map (moved_block g)) c.in-If.otherwise-is)

pub shift_stmt-returns-in-Foreach : goal.shift_stmt-returns-in-Foreach
shift_stmt-returns-in-Foreach t c =
    let g = border_by c.args.by in
    moved_foreach g c.args.stmt.now c.in-Foreach.span _ c.in-Foreach.names _ c.in-Foreach.items _ c.in-Foreach.body _ c.in-Foreach.is
    (c.shift-in-Foreach.ensures ∙ ap (span_by g) c.in-Foreach.span-is)
    (written_back (span_by g) _ c.shift_spans.new.spans (c.shift_spans.ensures ∙ ap (map (span_by g)) c.get_mut-in-Foreach.ensures.value)
    ∙ ap (map (span_by g)) c.in-Foreach.names-is)
    (c.shift_expr-in-Foreach.ensures ∙ ap (moved_expr g) c.in-Foreach.items-is)
    (c.shift_block.ensures ∙ ap (moved_block g) c.in-Foreach.body-is)

-- ---- lists

pub shift_stmts-shift_stmt-requires : goal.shift_stmts-shift_stmt-requires
shift_stmts-shift_stmt-requires t c =
    let list = c.args.stmts.now in
    let i = c.loop-i.i in
    let d = c.index-stmts-i.result in
    let here = c.loop-i.invariant.0.1 i d (omega arith) in
    let within : i < length list = search rules in
    let deep = at_most stmts.the_size list i d within in
    let size = ap stmts.the_size here in
    let far = at_most_greatest furthest_stmt list c.loop-i.stmts i d within here in
    (omega (arith, deep, size, c.decreases), omega (arith, far, c.requires))

pub shift_stmts-loop-i-preserved : goal.shift_stmts-loop-i-preserved
shift_stmts-loop-i-preserved t c =
    let list = c.args.stmts.now in
    let i = c.loop-i.i in
    let within : i < length list = search rules in
    let as_many : length c.loop-i.stmts ≡ length list = search rules in
    let move = moved_stmt (border_by c.args.by) in
    (search rules, next_exchanged move list c.loop-i.stmts i c.index-stmts-i.result _ within as_many c.loop-i.invariant.1 c.shift_stmt.ensures)

pub shift_branches-shift_branch-requires : goal.shift_branches-shift_branch-requires
shift_branches-shift_branch-requires t c =
    let list = c.args.branches.now in
    let i = c.loop-i.i in
    let d = c.index-branches-i.result in
    let here = c.loop-i.invariant.0.1 i d (omega arith) in
    let within : i < length list = search rules in
    let deep = at_most branches.the_size list i d within in
    let size = ap branches.the_size here in
    let far = at_most_greatest furthest_branch list c.loop-i.branches i d within here in
    (omega (arith, deep, size, c.decreases), omega (arith, far, c.requires))

pub shift_branches-loop-i-preserved : goal.shift_branches-loop-i-preserved
shift_branches-loop-i-preserved t c =
    let list = c.args.branches.now in
    let i = c.loop-i.i in
    let within : i < length list = search rules in
    let as_many : length c.loop-i.branches ≡ length list = search rules in
    let move = moved_branch (border_by c.args.by) in
    (search rules, next_exchanged move list c.loop-i.branches i c.index-branches-i.result _ within as_many c.loop-i.invariant.1 c.shift_branch.ensures)
