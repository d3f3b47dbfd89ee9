use Rattle.std.proofs.Common.{rules, ◌∙◌, length, refl, ap, arith}
use Rattle.meson_lex.specs.declared.kinds.Span.{Span}
use Rattle.meson_syntax.specs.declared.tree.Stmt.TheFolds.{the_lemmas}
use Rattle.meson_syntax.specs.Paths.{of_block, of_statement, statement_children}
use Rattle.meson_syntax.specs.Tree.{assign, evaluate, iteration}
use Rattle.meson_syntax.specs.View.{block_view, expr_view, list_view, name_at, names_at, otherwise_view, stmt_view}
use Rattle.meson_syntax.proofs.PutViews.{put-head, put-one, put-second, put-step}
use Rattle.meson_syntax.proofs.PutStatements.{assign-view, evaluate-view, iteration-view, selection-view, put-in-block, none-in-block, put-branch, no-branch, put-in-condition, put-in-branch-block, put-in-branches, put-in-otherwise, put-in-else}
use Rattle.meson_syntax.proofs.list_mut.+put_statement.Goals as goal

-- ---- below a statement

pub put_below_stmt-returns-in-Expr : goal.put_below_stmt-returns-in-Expr
put_below_stmt-returns-in-Expr t c = λ source.
    put-one (stmt_view source) statement_children c.args.steps.now (list_view source c.args.list.now) (list_view source c.put_in_only.new.list) c.args.n
    c.args.stmt.now _ _ _ evaluate _ _ _
    (ap (expr_view source) c.in-Expr.value-is) (ap (stmt_view source) c.in-Expr.is ∙ evaluate-view source _) (search (rules, the_lemmas)) refl
    (c.put_in_only.ensures source)

pub put_below_stmt-returns-in-Assign : goal.put_below_stmt-returns-in-Assign
put_below_stmt-returns-in-Assign t c = λ source.
    put-one (stmt_view source) statement_children c.args.steps.now (list_view source c.args.list.now) (list_view source c.put_in_only-in-Assign.new.list)
    c.args.n c.args.stmt.now _ _ _
    (assign c.in-Assign.span (name_at source c.in-Assign.name) c.in-Assign.assignment) _ _ _
    (ap (expr_view source) c.in-Assign.value-is) (ap (stmt_view source) c.in-Assign.is ∙ assign-view source _ _ _ _) (search (rules, the_lemmas)) refl
    (c.put_in_only-in-Assign.ensures source)

pub put_below_stmt-returns-then-n-count : goal.put_below_stmt-returns-then-n-count
put_below_stmt-returns-then-n-count t c = λ source.
    let i = c.in-If in
    let many = ap length c.get-count.ensures in
    put-in-branches source c.args.steps.now (list_view source c.args.list.now) (list_view source c.put_in_branches.new.list) c.args.n c.args.stmt.now _
    i.span _ i.branches c.put_in_branches.new.all
    (otherwise_view source i.otherwise) i.branches-is (ap (stmt_view source) i.is ∙ selection-view source i.span i.branches i.otherwise)
    (search (rules, the_lemmas))
    (omega (arith, many, c.if-n-count.true)) (c.put_in_branches.ensures source _)

pub put_below_stmt-returns-else-n-count : goal.put_below_stmt-returns-else-n-count
put_below_stmt-returns-else-n-count t c = λ source.
    let i = c.in-If in
    let many = ap length (c.get-count.ensures ∙ i.branches-is) in
    put-in-otherwise source c.args.steps.now (list_view source c.args.list.now) (list_view source c.put_in_otherwise.new.list) c.args.n _ c.args.stmt.now _
    i.span i.branches _
    (otherwise_view source i.otherwise) (otherwise_view source c.put_in_otherwise.new.otherwise) (ap (otherwise_view source) i.otherwise-is)
    (ap (stmt_view source) i.is ∙ selection-view source i.span i.branches i.otherwise) (search (rules, the_lemmas))
    (omega (arith, many, c.if-n-count.false)) (c.put_in_otherwise.ensures source)

pub put_below_stmt-returns-then-n-eq0 : goal.put_below_stmt-returns-then-n-eq0
put_below_stmt-returns-then-n-eq0 t c = λ source.
    put-head (stmt_view source) statement_children c.args.steps.now (list_view source c.args.list.now) (list_view source c.put_in_expr.new.list) c.args.n
    c.args.stmt.now _ _ _
    (λ x. iteration c.in-Foreach.span (names_at source c.in-Foreach.names) x (block_view source c.in-Foreach.body)) _ _ _ _
    (ap (expr_view source) c.in-Foreach.items-is) (ap (stmt_view source) c.in-Foreach.is ∙ iteration-view source _ _ _ _) (search (rules, the_lemmas)) refl
    c.if-n-eq0.true (c.put_in_expr.ensures source)

pub put_below_stmt-returns-then-n-eq1 : goal.put_below_stmt-returns-then-n-eq1
put_below_stmt-returns-then-n-eq1 t c = λ source.
    put-second (stmt_view source) statement_children c.args.steps.now (list_view source c.args.list.now) (list_view source c.put_in_block.new.list) c.args.n
    c.args.stmt.now _ of_block _ _
    (iteration c.in-Foreach.span (names_at source c.in-Foreach.names) (expr_view source c.in-Foreach.items)) _ _ _ _ _
    (ap (block_view source) c.in-Foreach.body-is) (ap (stmt_view source) c.in-Foreach.is ∙ iteration-view source _ _ _ _) (search (rules, the_lemmas)) refl
    c.if-n-eq1.true (c.put_in_block.ensures source)

-- ---- branches

pub put_in_branch-returns-then-n-eq0 : goal.put_in_branch-returns-then-n-eq0
put_in_branch-returns-then-n-eq0 t c = λ source.
    put-in-condition source c.args.steps.now _ _ c.args.branch.now c.put_in_expr.new.expr c.args.n c.if-n-eq0.true (c.put_in_expr.ensures source)

pub put_in_branch-returns-then-n-eq1 : goal.put_in_branch-returns-then-n-eq1
put_in_branch-returns-then-n-eq1 t c = λ source.
    put-in-branch-block source c.args.steps.now _ _ c.args.branch.now c.put_in_block.new.block c.args.n c.if-n-eq1.true (c.put_in_block.ensures source)

pub put_in_branches-returns-then-n-branches : goal.put_in_branches-returns-then-n-branches
put_in_branches-returns-then-n-branches t c = λ source word.
    put-branch source c.args.steps.now _ _ word c.args.n c.args.all.now c.get_mut-branches.result.now c.index-branches-n.result c.put_in_branch.new.branch
    c.get_mut-branches.ensures.value
    c.if-n-branches.true (c.put_in_branch.ensures source)

pub put_in_branches-returns-else-n-branches : goal.put_in_branches-returns-else-n-branches
put_in_branches-returns-else-n-branches t c = λ source word.
    let list = list_view source c.args.list.now in
    no-branch source c.args.steps.now list list word c.args.n c.args.all.now c.get_mut-branches.result.now c.get_mut-branches.ensures.value
    c.if-n-branches.false

pub put_in_otherwise-returns-in-Some : goal.put_in_otherwise-returns-in-Some
put_in_otherwise-returns-in-Some t c = λ source.
    put-in-else source c.args.steps.now (list_view source c.args.list.now) (list_view source c.put_in_block.new.list) c.args.n c.args.otherwise.now _ _
    c.in-Some.block c.put_in_block.new.block
    c.in-Some.is (search (rules, the_lemmas)) c.if-n-eq0.true c.in-Some.block-is (c.put_in_block.ensures source)

-- ---- blocks

pub put_in_statements-returns-then-n-statements : goal.put_in_statements-returns-then-n-statements
put_in_statements-returns-then-n-statements t c = λ source.
    put-in-block source c.args.steps.now _ _ c.args.n c.args.block.now c.get_mut-statements.result.now c.index-statements-n.result c.put_in_stmt.new.stmt
    c.get_mut-statements.ensures.value
    c.if-n-statements.true (c.put_in_stmt.ensures source)

pub put_in_statements-returns-else-n-statements : goal.put_in_statements-returns-else-n-statements
put_in_statements-returns-else-n-statements t c = λ source.
    let list = list_view source c.args.list.now in
    none-in-block source c.args.steps.now list list c.args.n c.args.block.now c.get_mut-statements.result.now c.get_mut-statements.ensures.value
    c.if-n-statements.false

-- ---- steps of a path

pub put_in_block-returns-in-len1-up : goal.put_in_block-returns-in-len1-up
put_in_block-returns-in-len1-up t c = λ source.
    c.put_in_statements.ensures source
    ∙ put-step Span of_block (block_view source c.args.block.now) c.args.steps.now (list_view source c.args.list.now) c.in-len1-up.len_at_least

pub put_in_stmt-returns-in-len1-up : goal.put_in_stmt-returns-in-len1-up
put_in_stmt-returns-in-len1-up t c = λ source.
    c.put_below_stmt.ensures source
    ∙ put-step Span of_statement (stmt_view source c.args.stmt.now) c.args.steps.now (list_view source c.args.list.now) c.in-len1-up.len_at_least
