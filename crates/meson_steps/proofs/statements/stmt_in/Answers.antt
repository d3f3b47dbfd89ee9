use Rattle.meson_steps.proofs.Words.{ap, ◌∙◌, Some, stmt_view}
use Rattle.meson_steps.proofs.StatementsThere.{statement_here, statement_past}
use Rattle.meson_steps.proofs.statements.stmt_in.Goals as goal

pub returns-then-n-stmts : goal.returns-then-n-stmts
returns-then-n-stmts c = λ source.
    ap (λ s. Some (stmt_view source s)) c.index-stmts-n.is ∙ statement_here source c.args.block.now c.get-stmts.result.now c.get-stmts.ensures c.args.n c.index-stmts-n.result c.if-n-stmts.true

pub returns-else-n-stmts : goal.returns-else-n-stmts
returns-else-n-stmts c = λ source. statement_past source c.args.block.now c.get-stmts.result.now c.get-stmts.ensures c.args.n c.if-n-stmts.false
