use Rattle.meson_steps.proofs.Words.{ap, ◌∙◌, sym, stmt_view, statement_span}
use Rattle.meson_steps.proofs.StatementsThere.{evaluate_view}
use Rattle.meson_steps.proofs.statements.span_of_stmt.Goals as goal

pub returns-in-Expr : goal.returns-in-Expr
returns-in-Expr c = λ source. c.span_of.ensures source ∙ sym (ap (λ s. statement_span (stmt_view source s)) c.in-Expr.is ∙ ap statement_span (evaluate_view source c.in-Expr.value))
