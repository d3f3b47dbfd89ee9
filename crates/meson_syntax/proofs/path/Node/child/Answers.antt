use Rattle.std.proofs.Common.{◌∙◌, ap, sym}
use Rattle.meson_syntax.specs.inside.Children.{option_of, expression_parts, statement_parts, node_view, child_nodes}
use Rattle.meson_syntax.specs.Paths.{nth}
use Rattle.meson_syntax.specs.View.{expr_view, stmt_view}
use Rattle.meson_syntax.proofs.Looks.{look-nth}
use Rattle.meson_syntax.proofs.path.Node.child.Goals as goal

pub returns-in-Expr : goal.returns-in-Expr
returns-in-Expr c = λ source.
    c.node.ensures source ∙ ap option_of (c.in_expr.ensures source) ∙ look-nth (expression_parts (expr_view source c.in-Expr.expr.now)) c.args.n
    ∙ sym (ap (λ x. nth (child_nodes (node_view source x)) c.args.n) c.in-Expr.is)

pub returns-in-Stmt : goal.returns-in-Stmt
returns-in-Stmt c = λ source.
    c.node-in-Stmt.ensures source ∙ ap option_of (c.in_stmt.ensures source) ∙ look-nth (statement_parts (stmt_view source c.in-Stmt.stmt.now)) c.args.n
    ∙ sym (ap (λ x. nth (child_nodes (node_view source x)) c.args.n) c.in-Stmt.is)

pub returns-in-Block : goal.returns-in-Block
returns-in-Block c = λ source. c.in_block.ensures source ∙ sym (ap (λ x. nth (child_nodes (node_view source x)) c.args.n) c.in-Block.is)
