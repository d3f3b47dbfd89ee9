use Rattle.std.proofs.Common.{◌∙◌, ap, sym}
use Rattle.std.specs.Prelude.{option_and_then}
use Rattle.meson_lex.specs.declared.kinds.Span.{Span}
use Rattle.meson_syntax.specs.inside.Children.{expression_any}
use Rattle.meson_syntax.specs.View.{view}
use Rattle.meson_syntax.proofs.PathNodes.{expression-reached}
use Rattle.meson_syntax.proofs.tree.Parsed.expr_at.Goals as goal

pub returns-in-Some : goal.returns-in-Some
returns-in-Some c = λ source.
    c.expr.ensures source ∙ ap (option_and_then expression_any) (c.in-Some.ensures source) ∙ sym (expression-reached Span (view source c.args.self.now) c.args.path.now.steps)

pub returns-in-None : goal.returns-in-None
returns-in-None c = λ source.
    ap (option_and_then expression_any) (c.in-None.ensures source) ∙ sym (expression-reached Span (view source c.args.self.now) c.args.path.now.steps)
