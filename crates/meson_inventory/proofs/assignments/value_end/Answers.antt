use Rattle.std.proofs.Common.{ℕ, Option, ap, sym, ◌∙◌}
use Rattle.std.specs.Prelude.{option_map}
use Rattle.std.specs.Option.{option_map_or}
use Rattle.meson_lex.specs.declared.kinds.Span.{Span}
use Rattle.meson_syntax.specs.Tree.{Expression}
use Rattle.meson_syntax.specs.View.{expr_view}
use Rattle.meson_edit.specs.Standing.{expression_span}
use Rattle.meson_inventory.proofs.assignments.value_end.Goals as goal

-- where the expression ends, if there is one
abbrev end : Option (Expression Span) → ℕ
end o = option_map_or (λ (e : Expression Span). (expression_span {S = Span} e).to) o 0

pub returns-in-Some : goal.returns-in-Some
returns-in-Some c = λ source.
    ap (λ (s : Span). s.to) (c.span_of.ensures source) ∙ ap (λ o. end (option_map (λ e. expr_view source e.now) o)) (sym c.in-Some.is) ∙ ap end (c.expr_at.ensures source)

pub returns-in-None : goal.returns-in-None
returns-in-None c = λ source. ap (λ o. end (option_map (λ e. expr_view source e.now) o)) (sym c.in-None.is) ∙ ap end (c.expr_at.ensures source)
