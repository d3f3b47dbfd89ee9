use Rattle.meson_steps.proofs.Words.{ap, ◌∙◌, Some, option_map, statement_span}
use Rattle.meson_steps.proofs.statements.statement_span.Goals as goal

pub returns-in-Some : goal.returns-in-Some
returns-in-Some c = λ source. ap Some (c.span_of_stmt.ensures source) ∙ ap (option_map statement_span) (c.in-Some.ensures source)

pub returns-in-None : goal.returns-in-None
returns-in-None c = λ source. ap (option_map statement_span) (c.in-None.ensures source)
