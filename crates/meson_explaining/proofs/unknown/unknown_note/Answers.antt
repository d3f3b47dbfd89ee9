use Rattle.std.proofs.Common.{◌≡◌, ℕ, List, Some, rules, sym, ap, ap₂, ◌∙◌}
use Rattle.std.specs.Prelude.{option_map}
use Rattle.meson_lex.specs.declared.kinds.Span.{Span}
use Rattle.meson_edit.specs.Standing.{expression_span}
use Rattle.meson_syntax.specs.View.{expr_view}
use Rattle.meson_variables.specs.CodeVariables.{project_of}
use Rattle.meson_explaining.specs.Unknown.{unknown_words}
use Rattle.meson_explaining.specs.declared.explanation.Note.{Note}
use Rattle.meson_explaining.proofs.unknown.unknown_note.Goals as goal

pub returns : goal.returns
returns c =
    let e = expr_view c.args.sought.source.now c.args.expr.now in
    let made = λ (s : Span) (t : List ℕ). let n : Note = record { spot = Some (record { file = c.args.sought.file; at = s.from; end = s.to }); text = t } in n in
    let words : Some c.in-Some.words.now ≡ unknown_words (project_of c.args.variables.now) e = ap (option_map (λ w. w.now)) (sym c.in-Some.is) ∙ c.in_ok-words.ensures in
    let text : c.of.result ≡ c.in-Some.words.now = search rules in
    ap₂ (λ s t. Some (made s t)) (c.span_of-span.ensures c.args.sought.source.now) text ∙ ap (option_map (made (expression_span e))) words
