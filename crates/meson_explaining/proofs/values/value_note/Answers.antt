use Rattle.std.proofs.Common.{ℕ, List, ◌++◌, sym, ap, ap₂, ◌∙◌, subst}
use Rattle.std.specs.Prelude.{Some, codes}
use Rattle.std.specs.Str.{IsUtf8}
use Rattle.meson_lex.specs.declared.kinds.Span.{Span}
use Rattle.meson_syntax.specs.View.{text_at}
use Rattle.meson_explaining.specs.declared.explanation.Note.{Note}
use Rattle.meson_explaining.specs.Values.{start_of}
use Rattle.meson_explaining.proofs.values.value_note.Goals as goal

abbrev noted : ℕ → Span → List ℕ → Note
noted file span text = record { spot = Some (record { file = file; at = span.from; end = span.to }); text = text }

pub text_of_name-requires : goal.text_of_name-requires
text_of_name-requires c =
    let source = c.args.source.now in
    subst IsUtf8 (sym (c.text_of.ensures ∙ ap (text_at source) (c.span_of-span.ensures source))) c.requires

pub returns : goal.returns
returns c =
    let source = c.args.source.now in
    let is = c.in_ok-text.ensures ∙ c.text_of.ensures ∙ ap (text_at source) (c.span_of-span.ensures source) in
    let start = c.in_ok-start.ensures ∙ ap start_of (c.get.ensures ∙ is) in
    let text = c.of.ensures ∙ c.in_ok-text-2.ensures.ok ∙ ap (λ t. c.args.key.now ++ (codes ": " ++ t)) start in
    ap₂ (noted c.args.file) (c.span_of-span.ensures source) text
