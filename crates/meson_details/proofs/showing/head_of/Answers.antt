use Rattle.std.proofs.Common.{ℕ, List, Option, Some, sym, ap, subst, ◌∙◌}
use Rattle.std.specs.Prelude.{Bool}
use Rattle.meson_lex.specs.Kinds.{IsIdentifier}
use Rattle.meson_syntax.specs.View.{list_view, text_at}
use Rattle.meson_calls.specs.ChosenNotes.{call_with}
use Rattle.meson_details.specs.Details.{is_hidden}
use Rattle.meson_details.specs.declared.details.Head.{Head}
use Rattle.meson_details.proofs.showing.head_of.Goals as goal

abbrev head_with : ℕ → List ℕ → Bool → Option (List ℕ) → Option Head
head_with at function hidden name = Some (record { at = at; function = function; hidden = hidden; name = name })

pub name_text-requires : goal.name_text-requires
name_text-requires c = subst IsIdentifier (sym c.text_of.ensures) c.requires.named

pub returns : goal.returns
returns c =
    let called = c.args.called in
    let text = text_at called.source.now called.name in
    let at = called.span.from in
    let hidden = is_hidden (call_with text (list_view called.source.now called.arguments.now)) in
    sym (ap (λ f. head_with at f c.is_hidden.result c.in_ok-name.name) (c.in_ok-function.ensures ∙ c.text_of.ensures)
    ∙ ap (λ b. head_with at text b c.in_ok-name.name) (c.is_hidden.ensures text)
    ∙ ap (λ n. head_with at text hidden n) (c.in_ok-name.ensures text))
