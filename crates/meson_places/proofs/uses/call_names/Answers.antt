use Rattle.std.proofs.Common.{◌≡◌, None, sym, ap, ◌∙◌}
use Rattle.std.specs.Prelude.{true, ◌&&◌, bytes_eq, option_map, string_bytes}
use Rattle.meson_syntax.specs.View.{list_view, text_at}
use Rattle.meson_calls.specs.Calls.{first_literal}
use Rattle.meson_calls.specs.ChosenNotes.{call_with}
use Rattle.meson_calls.specs.Roles.{one_of}
use Rattle.meson_places.specs.Uses.{literal_names, variable_functions}
use Rattle.meson_places.proofs.uses.call_names.Goals as goal

pub returns-in-Some : goal.returns-in-Some
returns-in-Some c =
    let name = c.args.name.now in
    let f = text_at c.args.source.now c.args.function in
    let call = call_with f (list_view c.args.source.now c.args.arguments.now) in
    let takes : one_of variable_functions f ≡ true = ap (one_of variable_functions) (sym c.text_of-function.ensures) ∙ sym c.takes_name.ensures ∙ c.if-not-takes_name.false in
    c.eq.ensures ∙ ap (bytes_eq name) c.as_bytes.ensures.value ∙ ap (λ o. literal_names name f (option_map string_bytes o)) (sym c.in-Some.is)
    ∙ ap (literal_names name f) (c.in_ok-text.ensures f) ∙ ap (λ b. b && literal_names name f (first_literal call)) (sym takes)

pub returns-in-None : goal.returns-in-None
returns-in-None c =
    let name = c.args.name.now in
    let f = text_at c.args.source.now c.args.function in
    let call = call_with f (list_view c.args.source.now c.args.arguments.now) in
    let takes : one_of variable_functions f ≡ true = ap (one_of variable_functions) (sym c.text_of-function.ensures) ∙ sym c.takes_name.ensures ∙ c.if-not-takes_name.false in
    c.eq-in-None.ensures ∙ ap (bytes_eq c.text_of-function.result.now) c.as_slice.ensures ∙ ap (λ g. literal_names name g None) c.text_of-function.ensures ∙ ap (λ o. literal_names name f (option_map string_bytes o)) (sym c.in-None.is)
    ∙ ap (literal_names name f) (c.in_ok-text.ensures f) ∙ ap (λ b. b && literal_names name f (first_literal call)) (sym takes)
