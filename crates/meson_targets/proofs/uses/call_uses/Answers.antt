use Rattle.meson_targets.proofs.Words.{◌≡◌, ◌∙◌, sym, ap, ◌&&◌, true, option_map, string_bytes, bytes_eq, text_at, list_view, is, first_literal, one_of}
use Rattle.meson_targets.proofs.Words.{variable_functions}
use Rattle.meson_calls.specs.ChosenNotes.{call_with}
use Rattle.meson_targets.proofs.uses.call_uses.Goals as goal

pub returns-in-Some : goal.returns-in-Some
returns-in-Some c =
    let name = c.args.name.now in
    let call = call_with (text_at c.args.source.now c.args.function) (list_view c.args.source.now c.args.arguments.now) in
    let is_it : one_of variable_functions call.function ≡ true = ap (one_of variable_functions) (sym c.text_of.ensures) ∙ sym c.names_variable.ensures ∙ c.if-not-names_variable.false in
    c.eq.ensures ∙ ap (bytes_eq name) c.as_bytes.ensures.value ∙ ap (λ o. is name (option_map string_bytes o)) (sym c.in-Some.is) ∙ ap (is name) (c.in_ok-text.ensures call.function)
    ∙ ap (λ b. b && is name (first_literal call)) (sym is_it)

pub returns-in-None : goal.returns-in-None
returns-in-None c =
    let name = c.args.name.now in
    let call = call_with (text_at c.args.source.now c.args.function) (list_view c.args.source.now c.args.arguments.now) in
    let is_it : one_of variable_functions call.function ≡ true = ap (one_of variable_functions) (sym c.text_of.ensures) ∙ sym c.names_variable.ensures ∙ c.if-not-names_variable.false in
    ap (λ o. is name (option_map string_bytes o)) (sym c.in-None.is) ∙ ap (is name) (c.in_ok-text.ensures call.function)
    ∙ ap (λ b. b && is name (first_literal call)) (sym is_it)
