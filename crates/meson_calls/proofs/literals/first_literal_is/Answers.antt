use Rattle.meson_calls.proofs.Words.{option_map, string_bytes, bytes_eq, ◌∙◌, sym, ap, is}
use Rattle.meson_calls.proofs.literals.first_literal_is.Goals as goal

pub returns-in-Some : goal.returns-in-Some
returns-in-Some c = λ function.
    c.eq.ensures ∙ ap (bytes_eq c.args.text.now) c.as_str.ensures.value
    ∙ sym (ap (λ o. is c.args.text.now (option_map string_bytes o)) c.in-Some.is)
    ∙ ap (is c.args.text.now) (c.in_ok-found.ensures function)

pub returns-in-None : goal.returns-in-None
returns-in-None c = λ function. sym (ap (λ o. is c.args.text.now (option_map string_bytes o)) c.in-None.is) ∙ ap (is c.args.text.now) (c.in_ok-found.ensures function)
