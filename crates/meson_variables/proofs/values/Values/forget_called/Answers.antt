use Rattle.meson_variables.proofs.Words.{◌∙◌, sym, ap, if◌then◌else◌, None, option_map, string_bytes, bytes_eq, nat_list_eq_equiv, is, value_in}
use Rattle.meson_variables.proofs.values.Values.forget_called.Goals as goal

pub returns-in-Some : goal.returns-in-Some
returns-in-Some c = λ x.
    let before = value_in c.args.self.now x in
    c.forget.ensures x
    ∙ ap (λ b. if b then None else before)
    (nat_list_eq_equiv.symm c.as_bytes.result.now x
    ∙ ap (bytes_eq x) c.as_bytes.ensures.value
    ∙ ap (λ o. is x (option_map string_bytes o)) (sym c.in-Some.is)
    ∙ c.in_ok-name.ensures x)

pub returns-in-None : goal.returns-in-None
returns-in-None c = λ x.
    let before = value_in c.args.self.now x in
    ap (λ b. if b then None else before) (ap (λ o. is x (option_map string_bytes o)) (sym c.in-None.is) ∙ c.in_ok-name.ensures x)
