use Rattle.meson_variables.proofs.Words.{◌∙◌, sym, ap, option_copied, option_flatten, looked_up}
use Rattle.meson_variables.proofs.values.Values.of.Goals as goal

pub returns-in-Some : goal.returns-in-Some
returns-in-Some c = ap (λ o. option_flatten (looked_up o)) (ap option_copied (sym c.in-Some.is) ∙ c.get.ensures.value)

pub returns-in-None : goal.returns-in-None
returns-in-None c = ap (λ o. option_flatten (looked_up o)) (ap option_copied (sym c.in-None.is) ∙ c.get.ensures.value)
