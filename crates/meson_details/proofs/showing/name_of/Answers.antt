use Rattle.std.proofs.Common.{Some, string_bytes, sym, ap, ◌∙◌}
use Rattle.std.specs.Prelude.{option_map}
use Rattle.meson_details.proofs.showing.name_of.Goals as goal

pub returns-in-Some : goal.returns-in-Some
returns-in-Some c = λ function. ap Some c.of.ensures ∙ ap (option_map string_bytes) (sym c.in-Some.is) ∙ c.in_ok-text.ensures function

pub returns-in-None : goal.returns-in-None
returns-in-None c = λ function. ap (option_map string_bytes) (sym c.in-None.is) ∙ c.in_ok-text.ensures function
