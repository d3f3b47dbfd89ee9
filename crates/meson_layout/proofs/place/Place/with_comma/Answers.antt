use Rattle.std.proofs.Common.{arith}
use Rattle.std.proofs.lemmas.Grind.{common_steps}
use Rattle.meson_layout.proofs.Texts.{line_joined_comma}
use Rattle.meson_layout.proofs.place.Place.with_comma.Goals as goal

pub returns-clause-done : goal.returns-clause-done
returns-clause-done c = grind (arith, common_steps, line_joined_comma)
