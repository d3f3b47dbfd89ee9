use Rattle.std.proofs.Common.{arith}
use Rattle.std.proofs.lemmas.Grind.{common_steps}
use Rattle.meson_lex.proofs.strings.opens.Goals as goal

pub returns-in-empty : goal.returns-in-empty
returns-in-empty c = grind (arith, common_steps)

pub returns-in-Some-MultilineString : goal.returns-in-Some-MultilineString
returns-in-Some-MultilineString c = grind (arith, common_steps)

pub returns-in-Some : goal.returns-in-Some
returns-in-Some c = grind (arith, common_steps)

pub returns-in-None : goal.returns-in-None
returns-in-None c = grind (arith, common_steps)

pub returns-else-b-eq102 : goal.returns-else-b-eq102
returns-else-b-eq102 c = grind (arith, common_steps)
