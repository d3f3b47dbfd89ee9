use Rattle.std.proofs.Common.{arith}
use Rattle.std.proofs.lemmas.Grind.{common_steps}
use Rattle.meson_lex.proofs.escapes.escape.Goals as goal

pub returns-in_default : goal.returns-in_default
returns-in_default c = grind (arith, common_steps)

pub octal_escape-requires-clause-few : goal.octal_escape-requires-clause-few
octal_escape-requires-clause-few c = grind (arith, common_steps)

pub octal_escape-requires-clause-each : goal.octal_escape-requires-clause-each
octal_escape-requires-clause-each c = grind (arith, common_steps)

pub returns-then-is_octal : goal.returns-then-is_octal
returns-then-is_octal c = grind (arith, common_steps)

pub hexadecimal_escape-requires-clause-small : goal.hexadecimal_escape-requires-clause-small
hexadecimal_escape-requires-clause-small c = grind (arith, common_steps)

pub hexadecimal_escape-requires-clause-each : goal.hexadecimal_escape-requires-clause-each
hexadecimal_escape-requires-clause-each c = grind (arith, common_steps)

pub hexadecimal_escape-requires-in-117-clause-small : goal.hexadecimal_escape-requires-in-117-clause-small
hexadecimal_escape-requires-in-117-clause-small c = grind (arith, common_steps)

pub hexadecimal_escape-requires-in-117-clause-each : goal.hexadecimal_escape-requires-in-117-clause-each
hexadecimal_escape-requires-in-117-clause-each c = grind (arith, common_steps)

pub hexadecimal_escape-requires-in-85-clause-small : goal.hexadecimal_escape-requires-in-85-clause-small
hexadecimal_escape-requires-in-85-clause-small c = grind (arith, common_steps)

pub hexadecimal_escape-requires-in-85-clause-each : goal.hexadecimal_escape-requires-in-85-clause-each
hexadecimal_escape-requires-in-85-clause-each c = grind (arith, common_steps)

pub returns-in-120 : goal.returns-in-120
returns-in-120 c = grind (arith, common_steps)

pub returns-in-117 : goal.returns-in-117
returns-in-117 c = grind (arith, common_steps)

pub returns-in-85 : goal.returns-in-85
returns-in-85 c = grind (arith, common_steps)

pub returns-in-78 : goal.returns-in-78
returns-in-78 c = grind (arith, common_steps)

pub returns-in_default-letter : goal.returns-in_default-letter
returns-in_default-letter c = grind (arith, common_steps)
