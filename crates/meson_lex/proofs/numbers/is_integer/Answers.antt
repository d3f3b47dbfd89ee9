use Rattle.std.proofs.Common.{arith}
use Rattle.std.proofs.lemmas.Grind.{common_steps}
use Rattle.meson_lex.proofs.numbers.is_integer.Goals as goal

pub returns-in-empty : goal.returns-in-empty
returns-in-empty c = grind (arith, common_steps)

pub returns-then-is_after_zero : goal.returns-then-is_after_zero
returns-then-is_after_zero c = grind (arith, common_steps)

pub returns-then-first-le57 : goal.returns-then-first-le57
returns-then-first-le57 c = grind (arith, common_steps)

pub returns-else-first-le57 : goal.returns-else-first-le57
returns-else-first-le57 c = grind (arith, common_steps)
