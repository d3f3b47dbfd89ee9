use Rattle.std.proofs.Common.{arith}
use Rattle.std.proofs.lemmas.Grind.{common_steps}
use Rattle.meson_layout.specs.Statements.{appended}
use Rattle.meson_layout.proofs.statements.appended.Goals as goal

pub returns-clause-done : goal.returns-clause-done
unfolding appended
returns-clause-done c = grind (arith, common_steps)
