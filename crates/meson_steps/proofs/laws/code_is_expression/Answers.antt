use Rattle.meson_steps.proofs.CodeDecided as decided
use Rattle.meson_steps.proofs.laws.code_is_expression.Goals as goal

pub returns : goal.returns
returns c = decided.code_is_expression
