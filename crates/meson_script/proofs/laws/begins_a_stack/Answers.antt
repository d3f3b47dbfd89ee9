use Rattle.meson_script.proofs.StackFacts.{begins-a-stack}
use Rattle.meson_script.proofs.laws.begins_a_stack.Goals as goal

pub returns : goal.returns
returns c = begins-a-stack
