use Rattle.meson_command.specs.Program.{history}
use Rattle.meson_command.proofs.program.history.Goals as goal

pub returns : goal.returns
unfolding history
returns c = c.with_help.ensures _ (c.with_option-command.ensures _ (c.described.ensures))
