use Rattle.meson_command.specs.Program.{undo}
use Rattle.meson_command.proofs.program.undo.Goals as goal

pub returns : goal.returns
unfolding undo
returns c = c.with_help.ensures _ (c.with_option-command-2.ensures _ (c.with_option-command.ensures _ (c.described.ensures)))
