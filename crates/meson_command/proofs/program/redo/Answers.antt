use Rattle.meson_command.specs.Program.{redo}
use Rattle.meson_command.proofs.program.redo.Goals as goal

pub returns : goal.returns
unfolding redo
returns c = c.with_help.ensures _ (c.described.ensures)
