use Rattle.meson_command.specs.Program.{kwargs}
use Rattle.meson_command.proofs.program.kwargs.Goals as goal

pub returns : goal.returns
unfolding kwargs
returns c = c.with_help.ensures _ (c.with_many-command.ensures _ (c.with_one-command-3.ensures _ (c.with_one-command-2.ensures _ (c.with_one-command.ensures _ (c.described.ensures)))))
