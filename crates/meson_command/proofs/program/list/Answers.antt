use Rattle.meson_command.specs.Program.{list}
use Rattle.meson_command.proofs.program.list.Goals as goal

pub returns : goal.returns
unfolding list
returns c = c.with_help.ensures _ (c.with_flag-command-2.ensures _ (c.with_flag-command.ensures _ (c.with_option-command.ensures _ (c.described.ensures))))
