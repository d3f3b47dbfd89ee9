use Rattle.meson_command.specs.Program.{code}
use Rattle.meson_command.proofs.program.code.Goals as goal

pub returns : goal.returns
unfolding code
returns c = c.with_help.ensures _ (c.with_flag-command.ensures _ (c.with_option-command.ensures _ (c.with_optional-command.ensures _ (c.with_one-command-2.ensures _ (c.with_ending-command.ensures _ (c.with_one-command.ensures _ (c.described.ensures)))))))
