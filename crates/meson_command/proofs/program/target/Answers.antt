use Rattle.meson_command.specs.Program.{target}
use Rattle.meson_command.proofs.program.target.Goals as goal

pub returns : goal.returns
unfolding target
returns c = c.with_help.ensures _ (c.with_flag-command.ensures _ (c.with_option-command.ensures _ (c.with_short_option-command.ensures _ (c.with_many-command.ensures _ (c.with_one-command-2.ensures _ (c.with_one-command.ensures _ (c.with_alias-command.ensures _ c.described-named.ensures)))))))
