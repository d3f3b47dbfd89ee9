use Rattle.meson_command.specs.Program.{default_options}
use Rattle.meson_command.proofs.program.default_options.Goals as goal

pub returns : goal.returns
unfolding default_options
returns c = c.with_help.ensures _ (c.with_many-command.ensures _ (c.with_one-command.ensures _ (c.with_alias-command.ensures _ c.described-named.ensures)))
