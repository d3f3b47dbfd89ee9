use Rattle.meson_command.specs.Program.{argument, code, command, default_options, history, kwargs, list, program, redo, target, undo}
use Rattle.meson_command.proofs.program.program.Goals as goal

pub returns : goal.returns
unfolding program
returns c = c.with_subcommand.ensures _ list (c.with_subcommand-program-9.ensures _ history (c.with_subcommand-program-8.ensures _ redo (c.with_subcommand-program-7.ensures _ undo (c.with_subcommand-program-6.ensures _ command (c.with_subcommand-program-5.ensures _ default_options (c.with_subcommand-program-4.ensures _ code (c.with_subcommand-program-3.ensures _ argument (c.with_subcommand-program-2.ensures _ kwargs (c.with_subcommand-program.ensures _ target (c.own_words.ensures) c.target.ensures) c.kwargs.ensures) c.argument.ensures) c.code.ensures) c.default_options.ensures) c.command.ensures) c.undo.ensures) c.redo.ensures) c.history.ensures) c.list.ensures
