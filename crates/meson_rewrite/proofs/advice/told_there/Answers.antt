use Rattle.std.proofs.Common.{◌∙◌, Some, ap, subst₂, sym}
use Rattle.meson_rewrite.proofs.CommandNumbers.{command_is_at, no_command_at}
use Rattle.meson_rewrite.specs.Advising.{IsTold, no_command, told}
use Rattle.meson_rewrite.proofs.advice.told_there.Goals as goal

pub returns-then-fault-commands : goal.returns-then-fault-commands
returns-then-fault-commands c = no_command (no_command_at c.args.commands.now c.args.fault.now.index c.if-fault-commands.true)

pub returns : goal.returns
returns c =
    let fault = c.args.fault.now in
    let command = c.index-commands-fault.result in
    let there = command_is_at c.args.commands.now fault.index command c.if-fault-commands.false ∙ ap Some (sym c.index-commands-fault.is) in
    subst₂ (IsTold c.args.flags c.args.project.now c.args.commands.now fault) (sym c.in_ok-subject.ensures) (sym c.in_ok-advice.ensures)
    (told command there c.perform_again.new.project c.in_ok-perform_again.ensures)
