use Rattle.std.proofs.Common.{◌∙◌, Some, ap, sym}
use Rattle.meson_rewrite.specs.Warnings.{no_warnings, run_of, with_gathered}
use Rattle.meson_rewrite.proofs.warnings.warnings_for.Goals as goal

pub returns-in-Ok : goal.returns-in-Ok
returns-in-Ok c = with_gathered c.get.result.now c.in-Ok.warnings (ap run_of c.in-Run.is ∙ ap Some (sym c.get.ensures)) c.if-flags.true c.in-Ok.ensures

pub returns-in-Err : goal.returns-in-Err
returns-in-Err c = no_warnings

pub returns-in_default : goal.returns-in_default
returns-in_default c = no_warnings
