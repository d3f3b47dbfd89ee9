use Rattle.meson_command.proofs.ReadCode.{of-no-text, of-text}
use Rattle.meson_command.proofs.input.text_of.Goals as goal

pub returns-in_ok-copy-in-Ok : goal.returns-in_ok-copy-in-Ok
returns-in_ok-copy-in-Ok c = of-text c.args.bytes.now _ _ c.in-Ok.ensures.cases.0 c.in-Ok.ensures.cases.1 c.in_ok-copy-in-Ok.ensures.ok

pub returns-in-Err : goal.returns-in-Err
returns-in-Err c = of-no-text c.args.bytes.now c.in-Err.ensures.cases.0
