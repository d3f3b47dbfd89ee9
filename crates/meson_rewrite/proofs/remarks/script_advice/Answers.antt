use Rattle.meson_rewrite.specs.Remarks.{no_memory_of_it, not_asked_of_it, ran_out_of_it, told_of_it}
use Rattle.meson_rewrite.proofs.remarks.script_advice.Goals as goal

pub returns-in-OutOfMemory : goal.returns-in-OutOfMemory
returns-in-OutOfMemory c = no_memory_of_it c.in-OutOfMemory.is

pub returns-in-Ok : goal.returns-in-Ok
returns-in-Ok c = told_of_it c.in-Ok.advice c.if-flags.true c.in_default.not-OutOfMemory c.in-Ok.ensures

pub returns-in-Err : goal.returns-in-Err
returns-in-Err c = ran_out_of_it c.if-flags.true c.in_default.not-OutOfMemory

pub returns-in_default-2 : goal.returns-in_default-2
returns-in_default-2 c = not_asked_of_it c.if-flags.false
