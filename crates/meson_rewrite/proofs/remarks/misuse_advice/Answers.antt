use Rattle.std.proofs.Common.{◌∙◌, sym}
use Rattle.meson_rewrite.specs.Remarks.{no_memory, not_asked, ran_out, told_more}
use Rattle.meson_rewrite.proofs.remarks.misuse_advice.Goals as goal

pub returns-in-OutOfMemory : goal.returns-in-OutOfMemory
returns-in-OutOfMemory c = no_memory c.in-OutOfMemory.is

pub returns-in-Ok : goal.returns-in-Ok
returns-in-Ok c = told_more c.in-Ok.advice (sym c.asks_to_explain.ensures ∙ c.if-asks_to_explain.true) c.in_default.not-OutOfMemory c.in-Ok.ensures

pub returns-in-Err : goal.returns-in-Err
returns-in-Err c = ran_out (sym c.asks_to_explain.ensures ∙ c.if-asks_to_explain.true) c.in_default.not-OutOfMemory

pub returns-in_default-2 : goal.returns-in_default-2
returns-in_default-2 c = not_asked (sym c.asks_to_explain.ensures ∙ c.if-asks_to_explain.false)
