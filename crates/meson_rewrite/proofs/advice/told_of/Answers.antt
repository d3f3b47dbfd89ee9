use Rattle.std.proofs.Common.{◌≡◌, ◌∙◌, false, sym}
use Rattle.meson_rewrite.specs.Advising.{no_memory, not_asked}
use Rattle.meson_rewrite.proofs.advice.told_of.Goals as goal
use Rattle.meson_rewrite.proofs.advice.told_of.Goals.{then-flags, else-flags}

pub returns-in-OutOfMemory : goal.returns-in-OutOfMemory
returns-in-OutOfMemory c = no_memory c.in-OutOfMemory.is

pub returns-in_default-2 : goal.returns-in_default-2
returns-in_default-2 c = elim c.if-flags.branch [
  | then-flags w ↦ absurd (let no : ⊥ = cc in no)
  | else-flags w ↦ not_asked w.if-flags.false (sym w.value-is ∙ c.if-flags-2.false)
]
