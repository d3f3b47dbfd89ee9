use Rattle.std.proofs.Common.{take}
use Rattle.meson_script.specs.Running.{RunsTo}
use Rattle.meson_script.proofs.performing.perform_all.Given as goal

abbrev pub invariant-loop-index : goal.invariant-loop-index
invariant-loop-index l = RunsTo l.form l.initial.project (take l.index l.commands) l.splices.items l.relexed l.info.text.items l.project
