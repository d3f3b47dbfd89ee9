-- The entries of the files of the splices so far are forgotten.
use Rattle.std.specs.Prelude.{take}
use Rattle.meson_plan.specs.inside.Kept.{StayKept}
use Rattle.meson_plan.proofs.kept.forget_changed.Given as goal

abbrev pub invariant-loop-i : goal.invariant-loop-i
invariant-loop-i l = StayKept l.fn.kept.items l.kept.items l.files (take l.i l.splices)
