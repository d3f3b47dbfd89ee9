use Rattle.std.proofs.Common.{◌≡◌, ◌++◌, drop}
use Rattle.meson_calls.specs.Notes.{note_views}
use Rattle.meson_warnings.specs.LeftVariables.{left_in}
use Rattle.meson_warnings.proofs.left_variables.add_left_in.Given as goal

abbrev pub invariant-loop-i : goal.invariant-loop-i
invariant-loop-i l = l.notes.items ++ left_in l.name (note_views (drop l.i l.parts)) ≡ l.initial.notes.items ++ left_in l.name (note_views l.parts)
