use Rattle.meson_calls.proofs.Words.{taken_view}
use Rattle.meson_calls.proofs.NoteTurns.{GoesOn}
use Rattle.meson_calls.proofs.notes.notes_with.Given as goal

abbrev pub invariant-loop-i : goal.invariant-loop-i
invariant-loop-i l = GoesOn l.words.words.items l.files l.trees l.i (taken_view l.taken)
