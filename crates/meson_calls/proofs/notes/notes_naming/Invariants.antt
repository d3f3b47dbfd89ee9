use Rattle.meson_calls.proofs.Words.{taken_view}
use Rattle.meson_calls.proofs.SetterTurns.{SettersGoOn}
use Rattle.meson_calls.proofs.notes.notes_naming.Given as goal

abbrev pub invariant-loop-i : goal.invariant-loop-i
invariant-loop-i l = SettersGoOn l.names l.files l.trees l.i (taken_view l.taken)
