use Rattle.meson_calls.proofs.Words.{All, take, HasFileName}
use Rattle.meson_calls.proofs.loading.first_bad_name.Given as goal

abbrev pub invariant-loop-i : goal.invariant-loop-i
invariant-loop-i l = All HasFileName (take l.i l.files)
