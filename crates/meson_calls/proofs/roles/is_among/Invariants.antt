use Rattle.meson_calls.proofs.Words.{false, ◌≡◌, take, is_among}
use Rattle.meson_calls.proofs.roles.is_among.Given as goal

abbrev pub invariant-loop-i : goal.invariant-loop-i
invariant-loop-i l = is_among (take l.i l.names) l.name ≡ false
