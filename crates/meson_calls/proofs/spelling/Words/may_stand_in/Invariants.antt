use Rattle.meson_calls.proofs.Words.{take, HasNoneOf}
use Rattle.meson_calls.proofs.spelling.Words.may_stand_in.Given as goal

abbrev pub invariant-loop-i : goal.invariant-loop-i
invariant-loop-i l = HasNoneOf (take l.i l.self.words.items) l.bytes
