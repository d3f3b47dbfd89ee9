use Rattle.meson_calls.proofs.Words.{◌≡◌, ℕ, List, drop}
use Rattle.meson_calls.proofs.FirstArguments.{first_left}
use Rattle.meson_calls.proofs.roles.first_argument.Given as goal

abbrev pub invariant-loop-i : goal.invariant-loop-i
invariant-loop-i l = (source : List ℕ) → first_left source l.i (drop l.i l.args) ≡ first_left source 0 l.args
