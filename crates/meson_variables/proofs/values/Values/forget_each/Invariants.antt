use Rattle.meson_variables.proofs.Words.{◌≡◌, ℕ, List, take, if◌then◌else◌, None, names_at, value_in, one_of_names}
use Rattle.meson_variables.proofs.values.Values.forget_each.Given as goal

abbrev pub invariant-loop-i : goal.invariant-loop-i
invariant-loop-i l = (x : List ℕ) → value_in l.self x ≡ (if one_of_names (names_at l.source (take l.i l.names)) x then None else value_in l.fn.self x)
