use Rattle.meson_variables.proofs.Words.{◌≡◌, ℕ, List, take, if◌then◌else◌, None, note_views, value_in, is_set_by}
use Rattle.meson_variables.proofs.values.Values.forget_all_set.Given as goal

abbrev pub invariant-loop-i : goal.invariant-loop-i
invariant-loop-i l = (x : List ℕ) → value_in l.self x ≡ (if is_set_by x (note_views (take l.i l.notes)) then None else value_in l.fn.self x)
