use Rattle.meson_calls.proofs.Words.{◌≡◌, ℕ, ◌-◌, get_or, length, Unknown}
use Rattle.meson_calls.proofs.kept.make_room.Given as goal

abbrev pub invariant-loop-kept : goal.invariant-loop-kept
invariant-loop-kept l = (i : ℕ) → get_or l.kept.items i Unknown ≡ get_or l.initial.kept.items i Unknown

abbrev pub decreases-loop-kept : goal.decreases-loop-kept
decreases-loop-kept l = l.count - length l.kept.items
