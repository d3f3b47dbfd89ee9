use Rattle.meson_steps.proofs.Words.{◌≡◌, ℕ, ◌<◌, true, slice_index_or, Parsed, is_saved, IsShallow}
use Rattle.meson_steps.proofs.work.Work.is_shallow.Given as goal

abbrev pub invariant-loop-i : goal.invariant-loop-i
invariant-loop-i l = (k : ℕ) → k < l.i → is_saved k l.self.saved.items ≡ true → (d : Parsed) → IsShallow (slice_index_or l.self.trees.items k d)
