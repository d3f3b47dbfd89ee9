use Rattle.meson_steps.proofs.Words.{ℕ, ◌<◌, ◌≤◌, length, bytes_at, max_len}
use Rattle.meson_steps.proofs.work.Work.is_small.Given as goal

abbrev pub invariant-loop-i : goal.invariant-loop-i
invariant-loop-i l = (k : ℕ) → k < l.i → length (bytes_at k l.self.files) ≤ max_len
