use Rattle.meson_sources.proofs.editing.count_plain.Given as goal
use Rattle.meson_sources.proofs.Words.{drop, List, ℕ, ◌+◌, ◌≡◌, ◌≤◌}
use Rattle.meson_sources.proofs.added.Counts.{plains}

abbrev pub invariant-loop-i : goal.invariant-loop-i
invariant-loop-i l = (l.count ≤ l.i) × ((source : List ℕ) → l.count + plains source (drop l.i l.args) ≡ plains source l.args)
