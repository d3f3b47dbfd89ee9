use Rattle.meson_calls.proofs.Words.{list_any, slice_range, ◌≡◌, ◌≤◌, drop, goes_nowhere, parts_after, slash_parts}
use Rattle.meson_calls.proofs.folders.has_bad_part.Given as goal

abbrev pub invariant-loop-i : goal.invariant-loop-i
invariant-loop-i l = (l.from ≤ l.i) × (list_any goes_nowhere (parts_after (slice_range l.folder l.from l.i) (drop l.i l.folder)) ≡ list_any goes_nowhere (slash_parts l.folder))
