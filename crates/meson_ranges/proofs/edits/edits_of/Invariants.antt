use Rattle.std.proofs.Common.{drop}
use Rattle.meson_ranges.proofs.Runs.{IsUnderWay}
use Rattle.meson_ranges.proofs.edits.edits_of.Given as goal

abbrev pub invariant-loop-entry : goal.invariant-loop-entry
invariant-loop-entry l =
    IsUnderWay l.old l.new l.entries (drop l.entry-index l.entries) l.run.old_at l.run.new_at l.run.removed l.run.added l.edits.items
