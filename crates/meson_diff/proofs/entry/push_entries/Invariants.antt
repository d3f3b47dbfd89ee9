use Rattle.std.proofs.Common.{◌≡◌, ◌++◌, drop}
use Rattle.std.specs.Prelude.{flat_map}
use Rattle.meson_diff.specs.Hunks.{entry_text}
use Rattle.meson_diff.proofs.entry.push_entries.Given as goal

abbrev pub invariant-loop-entry : goal.invariant-loop-entry
invariant-loop-entry l = l.to.items ++ flat_map entry_text (drop l.entry-index l.entries) ≡ l.initial.to.items ++ flat_map entry_text l.entries
