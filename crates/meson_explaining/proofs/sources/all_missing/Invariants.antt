use Rattle.std.proofs.Common.{◌≡◌, ◌++◌, drop, map}
use Rattle.std.specs.Prelude.{filter}
use Rattle.meson_explaining.specs.Sources.{is_missing, missing_note}
use Rattle.meson_explaining.proofs.sources.all_missing.Given as goal

abbrev pub invariant-loop-i : goal.invariant-loop-i
invariant-loop-i l = l.notes.items ++ map missing_note (filter (is_missing l.items) (drop l.i l.names)) ≡ map missing_note (filter (is_missing l.items) l.names)
