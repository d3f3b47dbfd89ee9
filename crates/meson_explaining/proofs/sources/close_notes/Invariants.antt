use Rattle.std.proofs.Common.{◌≡◌, ◌++◌, drop, map}
use Rattle.std.specs.Prelude.{filter}
use Rattle.meson_explaining.specs.Sources.{is_close, item_note}
use Rattle.meson_explaining.proofs.sources.close_notes.Given as goal

abbrev pub invariant-loop-i : goal.invariant-loop-i
invariant-loop-i l = l.notes.items ++ map item_note (filter (is_close l.name) (drop l.i l.items)) ≡ map item_note (filter (is_close l.name) l.items)
