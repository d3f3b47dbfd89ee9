use Rattle.std.proofs.Common.{◌≡◌, ◌++◌, drop, map}
use Rattle.std.specs.Prelude.{codes, filter}
use Rattle.meson_explaining.specs.Notes.{call_note}
use Rattle.meson_explaining.specs.Removals.{has_no_name}
use Rattle.meson_explaining.proofs.removals.all_unnamed.Given as goal

abbrev pub invariant-loop-i : goal.invariant-loop-i
invariant-loop-i l =
    let note = call_note (codes ": it may set any variable") in
    l.notes.items ++ map note (filter has_no_name (drop l.i l.calls)) ≡ map note (filter has_no_name l.calls)
