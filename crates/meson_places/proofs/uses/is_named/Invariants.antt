use Rattle.std.proofs.Common.{◌≡◌, take}
use Rattle.std.specs.Prelude.{false}
use Rattle.meson_calls.specs.Notes.{note_views}
use Rattle.meson_places.specs.Uses.{is_named}
use Rattle.meson_places.proofs.uses.is_named.Given as goal

abbrev pub invariant-loop-i : goal.invariant-loop-i
invariant-loop-i l = is_named l.name (note_views (take l.i l.notes)) ≡ false
