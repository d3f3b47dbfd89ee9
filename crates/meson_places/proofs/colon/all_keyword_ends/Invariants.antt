use Rattle.std.proofs.Common.{◌≡◌, ◌++◌, drop}
use Rattle.std.specs.Prelude.{flat_map}
use Rattle.meson_calls.specs.Notes.{note_views}
use Rattle.meson_places.specs.Colons.{keyword_ends}
use Rattle.meson_places.proofs.colon.all_keyword_ends.Given as goal

abbrev pub invariant-loop-i : goal.invariant-loop-i
invariant-loop-i l = l.ends.items ++ flat_map (λ m. keyword_ends m.it) (note_views (drop l.i l.notes)) ≡ flat_map (λ m. keyword_ends m.it) (note_views l.notes)
