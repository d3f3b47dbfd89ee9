use Rattle.std.proofs.Common.{◌≡◌, drop}
use Rattle.std.specs.List.{find}
use Rattle.meson_calls.specs.Notes.{note_views}
use Rattle.meson_targets.specs.inside.TargetViews.{place_view}
use Rattle.meson_places.specs.Names.{loaded_in}
use Rattle.meson_code.specs.Removal.{is_needed, set_within}
use Rattle.meson_code.proofs.removal.Removal.first_among.Given as goal

-- the first that the notes that are left set is the first that all set
abbrev pub invariant-loop-i : goal.invariant-loop-i
invariant-loop-i l =
    find (is_needed (loaded_in l.self.sources) (place_view l.self.statement.now)) (set_within (place_view l.self.statement.now) (note_views (drop l.i l.notes)))
    ≡ find (is_needed (loaded_in l.self.sources) (place_view l.self.statement.now)) (set_within (place_view l.self.statement.now) (note_views l.notes))
