use Rattle.std.proofs.Common.{◌≡◌, take}
use Rattle.std.specs.List.{filter}
use Rattle.meson_calls.specs.Loading.{project}
use Rattle.meson_calls.specs.Notes.{note_views}
use Rattle.meson_targets.specs.inside.TargetViews.{place_view}
use Rattle.meson_places.specs.Names.{loaded_in}
use Rattle.meson_code.specs.Unused.{assigned_names, is_read_within}
use Rattle.meson_code.proofs.unused.names_read.Given as goal

abbrev pub invariant-loop-i : goal.invariant-loop-i
invariant-loop-i l =
    l.names.items ≡ filter (is_read_within (project (loaded_in l.sources)) (place_view l.statement)) (assigned_names (note_views (take l.i l.notes.items)))
