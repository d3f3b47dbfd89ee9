use Rattle.std.proofs.Common.{◌≡◌, drop}
use Rattle.meson_calls.specs.Loading.{project}
use Rattle.meson_calls.specs.Notes.{note_views}
use Rattle.meson_places.specs.Names.{loaded_in}
use Rattle.meson_code.specs.Unused.{first_setting_among}
use Rattle.meson_code.proofs.unused.first_setting.Given as goal

-- the first among the notes that are left is the first among all
abbrev pub invariant-loop-i : goal.invariant-loop-i
invariant-loop-i l =
    first_setting_among (project (loaded_in l.sources)) l.name (note_views (drop l.i l.notes)) ≡ first_setting_among (project (loaded_in l.sources)) l.name (note_views l.notes)
