use Rattle.std.proofs.Common.{◌∙◌, ap}
use Rattle.meson_calls.specs.Notes.{note_views}
use Rattle.meson_calls.proofs.GoodNotes.{taken_good}
use Rattle.meson_places.proofs.lookup.found_by_id.Goals as goal

pub places_by_id-requires : goal.places_by_id-requires
places_by_id-requires c =
    taken_good c.args.sources.files.now c.args.sources.trees.now c.requires _ (ap note_views c.as_slice-2.ensures.value ∙ c.in_ok-notes.ensures ∙ c.in_ok-taken.ensures)
