use Rattle.std.proofs.Common.{ap, ◌∙◌}
use Rattle.meson_calls.specs.Notes.{note_views}
use Rattle.meson_calls.proofs.GoodNotes.{taken_good}
use Rattle.meson_places.proofs.uses.is_read_once.Goals as goal

pub is_named-requires : goal.is_named-requires
is_named-requires c = taken_good c.args.sources.files.now c.args.sources.trees.now c.requires _ (ap note_views c.as_slice-2.ensures.value ∙ c.in_ok-notes.ensures ∙ c.in_ok-taken.ensures)
