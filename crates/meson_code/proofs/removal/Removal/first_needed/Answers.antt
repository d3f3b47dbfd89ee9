use Rattle.std.proofs.Common.{ap, ◌∙◌}
use Rattle.meson_calls.specs.Notes.{note_views}
use Rattle.meson_calls.proofs.GoodNotes.{taken_good}
use Rattle.meson_calls.proofs.NamedNotes.{taken_named}
use Rattle.meson_code.proofs.removal.Removal.first_needed.Goals as goal

pub first_among-requires-clause-good : goal.first_among-requires-clause-good
first_among-requires-clause-good c =
    let s = c.args.self.now.sources in
    taken_good s.files.now s.trees.now c.requires.parsed _ (ap note_views c.as_slice.ensures.value ∙ c.in_ok-notes.ensures ∙ c.in_ok-taken.ensures)

pub first_among-requires-clause-named : goal.first_among-requires-clause-named
first_among-requires-clause-named c =
    let s = c.args.self.now.sources in
    taken_named s.files.now s.trees.now c.requires.parsed _ (ap note_views c.as_slice.ensures.value ∙ c.in_ok-notes.ensures ∙ c.in_ok-taken.ensures)
