use Rattle.std.proofs.Common.{◌∙◌, ap}
use Rattle.std.specs.Prelude.{not}
use Rattle.std.specs.List.{list_any}
use Rattle.meson_calls.specs.declared.call.Role.TheVariants as role
use Rattle.meson_calls.specs.ChosenNotes.{note_has_name, places_that}
use Rattle.meson_calls.specs.Notes.{note_views}
use Rattle.meson_calls.proofs.GoodNotes.{taken_good}
use Rattle.meson_places.specs.TargetNames.{is_same}
use Rattle.meson_places.proofs.target_names.is_taken.Goals as goal

pub with_name-requires : goal.with_name-requires
with_name-requires c =
    taken_good c.args.sources.files.now c.args.sources.trees.now c.requires _ (ap note_views c.as_slice.ensures.value ∙ c.in_ok-notes.ensures ∙ c.in_ok-taken.ensures)

pub returns : goal.returns
returns c =
    let all = ap note_views c.as_slice.ensures.value ∙ c.in_ok-notes.ensures ∙ c.in_ok-taken.ensures in
    c.has_other.ensures
    ∙ ap (list_any (λ d. not (is_same d c.args.place.now))) (c.as_slice-2.ensures.value ∙ c.in_ok-named.ensures ∙ ap (places_that (note_has_name role.Target c.args.name.now)) all)
