use Rattle.std.proofs.Common.{sym, ap, ap₂, ◌∙◌}
use Rattle.meson_calls.specs.Loading.{project}
use Rattle.meson_calls.specs.Notes.{note_views, notes}
use Rattle.meson_places.specs.Assignments.{added_beside, added_values}
use Rattle.meson_places.specs.Names.{loaded_in}
use Rattle.meson_places.proofs.Refused.{refused_as}
use Rattle.meson_places.proofs.assignments.others_of.Goals as goal

pub returns-clause-refused : goal.returns-clause-refused
returns-clause-refused c =
    let all = ap note_views c.as_slice.ensures.value ∙ c.in_ok-notes.ensures ∙ c.in_ok-taken.ensures in
    let found = c.in_ok-added.ensures ∙ ap₂ added_values (c.as_bytes.ensures.value ∙ c.get.ensures) all in
    refused_as c.added_beside.result (added_beside c.args.folder.now c.args.place.now (added_values c.args.name.now (notes (project (loaded_in c.args.sources)))))
    (added_beside c.args.folder.now c.args.place.now c.in_ok-added.added.items) (ap (added_beside c.args.folder.now c.args.place.now) (sym found)) c.added_beside.ensures.refused
