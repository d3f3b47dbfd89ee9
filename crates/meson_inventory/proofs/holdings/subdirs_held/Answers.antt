use Rattle.std.proofs.Common.{◌∙◌, ap, subst, sym}
use Rattle.std.specs.Prelude.{All, codes, not}
use Rattle.std.proofs.lemmas.List.Elements.{All-filter}
use Rattle.std.proofs.lemmas.Result.{IfOk-weaker}
use Rattle.meson_calls.specs.Loading.{project}
use Rattle.meson_calls.specs.ChosenNotes.{places_that}
use Rattle.meson_calls.specs.Notes.{note_views}
use Rattle.meson_inventory.specs.Holdings.{held_calls}
use Rattle.meson_inventory.specs.inside.Holdings.{IsCall, enters_at, not_entered_at, note_calls}
use Rattle.meson_inventory.proofs.CallPlacesListed.{function_places}
use Rattle.meson_inventory.proofs.CallsHeld.{calls_called}
use Rattle.meson_inventory.proofs.LeftCalls.{left_places}
use Rattle.meson_inventory.proofs.holdings.subdirs_held.Goals as goal

pub not_entered-requires : goal.not_entered-requires
not_entered-requires c =
    let l = c.args.project.now in
    let f = codes "subdir" in
    let are = c.in_ok-places.ensures ∙ ap (λ g. places_that (note_calls g) (note_views c.args.notes.now)) c.as_slice.ensures ∙ ap (places_that (note_calls f)) c.requires ∙ function_places f (project l) in
    subst (All (IsCall l)) (sym are) (calls_called l f)

pub held_calls-requires : goal.held_calls-requires
held_calls-requires c =
    let l = c.args.project.now in
    let reading = c.args.reading in
    let f = codes "subdir" in
    let are = c.in_ok-places.ensures ∙ ap (λ g. places_that (note_calls g) (note_views c.args.notes.now)) c.as_slice.ensures ∙ ap (places_that (note_calls f)) c.requires ∙ function_places f (project l) in
    let left = c.as_slice-2.ensures.value ∙ c.in_ok-left.ensures in
    subst (All (IsCall l)) (sym left) (All-filter (λ place. not (enters_at reading l place)) (IsCall l) _ (subst (All (IsCall l)) (sym are) (calls_called l f)))

pub returns : goal.returns
returns c =
    let l = c.args.project.now in
    let reading = c.args.reading in
    let f = codes "subdir" in
    let are = c.in_ok-places.ensures ∙ ap (λ g. places_that (note_calls g) (note_views c.args.notes.now)) c.as_slice.ensures ∙ ap (places_that (note_calls f)) c.requires ∙ function_places f (project l) in
    let left = c.as_slice-2.ensures.value ∙ c.in_ok-left.ensures ∙ ap (not_entered_at reading l) are ∙ left_places reading l f in
    IfOk-weaker c.held_calls.result _ _ (λ calls is. is ∙ ap (held_calls l) left) c.held_calls.ensures
