use Rattle.std.proofs.Common.{◌∙◌, ap, subst, sym}
use Rattle.std.specs.Prelude.{All}
use Rattle.std.proofs.lemmas.Result.{IfOk-weaker}
use Rattle.meson_calls.specs.Loading.{project}
use Rattle.meson_calls.specs.ChosenNotes.{places_that}
use Rattle.meson_inventory.specs.Holdings.{held_calls}
use Rattle.meson_inventory.specs.inside.Holdings.{IsCall, note_calls}
use Rattle.meson_inventory.proofs.CallPlacesListed.{function_places}
use Rattle.meson_inventory.proofs.CallsHeld.{calls_called}
use Rattle.meson_inventory.proofs.holdings.calls_among.Goals as goal

pub held_calls-requires : goal.held_calls-requires
held_calls-requires c =
    let l = c.args.project.now in
    let f = c.args.function.now in
    let are = c.as_slice.ensures.value ∙ c.in_ok-places.ensures ∙ ap (places_that (note_calls f)) c.requires ∙ function_places f (project l) in
    subst (All (IsCall l)) (sym are) (calls_called l f)

pub returns : goal.returns
returns c =
    let l = c.args.project.now in
    let f = c.args.function.now in
    let are = c.as_slice.ensures.value ∙ c.in_ok-places.ensures ∙ ap (places_that (note_calls f)) c.requires ∙ function_places f (project l) in
    IfOk-weaker c.held_calls.result _ _ (λ calls is. is ∙ ap (held_calls l) are) c.held_calls.ensures
