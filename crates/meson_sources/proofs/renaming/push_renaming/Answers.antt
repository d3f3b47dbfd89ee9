use Rattle.meson_steps.specs.declared.step.ListEdit.TheVariants as code
use Rattle.meson_sources.specs.SourceEdits.{renaming}
use Rattle.meson_sources.proofs.renaming.push_renaming.Goals as goal
use Rattle.meson_sources.proofs.Words.{[], ap, ap₂, map, Some, ◌++◌, ◌∙◌, ◌∷◌, ◌≡◌, map-append, place, bare, ListStep, spot_view}

pub returns-clause-done : goal.returns-clause-done
returns-clause-done c =
    let spot = c.args.spot.now in
    let old = c.args.steps.now.items in
    let step : ListStep = record { list = c.in_ok-list.list; edit = code.Replace spot.number c.in_ok-new.new } in
    let place_is = c.in_ok-list.ensures ∙ ap (place spot.file) c.as_slice.ensures.value in
    let step_is : Some step ≡ bare (renaming c.args.name.now (spot_view spot)) = ap₂ (λ l b. Some (record { list = l; edit = code.Replace spot.number b })) place_is c.in_ok-new.ensures.done in
    ap (map Some) c.in_ok-push_step.ensures.added ∙ map-append Some old (step ∷ []) ∙ ap (λ o. map Some old ++ o ∷ []) step_is
