use Rattle.std.proofs.Common.{◌≡◌, [], ◌∷◌, ◌++◌, map, ap, ap₂, ◌∙◌}
use Rattle.std.specs.Prelude.{Some}
use Rattle.std.proofs.lemmas.List.{map-append}
use Rattle.meson_calls.specs.Project.{place}
use Rattle.meson_sources.specs.SourceEdits.{renaming}
use Rattle.meson_sources.specs.inside.CodeSpots.{spot_view}
use Rattle.meson_steps.specs.declared.step.ListEdit.TheVariants as code
use Rattle.meson_steps.specs.declared.step.ListStep.{ListStep}
use Rattle.meson_steps.specs.ListSteps.{bare}
use Rattle.meson_followed.proofs.renaming.push_renaming.Goals as goal

pub returns-clause-done : goal.returns-clause-done
returns-clause-done c =
    let spot = c.args.spot.now in
    let old = c.args.steps.now.items in
    let step : ListStep = record { list = c.in_ok-list.list; edit = code.Replace spot.number c.in_ok-new.new } in
    let place_is = c.in_ok-list.ensures ∙ ap (place spot.file) c.as_slice.ensures.value in
    let step_is : Some step ≡ bare (renaming c.args.name.now (spot_view spot)) =
    ap₂ (λ l b. Some (record { list = l; edit = code.Replace spot.number b })) place_is c.in_ok-new.ensures.done in
    ap (map Some) c.in_ok-push_step.ensures.added ∙ map-append Some old (step ∷ []) ∙ ap (λ o. map Some old ++ o ∷ []) step_is
