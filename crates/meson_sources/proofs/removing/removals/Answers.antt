use Rattle.meson_steps.specs.declared.step.ListEdit.TheVariants as code
use Rattle.meson_sources.proofs.removing.removals.Goals as goal
use Rattle.meson_sources.proofs.Words.{[], ap, append_assoc, get_or, map, Some, sym, take, ◌++◌, ◌+◌, ◌∙◌, ◌∷◌, ◌≡◌, map-append, place, bare, ListStep, removal}
use Rattle.meson_sources.proofs.Words.{spot_without, spot_view}
use Rattle.meson_sources.proofs.commands.Removals.{one_step, steps_from}

pub loop-i-preserved : goal.loop-i-preserved
loop-i-preserved c =
    let spots = c.args.spots.now in
    let i = c.loop-i.i in
    let d = c.index-spots-i.result in
    let steps = map Some c.loop-i.steps.items in
    let left = steps_from spot_view spots (i + 1) in
    let spot = c.in_ok-spot.spot in
    let there : spot_view spot ≡ spot_without (map spot_view (take i spots)) (spot_view (get_or spots i d)) =
    c.in_ok-spot.ensures ∙ ap (λ x. spot_without (map spot_view (take i spots)) (spot_view x)) c.index-spots-i.is in
    let place_is = c.in_ok-list.ensures ∙ ap (place spot.file) c.as_slice.ensures.value in
    let step : ListStep = record { list = c.in_ok-list.list; edit = code.Remove spot.number } in
    let step_is = ap (λ l. Some (record { list = l; edit = code.Remove spot.number })) place_is ∙ ap (λ s. bare (removal s)) there in
    ap (λ xs. map Some xs ++ left) c.in_ok-push_step.ensures.added
    ∙ ap (λ xs. xs ++ left) (map-append Some c.loop-i.steps.items (step ∷ []))
    ∙ append_assoc steps (Some step ∷ []) left
    ∙ ap (λ o. steps ++ (o ∷ left)) step_is
    ∙ ap (λ xs. steps ++ xs) (sym (one_step spot_view spots i d c.loop-i-test.true))
    ∙ c.loop-i.invariant
