use Rattle.meson_sources.specs.SourceEdits.{renaming}
use Rattle.meson_sources.proofs.renaming.renamings.Goals as goal
use Rattle.meson_sources.proofs.Words.{[], ap, append_assoc, drop, map, Some, sym, ◌++◌, ◌+◌, ◌∙◌, ◌∷◌, ◌≡◌, bare, spot_view}
use Rattle.meson_sources.proofs.commands.Renamed.{next_spot}

pub loop-i-preserved : goal.loop-i-preserved
loop-i-preserved c =
    let spots = c.args.spots.now in
    let name = c.args.name.now in
    let i = c.loop-i.i in
    let d = c.index-spots-i.result in
    let steps = map Some c.loop-i.steps.items in
    let left = map bare (map (renaming name) (map spot_view (drop (i + 1) spots))) in
    ap (λ xs. xs ++ left) c.in_ok-push_renaming.ensures.done
    ∙ append_assoc steps (bare (renaming name (spot_view d)) ∷ []) left
    ∙ ap (λ x. steps ++ (bare (renaming name (spot_view x)) ∷ left)) c.index-spots-i.is
    ∙ ap (λ xs. steps ++ xs) (sym (next_spot spot_view spots name i d c.loop-i-test.true))
    ∙ c.loop-i.invariant
