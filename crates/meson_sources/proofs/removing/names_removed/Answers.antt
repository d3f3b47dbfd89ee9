use Rattle.meson_sources.proofs.removing.names_removed.Goals as goal
use Rattle.meson_sources.proofs.Words.{ap, map, sym, ◌∙◌, err_from_is_err_and, bare, removal_steps, removed_at, all_spots_in, spot_view}

pub returns-in_err-spots-clause-refused : goal.returns-in_err-spots-clause-refused
returns-in_err-spots-clause-refused c =
    let error = err_from_is_err_and c.from_residual-in_err-spots.result c.from_residual-in_err-spots.ensures.1 in
    rw (error.1, error.2) (λ other.
    let m = c.args.marks.now in
    let found = ap (all_spots_in m) (sym c.in_ok-names.ensures) ∙ ap (λ ns. all_spots_in m (map (λ x. x.now) ns)) (sym c.as_slice.ensures.value) ∙ c.in_err-spots.ensures.refused other in
    ap removed_at found)

pub returns-clause-meant : goal.returns-clause-meant
returns-clause-meant c =
    let m = c.args.marks.now in
    let found = ap (all_spots_in m) (sym c.in_ok-names.ensures) ∙ ap (λ ns. all_spots_in m (map (λ x. x.now) ns)) (sym c.as_slice.ensures.value) ∙ c.in_ok-spots.ensures.found in
    let are = c.in_ok-steps.ensures ∙ ap (λ ss. map bare (removal_steps (map spot_view ss))) c.as_slice-2.ensures.value in
    record { steps = removal_steps (map spot_view c.in_ok-spots.spots.items); is = ap removed_at found; bare = sym are }
