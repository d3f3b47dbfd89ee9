use Rattle.meson_calls.specs.declared.refusal.Refusal.TheVariants.{ThereAlready}
use Rattle.meson_sources.specs.SourceEdits.{renaming}
use Rattle.meson_sources.specs.inside.CodeSpots.{renamed_among}
use Rattle.meson_sources.proofs.renaming.names_renamed.Goals as goal
use Rattle.meson_variables.specs.declared.marks.Marks.{Marks}
use Rattle.meson_sources.proofs.Words.{list_any, Err, if◌then◌else◌, Ok, Result, ap, List, map, sym, ℕ, ◌∙◌, err_from_is_err_and, then_ok, Refusal, Step, Spot, all_spots_in}
use Rattle.meson_sources.proofs.Words.{has_value, spot_view}
use Rattle.meson_sources.proofs.commands.Renamed.{ok_meant, only_memory}

-- what is meant, once the spots of the old name are found
abbrev after_spots : Marks → List ℕ → Result (List Spot) Refusal → Result (List Step) Refusal
after_spots m new found = then_ok found (λ spots. if list_any (has_value new) m.items.items then Err ThereAlready else Ok (map (renaming new) spots))

pub returns-in_err-spots-clause-refused : goal.returns-in_err-spots-clause-refused
returns-in_err-spots-clause-refused c =
    let error = err_from_is_err_and c.from_residual.result c.from_residual.ensures.1 in
    rw (error.1, error.2) (λ other.
    let m = c.args.marks.now in
    let found = ap (λ ns. all_spots_in m (map (λ x. x.now) ns)) (sym c.from_ref.ensures.value) ∙ c.in_err-spots.ensures.refused other in
    ap (after_spots m c.args.names.new.now) found)

pub returns-in_err-refuse_known-clause-refused : goal.returns-in_err-refuse_known-clause-refused
returns-in_err-refuse_known-clause-refused c =
    let error = err_from_is_err_and c.from_residual-in_err-refuse_known.result c.from_residual-in_err-refuse_known.ensures.1 in
    rw (error.1, error.2) (λ other.
    let m = c.args.marks.now in
    let new = c.args.names.new.now in
    let found = ap (λ ns. all_spots_in m (map (λ x. x.now) ns)) (sym c.from_ref.ensures.value) ∙ c.in_ok-spots.ensures.found in
    let known = ap (list_any (has_value new)) (sym c.as_slice.ensures.value) ∙ c.in_err-refuse_known.ensures.taken.1 in
    ap (after_spots m new) found ∙ ap (λ b. if b then Err ThereAlready else Ok (map (renaming new) (map spot_view c.in_ok-spots.spots.items))) known
    ∙ ap Err (sym c.in_err-refuse_known.ensures.taken.0))

pub returns-clause-meant : goal.returns-clause-meant
returns-clause-meant c =
    let m = c.args.marks.now in
    let new = c.args.names.new.now in
    let found = ap (λ ns. all_spots_in m (map (λ x. x.now) ns)) (sym c.from_ref.ensures.value) ∙ c.in_ok-spots.ensures.found in
    let known = ap (list_any (has_value new)) (sym c.as_slice.ensures.value) ∙ c.in_ok-refuse_known.ensures.fresh in
    let meant = ap (after_spots m new) found ∙ ap (λ b. if b then Err ThereAlready else Ok (map (renaming new) (map spot_view c.in_ok-spots.spots.items))) known
    ∙ ap (λ ss. Ok (map (renaming new) (map spot_view ss))) (sym c.as_slice-2.ensures.value) in
    ok_meant (λ v. v.items) (map (renaming new) (map spot_view c.as_slice-2.result.now)) (renamed_among m c.args.names.old.now new) meant c.renamings.result c.renamings.ensures.done

pub returns-clause-refused : goal.returns-clause-refused
returns-clause-refused c = only_memory (renamed_among c.args.marks.now c.args.names.old.now c.args.names.new.now) c.renamings.result c.renamings.ensures.refused
