use Rattle.std.proofs.lemmas.Result.{err_from_is_err_and}
use Rattle.meson_plan.proofs.Unlisted.{target_unlisted}
use Rattle.meson_plan.proofs.listing.info_target.Goals as goal
use Rattle.meson_calls.specs.Searching.{name_at}

pub returns-in_err-place-clause-refused : goal.returns-in_err-place-clause-refused
returns-in_err-place-clause-refused c =
    let error = err_from_is_err_and c.from_residual.result c.from_residual.ensures.1 in
    rw (error.1, error.2) (λ other. target_unlisted c.args.project.now c.args.reading (name_at c.args.name) c.in_err-place.field-0.0 (c.in_err-place.ensures.refused other))
