use Rattle.std.proofs.lemmas.Result.{err_from_is_err_and}
use Rattle.meson_plan.proofs.PlacesFound.{call_found}
use Rattle.meson_plan.proofs.Unlisted.{call_unlisted}
use Rattle.meson_plan.proofs.listing.info_kwargs.Goals as goal
use Rattle.meson_calls.specs.Searching.{name_at}

pub head-requires : goal.head-requires
head-requires c = call_found c.args.project.now c.args.role (name_at c.args.name) c.in_ok-call.call c.in_ok-call.ensures.found

pub returns-in_err-keywords-clause-refused : goal.returns-in_err-keywords-clause-refused
returns-in_err-keywords-clause-refused c =
    let error = err_from_is_err_and c.from_residual-in_err-keywords.result c.from_residual-in_err-keywords.ensures.1 in
    rw (error.1, error.2)
    (λ other. call_unlisted c.args.project.now c.args.role (name_at c.args.name) c.in_ok-call.call c.in_ok-head.head (c.in_err-keywords.field-0.0) c.in_ok-call.ensures.found c.in_ok-head.ensures.told (c.in_err-keywords.ensures.refused other))
