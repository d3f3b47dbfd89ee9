use Rattle.meson_plan.proofs.PlacesFound.{target_found}
use Rattle.meson_warnings.proofs.additions.goes_into_call.Goals as goal
use Rattle.meson_calls.specs.Searching.{name_at}

pub into_one-requires : goal.into_one-requires
into_one-requires c = target_found c.args.project.now (name_at c.args.target) c.in-Ok.call c.in-Ok.ensures.found
