use Rattle.meson_plan.proofs.PlacesFound.{target_found}
use Rattle.meson_explaining.proofs.sources.sources_at.Goals as goal
use Rattle.meson_calls.specs.Searching.{name_at}

pub sources_of-requires : goal.sources_of-requires
sources_of-requires c = target_found c.args.project.now (name_at c.args.name) c.in-Ok.target c.in-Ok.ensures.found
