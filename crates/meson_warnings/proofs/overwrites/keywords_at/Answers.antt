use Rattle.meson_plan.proofs.PlacesFound.{call_found}
use Rattle.meson_warnings.proofs.overwrites.keywords_at.Goals as goal
use Rattle.meson_calls.specs.Searching.{name_at}

pub keywords_of-requires : goal.keywords_of-requires
keywords_of-requires c = call_found c.args.project.now c.args.subject.role (name_at c.args.subject.name) c.in-Ok.call c.in-Ok.ensures.found
