use Rattle.meson_calls.specs.NotedProjects.{loaded_in}
use Rattle.meson_calls.specs.Searching.{name_at}
use Rattle.meson_followed.proofs.MayBeDone.{changes_mean}
use Rattle.meson_followed.proofs.changing.change_sources.Goals as goal

pub returns-clause-plan : goal.returns-clause-plan
returns-clause-plan c =
    changes_mean (λ v. v.items) (loaded_in c.args.noted.now) c.requires.whole (name_at c.args.target) c.args.change.now c.args.shared c.steps_of.result
    c.steps_of.ensures.utf8 c.steps_of.ensures.meant
