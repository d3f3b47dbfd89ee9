-- What each plan means.
use Rattle.std.proofs.Common.{ap}
use Rattle.meson_calls.specs.NotedProjects.{loaded_in}
use Rattle.meson_calls.specs.Searching.{name_at}
use Rattle.meson_plan.specs.inside.Orders.{plan_steps}
use Rattle.meson_targets.proofs.TargetsDoable.{addition_means, removal_means}
use Rattle.meson_plan.proofs.planning.steps_of.Goals as goal

pub returns-in-AddTarget-clause-plan : goal.returns-in-AddTarget-clause-plan
returns-in-AddTarget-clause-plan c =
    let n = c.args.noted.now in
    let new = c.in-AddTarget.new in
    addition_means (loaded_in n) c.requires.whole (λ v. v.items) (plan_steps (loaded_in n) c.args.plan) new.name.now new.kind.now new.folder.now new.sources.now
    (ap (plan_steps (loaded_in n)) c.in-AddTarget.is) c.target_added.result c.target_added.ensures.utf8 c.target_added.ensures.meant

pub returns-in-RemoveTarget-clause-plan : goal.returns-in-RemoveTarget-clause-plan
returns-in-RemoveTarget-clause-plan c =
    let n = c.args.noted.now in
    removal_means (loaded_in n) c.requires.whole (λ v. v.items) (plan_steps (loaded_in n) c.args.plan) (name_at c.in-RemoveTarget.target)
    (ap (plan_steps (loaded_in n)) c.in-RemoveTarget.is) c.target_removed.result c.target_removed.ensures.meant
