use Rattle.meson_sources.proofs.targeting.on_target.Goals as goal
use Rattle.meson_calls.specs.Refusals.{RefusedAs}
use Rattle.meson_calls.specs.Searching.{name_at}
use Rattle.meson_steps.specs.Plans.{ArePlanned}
use Rattle.meson_sources.proofs.Words.{IfOk, subst, project, loaded_in, target_steps}
use Rattle.meson_sources.proofs.commands.Targets.{all_mean}

pub returns-clause-plan : goal.returns-clause-plan
returns-clause-plan c =
    let old = loaded_in c.args.noted.now in
    let r = c.target_steps.result in
    let change = c.args.change in
    let t = name_at c.args.target in
    subst (λ ns. IfOk r (λ steps. ArePlanned old (target_steps (project old) t change ns) steps.items)) c.get.ensures
    (all_mean old c.requires.whole (λ v. v.items) t change c.get.result.now r c.target_steps.ensures.utf8 c.target_steps.ensures.meant)

pub returns-clause-refused : goal.returns-clause-refused
returns-clause-refused c =
    let old = loaded_in c.args.noted.now in
    let r = c.target_steps.result in
    let change = c.args.change in
    let t = name_at c.args.target in
    subst (λ ns. RefusedAs r (target_steps (project old) t change ns)) c.get.ensures c.target_steps.ensures.refused
