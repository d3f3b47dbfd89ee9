use Rattle.meson_calls.specs.Refusals.{RefusedAs}
use Rattle.meson_calls.specs.Searching.{name_at}
use Rattle.meson_steps.specs.Plans.{ArePlanned}
use Rattle.meson_sources.specs.Targeted.{sorted_steps}
use Rattle.meson_sources.proofs.sorting.sort_sources.Goals as goal
use Rattle.meson_sources.proofs.Words.{IfOk, subst, project, loaded_in}
use Rattle.meson_sources.proofs.commands.Targets.{sorted_mean}

pub returns-clause-plan : goal.returns-clause-plan
returns-clause-plan c =
    let old = loaded_in c.args.noted.now in
    let r = c.sorted_steps.result in
    let t = name_at c.args.target in
    subst (λ ns. IfOk r (λ steps. ArePlanned old (sorted_steps old.files (project old) t ns) steps.items)) c.get.ensures
    (sorted_mean old c.requires.whole (λ v. v.items) t c.get.result.now r c.sorted_steps.ensures.utf8 c.sorted_steps.ensures.meant)

pub returns-clause-refused : goal.returns-clause-refused
returns-clause-refused c =
    let old = loaded_in c.args.noted.now in
    let r = c.sorted_steps.result in
    let t = name_at c.args.target in
    subst (λ ns. RefusedAs r (sorted_steps old.files (project old) t ns)) c.get.ensures c.sorted_steps.ensures.refused
