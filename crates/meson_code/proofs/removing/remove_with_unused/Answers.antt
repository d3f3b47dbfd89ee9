use Rattle.std.proofs.Common.{◌≡◌, ◌≢◌, ◌++◌, length, Ok, Err, sym, ap, ◌∙◌, subst}
use Rattle.std.specs.Prelude.{true}
use Rattle.std.proofs.lemmas.Result.{err_from_is_err_and}
use Rattle.meson_splice.specs.Patch.{then_ok}
use Rattle.meson_calls.specs.declared.refusal.Refusal.TheVariants.{OutOfMemory}
use Rattle.meson_calls.specs.Loading.{project}
use Rattle.meson_calls.specs.Notes.{notes}
use Rattle.meson_steps.specs.Done.{MayNotBeDone, unmeant}
use Rattle.meson_steps.specs.Plans.{ArePlanned}
use Rattle.meson_steps.specs.ResultLimits.{plain_trees}
use Rattle.meson_steps.specs.Working.{so_far}
use Rattle.meson_steps.proofs.UnderWay.{refused_anyway}
use Rattle.meson_targets.specs.inside.TargetViews.{place_view}
use Rattle.meson_code.specs.Removal.{removed_at}
use Rattle.meson_code.specs.Removing.{code_removed_at, steps_after}
use Rattle.meson_code.specs.Unused.{names_read, unused_steps}
use Rattle.meson_code.proofs.WholeRemovals.{after_is, all_removed, first_removed, first_under_way}
use Rattle.meson_code.proofs.removing.remove_with_unused.Goals as goal

pub returns-in_err-steps-clause-refused : goal.returns-in_err-steps-clause-refused
returns-in_err-steps-clause-refused c =
    let error = err_from_is_err_and c.from_residual-in_err-steps.result c.from_residual-in_err-steps.ensures.1 in
    rw (error.1, error.2) (λ other.
    let old = so_far c.args.work.now in
    let a = place_view c.args.statement in
    let e = c.in_err-steps.field-0.0 in
    let why = subst (λ l. removed_at l a ≡ Err e) c.sources_of-sources.ensures (c.in_err-steps.ensures.refused other) in
    unmeant e (ap (λ m. then_ok m (λ ss. Ok (ss ++ steps_after old a))) why))

pub do_steps-requires : goal.do_steps-requires
do_steps-requires c =
    let w = c.args.work.now in
    let a = place_view c.args.statement in
    let code = c.in_ok-steps.steps.items in
    let plan = subst (λ l. ArePlanned l (removed_at l a) code) c.sources_of-sources.ensures c.in_ok-steps.ensures.plan in
    (so_far w, plan.steps, first_under_way w c.requires.fresh a code plan)

pub remove_unused-requires : goal.remove_unused-requires
remove_unused-requires c =
    let w = c.args.work.now in
    let a = place_view c.args.statement in
    let code = c.in_ok-steps.steps.items in
    let plan = subst (λ l. ArePlanned l (removed_at l a) code) c.sources_of-sources.ensures c.in_ok-steps.ensures.plan in
    let reached = c.in_ok-do_steps.ensures.done (so_far w) plan.steps (first_under_way w c.requires.fresh a code plan) in
    (so_far w, plan.steps, first_removed w c.requires.fresh a code plan c.do_steps.new.self reached)

pub returns-in_err-remove_unused-clause-restores : goal.returns-in_err-remove_unused-clause-restores
returns-in_err-remove_unused-clause-restores c = λ first r. c.in_err-remove_unused.ensures.restores first (c.in_ok-do_steps.ensures.restores first r)

pub returns-clause-done : goal.returns-clause-done
returns-clause-done c =
    let w = c.args.work.now in
    let a = place_view c.args.statement in
    let code = c.in_ok-steps.steps.items in
    let plan = subst (λ l. ArePlanned l (removed_at l a) code) c.sources_of-sources.ensures c.in_ok-steps.ensures.plan in
    let reached = c.in_ok-do_steps.ensures.done (so_far w) plan.steps (first_under_way w c.requires.fresh a code plan) in
    let h = first_removed w c.requires.fresh a code plan c.do_steps.new.self reached in
    let rest = unused_steps c.in_ok-turns.turns c.in-Ok.files c.in_ok-names.names.items (plain_trees (so_far c.do_steps.new.self)) in
    let same : rest ≡ steps_after (so_far w) a =
    after_is w c.requires.fresh a code plan c.in_ok-turns.turns c.in-Ok.files c.in_ok-names.names.items c.do_steps.new.self reached
    (c.in_ok-turns.ensures ∙ ap (λ l. length (notes (project l))) c.sources_of-sources.ensures) c.in-Ok.ensures.copied
    (c.in_ok-names.ensures ∙ ap (λ l. names_read (project l) a) c.sources_of-sources.ensures) in
    let all = all_removed w c.requires.fresh a code plan ∙ ap (λ ss. Ok (plan.steps ++ ss)) (sym same) in
    let done = c.in_ok-remove_unused.ensures.done (so_far w) plan.steps h in
    c.within_limits.ensures.done (so_far w) (code_removed_at (so_far w) true a) (plan.steps ++ rest) all done.reached

pub returns-clause-restores : goal.returns-clause-restores
returns-clause-restores c = λ first r. c.in_ok-remove_unused.ensures.restores first (c.in_ok-do_steps.ensures.restores first r)

pub returns-clause-refused : goal.returns-clause-refused
returns-clause-refused c =
    let w = c.args.work.now in
    let a = place_view c.args.statement in
    let code = c.in_ok-steps.steps.items in
    let plan = subst (λ l. ArePlanned l (removed_at l a) code) c.sources_of-sources.ensures c.in_ok-steps.ensures.plan in
    let reached = c.in_ok-do_steps.ensures.done (so_far w) plan.steps (first_under_way w c.requires.fresh a code plan) in
    let h = first_removed w c.requires.fresh a code plan c.do_steps.new.self reached in
    let rest = unused_steps c.in_ok-turns.turns c.in-Ok.files c.in_ok-names.names.items (plain_trees (so_far c.do_steps.new.self)) in
    let same : rest ≡ steps_after (so_far w) a =
    after_is w c.requires.fresh a code plan c.in_ok-turns.turns c.in-Ok.files c.in_ok-names.names.items c.do_steps.new.self reached
    (c.in_ok-turns.ensures ∙ ap (λ l. length (notes (project l))) c.sources_of-sources.ensures) c.in-Ok.ensures.copied
    (c.in_ok-names.ensures ∙ ap (λ l. names_read (project l) a) c.sources_of-sources.ensures) in
    let all = all_removed w c.requires.fresh a code plan ∙ ap (λ ss. Ok (plan.steps ++ ss)) (sym same) in
    let done = c.in_ok-remove_unused.ensures.done (so_far w) plan.steps h in
    refused_anyway (MayNotBeDone (so_far w) (code_removed_at (so_far w) true a)) (λ e. e ≢ OutOfMemory) c.within_limits.result
    (c.within_limits.ensures.refused (so_far w) (code_removed_at (so_far w) true a) (plan.steps ++ rest) all done.reached)
