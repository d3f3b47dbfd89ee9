use Rattle.std.proofs.Common.{◌++◌, ◌<◌, length, subst, ap, ◌∙◌, arith}
use Rattle.std.proofs.lemmas.List.{take_all}
use Rattle.std.proofs.lemmas.Result.{err_from_is_err_and}
use Rattle.meson_script.specs.Running.{RunsTo}
use Rattle.meson_script.proofs.RunFacts.{nothing-run, one-more-to, reaches, runs-of, stops-after, stops-before, stops-there}
use Rattle.meson_script.proofs.performing.perform_all.Goals as goal

pub loop-index-init : goal.loop-index-init
loop-index-init c = nothing-run c.args.form c.args.project.now c.new-splices.result.items c.new-info.result.text.items c.new-splices.ensures.items c.new-info.ensures

pub loop-index-preserved : goal.loop-index-preserved
loop-index-preserved c =
    let l = c.loop-index in
    let done = c.in-Ok.done in
    one-more-to c.args.form c.args.project.now l.project c.performed.new.project c.args.commands.now l.index l.splices.items c.add_splices.new.splices.items l.relexed c.saturating_add-relexed.result
    l.info.text.items c.performed.new.info.text.items c.index-commands-index.result done
    l.invariant c.reads.ensures c.loop-index-test.true c.index-commands-index.is c.in-Ok.ensures.listed c.in-Ok.ensures.done
    c.in_ok-add_splices.ensures.done c.saturating_add-relexed.ensures

pub returns-in-Err-clause-refused : goal.returns-in-Err-clause-refused
returns-in-Err-clause-refused c = λ told.
    let l = c.loop-index in
    let r = runs-of l.invariant.runs in
    stops-there c.args.project.now l.project c.args.commands.now l.index l.splices.items l.relexed r.0 c.index-commands-index.result c.in-Err.refusal
    r.1 c.reads.ensures c.loop-index-test.true c.index-commands-index.is (c.in-Err.ensures.refused told)

pub returns-clause-done : goal.returns-clause-done
returns-clause-done c =
    let l = c.loop-index in
    let r = subst (λ cs. RunsTo c.args.form c.args.project.now cs l.splices.items l.relexed l.info.text.items l.project) (take_all l.index c.args.commands.now (omega arith)) l.invariant in
    record { shown = r.shown; runs = r.runs; is_text = c.take.ensures ∙ r.is_text }

pub returns-in-Err-clause-index : goal.returns-in-Err-clause-index
returns-in-Err-clause-index c =
    let l = c.loop-index in
    let r = runs-of l.invariant.runs in
    reaches c.args.project.now l.project c.args.commands.now l.index l.splices.items l.relexed r.0 r.1 (let below : l.index < length c.args.commands.now = c.loop-index-test.true in omega arith) (λ some. c.loop-index-test.true)

pub returns-in_err-add_splices-clause-index : goal.returns-in_err-add_splices-clause-index
returns-in_err-add_splices-clause-index c =
    let l = c.loop-index in
    let r = runs-of l.invariant.runs in
    let error = err_from_is_err_and c.from_residual.result c.from_residual.ensures.1 in
    rw (error.1, error.2, c.in_err-add_splices.ensures.refused)
    (reaches c.args.project.now l.project c.args.commands.now l.index l.splices.items l.relexed r.0 r.1 (let below : l.index < length c.args.commands.now = c.loop-index-test.true in omega arith) (λ some. c.loop-index-test.true))

pub returns-in-Err-clause-during : goal.returns-in-Err-clause-during
returns-in-Err-clause-during c =
    let l = c.loop-index in
    let r = runs-of l.invariant.runs in
    stops-before c.args.project.now l.project c.performed.new.project c.args.commands.now l.index l.splices.items l.relexed r.0 r.1 c.loop-index-test.true c.in-Err.ensures.kept

pub returns-in_err-add_splices-clause-during : goal.returns-in_err-add_splices-clause-during
returns-in_err-add_splices-clause-during c =
    let l = c.loop-index in
    let r = runs-of l.invariant.runs in
    let a = c.in-Ok.ensures.listed l.invariant.shown l.invariant.is_text in
    let error = err_from_is_err_and c.from_residual.result c.from_residual.ensures.1 in
    rw (error.1, error.2, c.in_err-add_splices.ensures.refused)
    (stops-after c.args.project.now l.project c.performed.new.project c.args.commands.now l.index l.splices.items l.relexed r.0 a.plain
    c.index-commands-index.result c.in-Ok.done r.1 c.reads.ensures c.loop-index-test.true c.index-commands-index.is a.is_plain c.in-Ok.ensures.done)
