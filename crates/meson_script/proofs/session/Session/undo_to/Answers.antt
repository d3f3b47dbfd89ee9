use Rattle.std.proofs.Common.{◌≡◌, ◌+◌, refl, sym, ap, ◌∙◌, subst, arith, rules}
use Rattle.std.proofs.lemmas.Result.{err_from_is_err_and}
use Rattle.meson_splice.specs.declared.fault.SpliceFault.TheVariants.{OutOfMemory}
use Rattle.meson_steps.specs.ResultLimits.{saturated}
use Rattle.meson_script.specs.Undoing.{StopsBack}
use Rattle.meson_script.specs.declared.fault.UndoFault.TheVariants.{Splice}
use Rattle.meson_script.proofs.RunFacts.{names}
use Rattle.meson_script.proofs.Undos.{AreBack, no-memory-back, no-memory-stops, none-back, one-more-back, stack-stops, stops-back, times-names}
use Rattle.meson_script.proofs.session.Session.undo_to.Goals as goal

pub loop-init : goal.loop-init
loop-init c = none-back c.args.self.now c.of-title.result (search rules)

pub loop-preserved : goal.loop-preserved
loop-preserved c =
    let l = c.loop in
    let report = c.in_ok-undo.field-0 in
    one-more-back l.counter c.args.self.now l.self c.undo.new.self l.splices c.saturating_add-splices.result l.title c.splices_and_title-more.result.1 report
    l.invariant c.in_ok-undo.ensures.done c.in_ok-undo.ensures.step c.in_ok-undo.ensures.text
    (c.saturating_add-splices.ensures ∙ ap (λ both. saturated (l.splices + both.0)) c.splices_and_title-more.ensures) (ap (λ both. both.1) c.splices_and_title-more.ensures)

pub returns-in_err-first-clause-refused : goal.returns-in_err-first-clause-refused
returns-in_err-first-clause-refused c =
    let error = err_from_is_err_and c.from_residual.result c.from_residual.ensures.1 in
    rw (error.1, error.2) (no-memory-back c.args.count c.args.self.now (Splice OutOfMemory) refl)

pub returns-in_err-first-clause-fits : goal.returns-in_err-first-clause-fits
returns-in_err-first-clause-fits c =
    let error = err_from_is_err_and c.from_residual.result c.from_residual.ensures.1 in
    rw (error.1, error.2) (λ s stands. no-memory-stops c.args.count s (Splice OutOfMemory) refl)

pub returns-in_err-undo-clause-refused : goal.returns-in_err-undo-clause-refused
returns-in_err-undo-clause-refused c =
    let l = c.loop in
    let error = err_from_is_err_and c.from_residual-in_err-undo.result c.from_residual-in_err-undo.ensures.1 in
    rw (error.1, error.2) (subst (StopsBack c.args.count c.args.self.now c.in_err-undo.field-0.0) (sym c.in_err-undo.ensures.kept)
    (stops-back c.args.count l.counter c.args.self.now l.self l.splices l.title c.in_err-undo.field-0.0 l.invariant c.loop-test.true c.in_err-undo.ensures.refused))

pub returns-in_err-undo-clause-fits : goal.returns-in_err-undo-clause-fits
returns-in_err-undo-clause-fits c =
    let l = c.loop in
    let error = err_from_is_err_and c.from_residual-in_err-undo.result c.from_residual-in_err-undo.ensures.1 in
    rw (error.1, error.2) (stack-stops c.args.count l.counter c.args.self.now l.self l.splices l.title c.in_err-undo.field-0.0 l.invariant c.loop-test.true c.in_err-undo.ensures.fits)

pub count_differing-files-requires : goal.count_differing-files-requires
count_differing-files-requires c =
    let l = c.loop in
    ap names (c.in_ok-first.ensures.cases ∙ c.files.ensures)
    ∙ times-names l.counter c.args.self.now.history l.self.history c.args.self.now.project.files l.self.project.files l.invariant.are_steps
    ∙ ap names (sym c.files-2.ensures)

pub returns-clause-done : goal.returns-clause-done
returns-clause-done c =
    let l = c.loop in
    let now = l.self in
    let all : l.counter ≡ c.args.count = omega (arith, c.loop-test.false, c.loop.auto.counter-end) in
    let b = subst (λ n. AreBack n c.args.self.now l.splices l.title now) all l.invariant in
    record {
      taken = b.taken;
      are_last = b.are_last;
      many = b.as_many;
      are_steps = b.are_steps;
      files = search rules;
      splices = c.stepped.ensures.counts.1 ∙ b.counted;
      title = c.stepped.ensures.title ∙ b.titled;
      relexed = c.stepped.ensures.counts.2;
      info = c.stepped.ensures.info;
    }

pub returns-clause-step : goal.returns-clause-step
returns-clause-step c = λ s stands.
    let l = c.loop in
    let all : l.counter ≡ c.args.count = omega (arith, c.loop-test.false, c.loop.auto.counter-end) in
    (subst (λ n. AreBack n c.args.self.now l.splices l.title l.self) all l.invariant).step s stands

pub returns-clause-text : goal.returns-clause-text
returns-clause-text c = c.loop.invariant.text
