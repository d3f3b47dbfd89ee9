use Rattle.std.proofs.Common.{◌≡◌, ◌⊎◌, ℕ, List, Option, None, Result, Ok, Err, false, refl, true, option_map}
use Rattle.std.proofs.lemmas.Result.{err_from_is_err_and}
use Rattle.std.specs.Prelude.{IfErr, IfOk}
use Rattle.meson_rewrite.proofs.EndedRuns.{done-ends, dry-ends, failed-ends, stopped-acting, stopped-opening, told-ends}
use Rattle.meson_rewrite.proofs.Reading.{on_ok, with-log-all, with-log-at-most}
use Rattle.meson_rewrite.proofs.UnreadFiles.{acting-unread, commit-unread, stop-unread}
use Rattle.meson_rewrite.specs.inside.Edited.{IsShownWith, OnlyTells}
use Rattle.meson_command.specs.declared.asked.Flags.{Flags}
use Rattle.meson_rewrite.specs.Logs.{log_use}
use Rattle.meson_rewrite.specs.Opening.{Opens}
use Rattle.meson_rewrite.specs.Runs.{StepEnds}
use Rattle.meson_rewrite.specs.Steps.{MayRefuseStep, only_tells}
use Rattle.meson_rewrite.specs.StoreReads.{unread_in}
use Rattle.meson_rewrite.specs.Stops.{WantsMemory, unread_by}
use Rattle.meson_gathering.specs.ReadCounts.{unread_name}
use Rattle.meson_rewrite.specs.declared.request.Step.{Step}
use Rattle.meson_rewrite.specs.declared.said.Said.{Said}
use Rattle.meson_rewrite.specs.declared.stop.Stop.{Stop}
use Rattle.meson_script.specs.declared.session.Session.{Session}
use Rattle.meson_store.specs.Seen.{Seen, Untouched, seen}
use Rattle.meson_rewrite.proofs.program.do_step.Goals as goal

-- what is told, or why it is not, is the end
ends-by-telling : (dir : Option (List ℕ)) (step : Step) (flags : Flags) (b a : Seen) (u : Untouched b a) (old : Session) (log : List ℕ) → Opens (log_use flags.no_log) flags.reading b.content dir old log → only_tells step ≡ true
    → (end : Result Said Stop) → IfOk end (OnlyTells old step flags.json) → IfErr end (λ why. WantsMemory why ⊎ MayRefuseStep flags step old why) → StepEnds dir step flags b a end
ends-by-telling dir step flags b a u old log opens only (Ok said) is_told refused = told-ends dir step flags b a u old log opens only said is_told
ends-by-telling dir step flags b a u old log opens only (Err stop) is_told refused = stopped-acting dir step flags b a u old log opens stop refused

-- the same of what is shown
ends-by-showing : (dir : Option (List ℕ)) (step : Step) (flags : Flags) (b a : Seen) (u : Untouched b a) (old : Session) (log : List ℕ) → Opens (log_use flags.no_log) flags.reading b.content dir old log → only_tells step ≡ false → flags.dry_run ≡ true
    → (end : Result Said Stop) → IfOk end (IsShownWith flags old step) → IfErr end (λ why. WantsMemory why ⊎ MayRefuseStep flags step old why) → StepEnds dir step flags b a end
ends-by-showing dir step flags b a u old log opens writes dry (Ok said) is_shown refused = dry-ends dir step flags b a u old log opens writes dry said is_shown
ends-by-showing dir step flags b a u old log opens writes dry (Err stop) is_shown refused = stopped-acting dir step flags b a u old log opens stop refused

pub returns-in_err-opened-clause-ends : goal.returns-in_err-opened-clause-ends
returns-in_err-opened-clause-ends g c =
    let S = g.S.Store in
    let dir = option_map (λ d. d.now) c.args.dir in
    let b = seen (S.content c.args.store.now) (S.failures c.args.store.now) (S.replaces c.args.store.now) in
    let a = seen (S.content c.open.new.store) (S.failures c.open.new.store) (S.replaces c.open.new.store) in
    let u : Untouched b a = record { kept = c.open.ensures.kept; counts = c.open.ensures.counts; no_replace = c.open.ensures.no_replace } in
    let error = err_from_is_err_and c.from_residual.result c.from_residual.ensures.1 in
    rw (error.1, error.2) (stopped-opening dir c.args.step.now c.args.flags b a u c.in_err-opened.field-0.0 c.in_err-opened.ensures.none)

pub returns-then-only_tells-clause-ends : goal.returns-then-only_tells-clause-ends
returns-then-only_tells-clause-ends g c =
    let S = g.S.Store in
    let dir = option_map (λ d. d.now) c.args.dir in
    let b = seen (S.content c.args.store.now) (S.failures c.args.store.now) (S.replaces c.args.store.now) in
    let a = seen (S.content c.open.new.store) (S.failures c.open.new.store) (S.replaces c.open.new.store) in
    let u : Untouched b a = record { kept = c.open.ensures.kept; counts = c.open.ensures.counts; no_replace = c.open.ensures.no_replace } in
    let only : only_tells c.args.step.now ≡ true = cc in
    ends-by-telling dir c.args.step.now c.args.flags b a u c.in_ok-opened.opened.session c.in_ok-opened.opened.log.items c.in_ok-opened.ensures.opens only c.told.result c.told.ensures.told c.told.ensures.refused

pub returns-then-flags-clause-ends : goal.returns-then-flags-clause-ends
returns-then-flags-clause-ends g c =
    let S = g.S.Store in
    let dir = option_map (λ d. d.now) c.args.dir in
    let b = seen (S.content c.args.store.now) (S.failures c.args.store.now) (S.replaces c.args.store.now) in
    let a = seen (S.content c.open.new.store) (S.failures c.open.new.store) (S.replaces c.open.new.store) in
    let u : Untouched b a = record { kept = c.open.ensures.kept; counts = c.open.ensures.counts; no_replace = c.open.ensures.no_replace } in
    let writes : only_tells c.args.step.now ≡ false = cc in
    let dry : c.args.flags.dry_run ≡ true = cc in
    ends-by-showing dir c.args.step.now c.args.flags b a u c.in_ok-opened.opened.session c.in_ok-opened.opened.log.items c.in_ok-opened.ensures.opens writes dry c.shown.result c.shown.ensures.shown c.shown.ensures.refused

pub returns-in_err-edit-clause-ends : goal.returns-in_err-edit-clause-ends
returns-in_err-edit-clause-ends g c =
    let S = g.S.Store in
    let dir = option_map (λ d. d.now) c.args.dir in
    let b = seen (S.content c.args.store.now) (S.failures c.args.store.now) (S.replaces c.args.store.now) in
    let a = seen (S.content c.open.new.store) (S.failures c.open.new.store) (S.replaces c.open.new.store) in
    let u : Untouched b a = record { kept = c.open.ensures.kept; counts = c.open.ensures.counts; no_replace = c.open.ensures.no_replace } in
    let error = err_from_is_err_and c.from_residual-in_err-edit.result c.from_residual-in_err-edit.ensures.1 in
    rw (error.1, error.2) (stopped-acting dir c.args.step.now c.args.flags b a u c.in_ok-opened.opened.session c.in_ok-opened.opened.log.items c.in_ok-opened.ensures.opens c.in_err-edit.field-0.0 c.in_err-edit.ensures.refused)

pub returns-in-Ok-clause-ends : goal.returns-in-Ok-clause-ends
returns-in-Ok-clause-ends g c =
    let S = g.S.Store in
    let dir = option_map (λ d. d.now) c.args.dir in
    let b = seen (S.content c.args.store.now) (S.failures c.args.store.now) (S.replaces c.args.store.now) in
    let m = seen (S.content c.open.new.store) (S.failures c.open.new.store) (S.replaces c.open.new.store) in
    let a = seen (S.content c.commit.new.store) (S.failures c.commit.new.store) (S.replaces c.commit.new.store) in
    let u : Untouched b m = record { kept = c.open.ensures.kept; counts = c.open.ensures.counts; no_replace = c.open.ensures.no_replace } in
    let writes : only_tells c.args.step.now ≡ false = cc in
    let wet : c.args.flags.dry_run ≡ false = cc in
    done-ends dir c.args.step.now c.args.flags b m a u writes wet c.in_ok-opened.opened.session c.in_ok-opened.opened.log.items c.in_ok-opened.ensures.opens c.in_ok-edit.edit c.in_ok-edit.ensures.edited c.in-Ok.ensures.done

pub returns-in-Err-clause-ends : goal.returns-in-Err-clause-ends
returns-in-Err-clause-ends g c =
    let S = g.S.Store in
    let dir = option_map (λ d. d.now) c.args.dir in
    let b = seen (S.content c.args.store.now) (S.failures c.args.store.now) (S.replaces c.args.store.now) in
    let m = seen (S.content c.open.new.store) (S.failures c.open.new.store) (S.replaces c.open.new.store) in
    let a = seen (S.content c.commit.new.store) (S.failures c.commit.new.store) (S.replaces c.commit.new.store) in
    let u : Untouched b m = record { kept = c.open.ensures.kept; counts = c.open.ensures.counts; no_replace = c.open.ensures.no_replace } in
    let writes : only_tells c.args.step.now ≡ false = cc in
    let wet : c.args.flags.dry_run ≡ false = cc in
    failed-ends dir c.args.step.now c.args.flags b m a u writes wet c.in_ok-opened.opened.session c.in_ok-opened.opened.log.items c.in_ok-opened.ensures.opens c.in_ok-edit.edit c.in_ok-edit.ensures.edited c.in-Err.fault c.in-Err.ensures.failed

pub returns-in_err-opened-clause-reads : goal.returns-in_err-opened-clause-reads
returns-in_err-opened-clause-reads g c =
    let error = err_from_is_err_and c.from_residual.result c.from_residual.ensures.1 in
    rw (error.1, error.2) c.in_err-opened.ensures.reads_at_most

pub returns-then-only_tells-clause-reads : goal.returns-then-only_tells-clause-reads
returns-then-only_tells-clause-reads g c =
    let S = g.S.Store in
    let dir = option_map (λ d. d.now) c.args.dir in
    with-log-at-most (log_use c.args.flags.no_log) c.args.flags.reading (S.content c.args.store.now) dir (S.reads c.args.store.now) c.in_ok-opened.opened.session.project.files (S.reads c.open.new.store) _ refl c.in_ok-opened.ensures.reads
    (unread_in c.told.result) (acting-unread c.args.flags c.args.step.now c.in_ok-opened.opened.session c.told.result c.told.ensures.refused)

pub returns-then-only_tells-clause-reads_all : goal.returns-then-only_tells-clause-reads_all
returns-then-only_tells-clause-reads_all g c =
    let S = g.S.Store in
    let dir = option_map (λ d. d.now) c.args.dir in
    on_ok c.told.result (with-log-all (log_use c.args.flags.no_log) c.args.flags.reading (S.content c.args.store.now) dir (S.reads c.args.store.now) c.in_ok-opened.opened.session.project.files (S.reads c.open.new.store) _ refl c.in_ok-opened.ensures.reads c.in_ok-opened.ensures.opens.found)

pub returns-then-flags-clause-reads : goal.returns-then-flags-clause-reads
returns-then-flags-clause-reads g c =
    let S = g.S.Store in
    let dir = option_map (λ d. d.now) c.args.dir in
    with-log-at-most (log_use c.args.flags.no_log) c.args.flags.reading (S.content c.args.store.now) dir (S.reads c.args.store.now) c.in_ok-opened.opened.session.project.files (S.reads c.open.new.store) _ refl c.in_ok-opened.ensures.reads
    (unread_in c.shown.result) (acting-unread c.args.flags c.args.step.now c.in_ok-opened.opened.session c.shown.result c.shown.ensures.refused)

pub returns-then-flags-clause-reads_all : goal.returns-then-flags-clause-reads_all
returns-then-flags-clause-reads_all g c =
    let S = g.S.Store in
    let dir = option_map (λ d. d.now) c.args.dir in
    on_ok c.shown.result (with-log-all (log_use c.args.flags.no_log) c.args.flags.reading (S.content c.args.store.now) dir (S.reads c.args.store.now) c.in_ok-opened.opened.session.project.files (S.reads c.open.new.store) _ refl c.in_ok-opened.ensures.reads c.in_ok-opened.ensures.opens.found)

pub returns-in_err-edit-clause-reads : goal.returns-in_err-edit-clause-reads
returns-in_err-edit-clause-reads g c =
    let S = g.S.Store in
    let dir = option_map (λ d. d.now) c.args.dir in
    let error = err_from_is_err_and c.from_residual-in_err-edit.result c.from_residual-in_err-edit.ensures.1 in
    rw (error.1, error.2) (with-log-at-most (log_use c.args.flags.no_log) c.args.flags.reading (S.content c.args.store.now) dir (S.reads c.args.store.now) c.in_ok-opened.opened.session.project.files (S.reads c.open.new.store) _ refl c.in_ok-opened.ensures.reads
    (unread_by c.in_err-edit.field-0.0) (stop-unread c.args.flags c.args.step.now c.in_ok-opened.opened.session c.in_err-edit.field-0.0 c.in_err-edit.ensures.refused))

pub returns-in-Ok-clause-reads : goal.returns-in-Ok-clause-reads
returns-in-Ok-clause-reads g c =
    let S = g.S.Store in
    let dir = option_map (λ d. d.now) c.args.dir in
    with-log-at-most (log_use c.args.flags.no_log) c.args.flags.reading (S.content c.args.store.now) dir (S.reads c.args.store.now) c.in_ok-opened.opened.session.project.files (S.reads c.open.new.store) _ c.commit.ensures.no_read c.in_ok-opened.ensures.reads None refl

pub returns-in-Ok-clause-reads_all : goal.returns-in-Ok-clause-reads_all
returns-in-Ok-clause-reads_all g c =
    let S = g.S.Store in
    let dir = option_map (λ d. d.now) c.args.dir in
    with-log-all (log_use c.args.flags.no_log) c.args.flags.reading (S.content c.args.store.now) dir (S.reads c.args.store.now) c.in_ok-opened.opened.session.project.files (S.reads c.open.new.store) _ c.commit.ensures.no_read c.in_ok-opened.ensures.reads c.in_ok-opened.ensures.opens.found

pub returns-in-Err-clause-reads : goal.returns-in-Err-clause-reads
returns-in-Err-clause-reads g c =
    let S = g.S.Store in
    let dir = option_map (λ d. d.now) c.args.dir in
    with-log-at-most (log_use c.args.flags.no_log) c.args.flags.reading (S.content c.args.store.now) dir (S.reads c.args.store.now) c.in_ok-opened.opened.session.project.files (S.reads c.open.new.store) _ c.commit.ensures.no_read c.in_ok-opened.ensures.reads
    (unread_name c.in-Err.fault) (commit-unread _ _ _ c.in-Err.fault c.in-Err.ensures.failed)
