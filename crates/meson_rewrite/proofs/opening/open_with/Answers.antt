use Rattle.std.proofs.Common.{◌∙◌, ap, option_map, inl, inr, subst, sym}
use Rattle.std.proofs.lemmas.Result.{err_from_is_err_and}
use Rattle.meson_rewrite.proofs.Opened.{no-log-opens}
use Rattle.meson_rewrite.proofs.UnreadFiles.{gathered-unread}
use Rattle.meson_rewrite.specs.Opening.{OpensNone, no_project}
use Rattle.meson_rewrite.specs.StoreReads.{ReadsWithLog}
use Rattle.meson_rewrite.specs.Stops.{unread_by}
use Rattle.meson_gathering.specs.ReadCounts.{StopsReading}
use Rattle.meson_rewrite.proofs.opening.open_with.Goals as goal

pub returns-in-Err-clause-none : goal.returns-in-Err-clause-none
returns-in-Err-clause-none g c =
    let dir = option_map (λ d. d.now) c.args.dir in
    inr (subst (OpensNone c.args.log_use c.args.reading (g.S.Store.content c.args.store.now) dir (g.S.Store.failures c.args.store.now) (g.S.Store.failures c.gather.new.store)) (sym c.from.ensures) (no_project c.in-Err.fault c.in-Err.ensures.stopped))

pub returns-in_err-log-clause-none : goal.returns-in_err-log-clause-none
returns-in_err-log-clause-none g c =
    let p = err_from_is_err_and c.from_residual.result c.from_residual.ensures.1 in
    rw (p.1, p.2) (no-log-opens c.args.log_use c.args.reading (g.S.Store.content c.args.store.now) (g.S.Store.content c.gather.new.store) (option_map (λ d. d.now) c.args.dir) (g.S.Store.failures c.args.store.now) (g.S.Store.failures c.gather.new.store) (g.S.Store.failures c.used_log.new.store)
    c.gather.ensures.kept c.gather.ensures.counts c.used_log.ensures.counts c.in-Ok.project.files c.in-Ok.ensures.files c.in_err-log.field-0.0 c.in_err-log.ensures.none)

pub returns-in-Err-clause-reads_at_most : goal.returns-in-Err-clause-reads_at_most
returns-in-Err-clause-reads_at_most g c =
    let S = g.S.Store in
    let dir = option_map (λ d. d.now) c.args.dir in
    inl (subst (StopsReading c.args.reading (S.content c.args.store.now) dir (S.reads c.args.store.now) (S.reads c.gather.new.store)) (sym (ap unread_by c.from.ensures ∙ gathered-unread c.in-Err.fault)) c.in-Err.ensures.asks_at_most)

pub returns-in_err-log-clause-reads_at_most : goal.returns-in_err-log-clause-reads_at_most
returns-in_err-log-clause-reads_at_most g c =
    let p = err_from_is_err_and c.from_residual.result c.from_residual.ensures.1 in
    rw (p.1, p.2) (inr (c.in-Ok.project.files, g.S.Store.reads c.gather.new.store, c.in-Ok.ensures.asks, c.in_err-log.ensures.asks_at_most))

pub returns-clause-reads : goal.returns-clause-reads
returns-clause-reads g c =
    let S = g.S.Store in
    let dir = option_map (λ d. d.now) c.args.dir in
    subst (λ s. ReadsWithLog c.args.log_use c.args.reading (S.content c.args.store.now) dir (S.reads c.args.store.now) s.project.files (S.reads c.used_log.new.store)) (sym c.of.ensures)
    (S.reads c.gather.new.store, c.in-Ok.ensures.asks, c.in_ok-log.ensures.reads)
