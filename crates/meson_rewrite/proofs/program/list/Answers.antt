use Rattle.std.proofs.Common.{option_map, refl}
use Rattle.std.proofs.lemmas.Result.{err_from_is_err_and}
use Rattle.meson_rewrite.proofs.EndedRuns.{listing-told, listing-unopened}
use Rattle.meson_rewrite.proofs.Reading.{on_ok, with-log-all, with-log-at-most}
use Rattle.meson_rewrite.proofs.UnreadFiles.{listing-unread}
use Rattle.meson_rewrite.specs.Logs.{log_use}
use Rattle.meson_rewrite.specs.StoreReads.{unread_in}
use Rattle.meson_store.specs.Seen.{Untouched, seen}
use Rattle.meson_rewrite.proofs.program.list.Goals as goal

pub returns-in_err-opened-clause-ends : goal.returns-in_err-opened-clause-ends
returns-in_err-opened-clause-ends g c =
    let S = g.S.Store in
    let dir = option_map (λ d. d.now) c.args.dir in
    let b = seen (S.content c.args.store.now) (S.failures c.args.store.now) (S.replaces c.args.store.now) in
    let a = seen (S.content c.open.new.store) (S.failures c.open.new.store) (S.replaces c.open.new.store) in
    let u : Untouched b a = record { kept = c.open.ensures.kept; counts = c.open.ensures.counts; no_replace = c.open.ensures.no_replace } in
    let error = err_from_is_err_and c.from_residual.result c.from_residual.ensures.1 in
    rw (error.1, error.2) (listing-unopened dir c.args.listing c.args.flags b a u c.in_err-opened.field-0.0 c.in_err-opened.ensures.none)

pub returns-clause-ends : goal.returns-clause-ends
returns-clause-ends g c =
    let S = g.S.Store in
    let dir = option_map (λ d. d.now) c.args.dir in
    let b = seen (S.content c.args.store.now) (S.failures c.args.store.now) (S.replaces c.args.store.now) in
    let a = seen (S.content c.open.new.store) (S.failures c.open.new.store) (S.replaces c.open.new.store) in
    let u : Untouched b a = record { kept = c.open.ensures.kept; counts = c.open.ensures.counts; no_replace = c.open.ensures.no_replace } in
    listing-told dir c.args.listing c.args.flags b a u c.in_ok-opened.opened.session c.in_ok-opened.opened.log.items c.in_ok-opened.ensures.opens c.listed.result c.listed.ensures.told c.listed.ensures.none

pub returns-in_err-opened-clause-reads : goal.returns-in_err-opened-clause-reads
returns-in_err-opened-clause-reads g c =
    let error = err_from_is_err_and c.from_residual.result c.from_residual.ensures.1 in
    rw (error.1, error.2) c.in_err-opened.ensures.reads_at_most

pub returns-clause-reads : goal.returns-clause-reads
returns-clause-reads g c =
    let S = g.S.Store in
    let dir = option_map (λ d. d.now) c.args.dir in
    with-log-at-most (log_use c.args.flags.no_log) c.args.flags.reading (S.content c.args.store.now) dir (S.reads c.args.store.now) c.in_ok-opened.opened.session.project.files (S.reads c.open.new.store) _ refl c.in_ok-opened.ensures.reads
    (unread_in c.listed.result) (listing-unread c.listed.result c.listed.ensures.none)

pub returns-clause-reads_all : goal.returns-clause-reads_all
returns-clause-reads_all g c =
    let S = g.S.Store in
    let dir = option_map (λ d. d.now) c.args.dir in
    on_ok c.listed.result (with-log-all (log_use c.args.flags.no_log) c.args.flags.reading (S.content c.args.store.now) dir (S.reads c.args.store.now) c.in_ok-opened.opened.session.project.files (S.reads c.open.new.store) _ refl c.in_ok-opened.ensures.reads c.in_ok-opened.ensures.opens.found)
