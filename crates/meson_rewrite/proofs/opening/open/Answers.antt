use Rattle.std.proofs.Common.{option_map, subst, ◌⊎◌}
use Rattle.std.specs.Prelude.{IfErr, IfOk}
use Rattle.meson_rewrite.specs.Opening.{Opens, OpensNone}
use Rattle.meson_rewrite.specs.StoreReads.{ReadsAtMost, ReadsWithLog}
use Rattle.meson_rewrite.specs.Stops.{WantsMemory, unread_by}
use Rattle.meson_rewrite.proofs.opening.open.Goals as goal

pub returns-clause-opens : goal.returns-clause-opens
returns-clause-opens g c =
    let dir = option_map (λ d. d.now) c.args.dir in
    subst (λ how. IfOk c.open_with.result (λ o. Opens how c.args.flags.reading (g.S.Store.content c.args.store.now) dir o.session o.log.items)) c.of.ensures c.open_with.ensures.opens

pub returns-clause-none : goal.returns-clause-none
returns-clause-none g c =
    let S = g.S.Store in
    let dir = option_map (λ d. d.now) c.args.dir in
    subst (λ how. IfErr c.open_with.result
    (λ why. WantsMemory why ⊎ OpensNone how c.args.flags.reading (S.content c.args.store.now) dir (S.failures c.args.store.now) (S.failures c.open_with.new.store) why))
    c.of.ensures c.open_with.ensures.none

pub returns-clause-reads : goal.returns-clause-reads
returns-clause-reads g c =
    let S = g.S.Store in
    let dir = option_map (λ d. d.now) c.args.dir in
    subst (λ how. IfOk c.open_with.result
    (λ o. ReadsWithLog how c.args.flags.reading (S.content c.args.store.now) dir (S.reads c.args.store.now) o.session.project.files (S.reads c.open_with.new.store)))
    c.of.ensures c.open_with.ensures.reads

pub returns-clause-reads_at_most : goal.returns-clause-reads_at_most
returns-clause-reads_at_most g c =
    let S = g.S.Store in
    let dir = option_map (λ d. d.now) c.args.dir in
    subst (λ how. IfErr c.open_with.result
    (λ why. ReadsAtMost how c.args.flags.reading (S.content c.args.store.now) dir (S.reads c.args.store.now) (S.reads c.open_with.new.store) (unread_by why)))
    c.of.ensures c.open_with.ensures.reads_at_most
