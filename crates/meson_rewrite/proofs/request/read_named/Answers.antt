use Rattle.std.proofs.Common.{◌∙◌, Some, inr, refl, sym, ap, subst}
use Rattle.std.specs.FinMap.{get}
use Rattle.meson_gathering.specs.Gathered.{IsUnread}
use Rattle.meson_gathering.specs.ReadCounts.{MayAsk, unread_name}
use Rattle.meson_rewrite.specs.Requests.{absent}
use Rattle.meson_rewrite.proofs.Scripts.{unread-file}
use Rattle.meson_rewrite.proofs.request.read_named.Goals as goal

pub returns-in-Ok-Some-clause-read : goal.returns-in-Ok-Some-clause-read
returns-in-Ok-Some-clause-read g c =
    let read = rw c.in-Ok-Some.field-0-is at c.in-Ok-Some.ensures.read in
    (refl, λ content is. ap (get content) (sym c.get.ensures) ∙ sym (read content is) ∙ ap Some (sym c.of.ensures))

pub returns-in-Ok-None-clause-none : goal.returns-in-Ok-None-clause-none
returns-in-Ok-None-clause-none g c =
    let read = rw c.in-Ok-None.field-0-is at c.in-Ok-None.ensures.read in
    inr (absent (λ content is. ap (get content) (sym c.get.ensures) ∙ sym (read content is)))

pub returns-in-Err-clause-none : goal.returns-in-Err-clause-none
returns-in-Err-clause-none g c =
    let first = g.S.Store.failures c.args.store.now in
    let last = g.S.Store.failures c.read_file.new.store in
    unread-file (g.S.Store.content c.args.store.now) first last c.args.name c.in-Err.fault (subst (λ n. IsUnread first last n c.in-Err.fault) c.get.ensures c.in-Err.ensures.failed)

pub returns-in-Ok-None-clause-asks_at_most : goal.returns-in-Ok-None-clause-asks_at_most
returns-in-Ok-None-clause-asks_at_most g c = inr (c.in-Ok-None.ensures.once, tt)

pub returns-in-Err-clause-asks_at_most : goal.returns-in-Err-clause-asks_at_most
returns-in-Err-clause-asks_at_most g c =
    let S = g.S.Store in
    subst (λ n. MayAsk n (S.reads c.args.store.now) (S.reads c.read_file.new.store) (unread_name c.in-Err.fault)) c.get.ensures c.in-Err.ensures.asks_at_most
