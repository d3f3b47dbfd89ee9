use Rattle.std.proofs.Common.{inl, refl}
use Rattle.std.proofs.lemmas.Result.{IfErr-weaker, IfOk-weaker}
use Rattle.meson_rewrite.proofs.Requests.{asks-anywhere, names-none}
use Rattle.meson_rewrite.proofs.UnreadFiles.{asked-unread}
use Rattle.meson_rewrite.proofs.request.request_of.Goals as goal

pub asked_for-requires-clause-no_file : goal.asked_for-requires-clause-no_file
asked_for-requires-clause-no_file g c = names-none c.args.action c.in_default.not-ScriptFile c.in_default.not-UndoChecked

pub returns-in_default-clause-asks : goal.returns-in_default-clause-asks
returns-in_default-clause-asks g c =
    let unnamed = names-none c.args.action c.in_default.not-ScriptFile c.in_default.not-UndoChecked in
    IfOk-weaker c.asked_for.result _ _ (λ r. asks-anywhere c.args.title c.args.action (g.S.Store.content c.args.store.now) r unnamed) c.asked_for.ensures.asks

pub returns-in_default-clause-reads_at_most : goal.returns-in_default-clause-reads_at_most
returns-in_default-clause-reads_at_most g c =
    let unnamed = names-none c.args.action c.in_default.not-ScriptFile c.in_default.not-UndoChecked in
    IfErr-weaker c.asked_for.result _ _ (λ why none. inl (refl, asked-unread c.args.flags c.args.action why unnamed none)) c.asked_for.ensures.none
