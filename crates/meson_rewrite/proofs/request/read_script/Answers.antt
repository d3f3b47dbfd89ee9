use Rattle.std.proofs.Common.{◌∙◌, ap, inr, subst, sym}
use Rattle.std.proofs.lemmas.Result.{IfErr-weaker, IfOk-weaker, err_from_is_err_and}
use Rattle.meson_rewrite.specs.Requests.{HasBytes, script_in}
use Rattle.meson_rewrite.proofs.Scripts.{bad-file, no-script}
use Rattle.meson_gathering.proofs.Asking.{asks_and_reads}
use Rattle.meson_rewrite.proofs.UnreadFiles.{bad-unread}
use Rattle.meson_rewrite.specs.Stops.{unread_by}
use Rattle.meson_gathering.specs.ReadCounts.{MayAsk}
use Rattle.meson_rewrite.proofs.request.read_script.Goals as goal

pub returns-clause-read : goal.returns-clause-read
returns-clause-read g c =
    let file = c.in_ok-file.file in
    IfOk-weaker c.script_in.result _ _ (λ script is. (file.bytes, c.in_ok-file.ensures.read.1, ap (script_in c.args.unknown) (sym c.get.ensures) ∙ is)) c.script_in.ensures.ok

pub returns-clause-none : goal.returns-clause-none
returns-clause-none g c =
    let held = g.S.Store.content c.args.store.now in
    let has = subst (HasBytes held c.args.name) (sym c.get.ensures) c.in_ok-file.ensures.read.1 in
    IfErr-weaker c.script_in.result _ _ (λ stop none. bad-file c.args.flags held _ _ c.args.name c.get.result.now c.args.unknown stop has none) c.script_in.ensures.none

pub returns-in_err-file-clause-none : goal.returns-in_err-file-clause-none
returns-in_err-file-clause-none g c =
    let S = g.S.Store in
    let error = err_from_is_err_and c.from_residual.result c.from_residual.ensures.1 in
    rw (error.1, error.2) (no-script c.args.flags (S.content c.args.store.now) (S.failures c.args.store.now) (S.failures c.read_named.new.store) c.args.name c.args.unknown c.in_err-file.field-0.0 c.in_err-file.ensures.none)

pub returns-clause-asks_at_most : goal.returns-clause-asks_at_most
returns-clause-asks_at_most g c =
    let reads = g.S.Store.reads c.args.store.now in
    let reads' = g.S.Store.reads c.read_named.new.store in
    IfErr-weaker c.script_in.result _ (λ why. MayAsk c.args.name reads reads' (unread_by why))
    (λ why none. inr (asks_and_reads c.args.name reads reads' (unread_by why) c.in_ok-file.ensures.once (bad-unread c.args.flags (script_in c.args.unknown c.get.result.now) why none))) c.script_in.ensures.none

pub returns-in_err-file-clause-asks_at_most : goal.returns-in_err-file-clause-asks_at_most
returns-in_err-file-clause-asks_at_most g c =
    let error = err_from_is_err_and c.from_residual.result c.from_residual.ensures.1 in
    rw (error.1, error.2) c.in_err-file.ensures.asks_at_most
