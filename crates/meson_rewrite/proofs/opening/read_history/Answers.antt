use Rattle.std.proofs.Common.{option_map, ap, inr}
use Rattle.std.proofs.lemmas.Result.{IfErr-weaker, IfOk-weaker}
use Rattle.meson_rewrite.proofs.Opened.{bad-read, log-read, none-read, unread-log}
use Rattle.meson_gathering.proofs.Asking.{asks_and_reads}
use Rattle.meson_rewrite.proofs.UnreadFiles.{log-unread, memory-unread}
use Rattle.meson_rewrite.specs.Logs.{log_name}
use Rattle.meson_rewrite.specs.Stops.{WantsMemory, unread_by}
use Rattle.meson_gathering.specs.ReadCounts.{MayAsk}
use Rattle.meson_rewrite.proofs.opening.read_history.Goals as goal

pub returns-in-Ok-Some-clause-read : goal.returns-in-Ok-Some-clause-read
returns-in-Ok-Some-clause-read g c =
    let read = rw c.in-Ok-Some.field-0-is at c.in-Ok-Some.ensures.read in
    IfOk-weaker c.log_in.result _ _ (λ _ log content is. log-read _ c.in-Ok-Some.text.items _ _ (read content is) (ap (λ t. t.items) log.0) log.1) c.log_in.ensures.log

pub returns-in-Ok-Some-clause-none : goal.returns-in-Ok-Some-clause-none
returns-in-Ok-Some-clause-none g c =
    let read = rw c.in-Ok-Some.field-0-is at c.in-Ok-Some.ensures.read in
    IfErr-weaker c.log_in.result _ _ (λ stop none. bad-read _ (option_map (λ d. d.now) c.args.dir) _ _ c.in-Ok-Some.text.items stop read none) c.log_in.ensures.none

pub returns-in-Ok-None-clause-read : goal.returns-in-Ok-None-clause-read
returns-in-Ok-None-clause-read g c =
    let read = rw c.in-Ok-None.field-0-is at c.in-Ok-None.ensures.read in
    IfOk-weaker c.no_changes.result _ _ (λ _ log content is. none-read _ _ _ (read content is) log) c.no_changes.ensures.log

pub returns-in-Err-clause-none : goal.returns-in-Err-clause-none
returns-in-Err-clause-none g c = unread-log _ (option_map (λ d. d.now) c.args.dir) _ _ c.in-Err.fault c.in-Err.ensures.failed

pub returns-in-Ok-Some-clause-asks_at_most : goal.returns-in-Ok-Some-clause-asks_at_most
returns-in-Ok-Some-clause-asks_at_most g c =
    let reads = g.S.Store.reads c.args.store.now in
    let reads' = g.S.Store.reads c.read_file.new.store in
    IfErr-weaker c.log_in.result _ (λ why. MayAsk log_name reads reads' (unread_by why))
    (λ why none. inr (asks_and_reads log_name reads reads' (unread_by why) c.in-Ok-Some.ensures.once (log-unread c.in-Ok-Some.text.items why none))) c.log_in.ensures.none

pub returns-in-Ok-None-clause-asks_at_most : goal.returns-in-Ok-None-clause-asks_at_most
returns-in-Ok-None-clause-asks_at_most g c =
    let reads = g.S.Store.reads c.args.store.now in
    let reads' = g.S.Store.reads c.read_file.new.store in
    IfErr-weaker c.no_changes.result WantsMemory (λ why. MayAsk log_name reads reads' (unread_by why))
    (λ why none. inr (asks_and_reads log_name reads reads' (unread_by why) c.in-Ok-None.ensures.once (memory-unread why none))) c.no_changes.ensures.none

pub returns-in-Err-clause-asks_at_most : goal.returns-in-Err-clause-asks_at_most
returns-in-Err-clause-asks_at_most g c = c.in-Err.ensures.asks_at_most
