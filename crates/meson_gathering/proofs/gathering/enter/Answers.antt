use Rattle.std.proofs.Common.{◌∷◌, [], None, inr, refl, sym, option_map}
use Rattle.meson_splice.specs.Files.{position_of_file}
use Rattle.meson_gathering.specs.Gathering.{Told, file_of, Ending}
use Rattle.meson_gathering.specs.ReadCounts.{MayAskIfNew, unread_file}
use Rattle.meson_gathering.specs.Gathered.{StopsAt}
use Rattle.meson_gathering.specs.inside.Gathered.{IsNotEntered, past_limit, at_name, IsNotAdded}
use Rattle.meson_gathering.proofs.Asking.{asks_and_reads, asks_for_file, asks_for_none, asks_nothing, is_new, may_ask_new, unadded_reads}
use Rattle.meson_gathering.proofs.EnteredFiles.{enter_new, next_name}
use Rattle.meson_gathering.proofs.Stopping.{if_err, unadded_stops, unread_stops}
use Rattle.meson_gathering.proofs.gathering.enter.Goals as goal

pub returns-in-Ok-Some-clause-stopped : goal.returns-in-Ok-Some-clause-stopped
returns-in-Ok-Some-clause-stopped g c =
    let files = c.args.files.now in
    let name = c.args.name.now in
    let folder = option_map (λ f. f.now) c.args.folder in
    let f = file_of name c.in-Ok-Some.bytes.items in
    let P : Ending → Type 0 = λ end. Told (g.S.Store.content c.args.store.now) (λ content. IsNotEntered content folder (name ∷ []) files end) in
    let read = rw c.in-Ok-Some.field-0-is at c.in-Ok-Some.ensures.read in
    let failed = g.S.Store.failures c.args.store.now in
    let failed' = g.S.Store.failures c.read_file.new.store in
    if_err (IsNotAdded files f) (StopsAt failed failed' P) (unadded_stops P failed failed' files f (λ none content is. let absent = is_new files name (position_of_file name files) refl (sym c.if-has.ensures) in past_limit (enter_new content folder files name c.in-Ok-Some.bytes.items None absent (sym (read content is)) none)))
    c.add.result c.add.ensures.stopped

pub returns-in-Err-clause-stopped : goal.returns-in-Err-clause-stopped
returns-in-Err-clause-stopped g c =
    let files = c.args.files.now in
    let name = c.args.name.now in
    let folder = option_map (λ f. f.now) c.args.folder in
    let P : Ending → Type 0 = λ end. Told (g.S.Store.content c.args.store.now) (λ content. IsNotEntered content folder (name ∷ []) files end) in
    unread_stops P (g.S.Store.failures c.args.store.now) (g.S.Store.failures c.read_file.new.store) name c.in-Err.fault
    (λ content is. let absent = is_new files name (position_of_file name files) refl (sym c.if-has.ensures) in at_name name (next_name content folder files name absent)) c.in-Err.ensures.failed

pub returns-then-has-clause-asks : goal.returns-then-has-clause-asks
returns-then-has-clause-asks g c =
    let S = g.S.Store in
    let reads = S.reads c.args.store.now in
    asks_nothing (S.content c.args.store.now) (option_map (λ f. f.now) c.args.folder) c.args.name.now c.args.files.now reads reads (position_of_file c.args.name.now c.args.files.now) refl (sym c.if-has.ensures)

pub returns-in-Ok-Some-clause-asks : goal.returns-in-Ok-Some-clause-asks
returns-in-Ok-Some-clause-asks g c =
    let S = g.S.Store in
    let files = c.args.files.now in
    let name = c.args.name.now in
    let before = S.content c.args.store.now in
    let folder = option_map (λ f. f.now) c.args.folder in
    let read = rw c.in-Ok-Some.field-0-is at c.in-Ok-Some.ensures.read in
    asks_for_file before folder name files (S.reads c.args.store.now) (S.reads c.read_file.new.store) (is_new files name (position_of_file name files) refl (sym c.if-has.ensures)) c.in-Ok-Some.ensures.once
    c.in-Ok-Some.bytes.items c.add.new.files read c.add.result c.add.ensures.added

pub returns-in-Ok-Some-clause-asks_at_most : goal.returns-in-Ok-Some-clause-asks_at_most
returns-in-Ok-Some-clause-asks_at_most g c =
    let S = g.S.Store in
    let files = c.args.files.now in
    let name = c.args.name.now in
    let f = file_of name c.in-Ok-Some.bytes.items in
    let reads = S.reads c.args.store.now in
    let reads' = S.reads c.read_file.new.store in
    let absent = is_new files name (position_of_file name files) refl (sym c.if-has.ensures) in
    if_err (IsNotAdded files f) (λ fault. MayAskIfNew name files reads reads' (unread_file fault))
    (λ fault h. inr (absent, asks_and_reads name reads reads' (unread_file fault) c.in-Ok-Some.ensures.once (unadded_reads files f fault h))) c.add.result c.add.ensures.stopped

pub returns-in-Ok-None-clause-asks : goal.returns-in-Ok-None-clause-asks
returns-in-Ok-None-clause-asks g c =
    let S = g.S.Store in
    let files = c.args.files.now in
    let name = c.args.name.now in
    let before = S.content c.args.store.now in
    let folder = option_map (λ f. f.now) c.args.folder in
    let read = rw c.in-Ok-None.field-0-is at c.in-Ok-None.ensures.read in
    asks_for_none before folder name files (S.reads c.args.store.now) (S.reads c.read_file.new.store) (is_new files name (position_of_file name files) refl (sym c.if-has.ensures)) c.in-Ok-None.ensures.once read

pub returns-in-Err-clause-asks_at_most : goal.returns-in-Err-clause-asks_at_most
returns-in-Err-clause-asks_at_most g c =
    let S = g.S.Store in
    let files = c.args.files.now in
    let name = c.args.name.now in
    may_ask_new name files (S.reads c.args.store.now) (S.reads c.read_file.new.store) _ (is_new files name (position_of_file name files) refl (sym c.if-has.ensures)) c.in-Err.ensures.asks_at_most
