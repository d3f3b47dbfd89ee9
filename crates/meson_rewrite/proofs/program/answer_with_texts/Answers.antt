use Rattle.std.proofs.Common.{◌∙◌, Ok, inl, inr, subst, sym, ap}
use Rattle.std.specs.Prelude.{OnOk}
use Rattle.std.proofs.lemmas.Result.{err_from_is_err_and}
use Rattle.meson_command.specs.Asking.{without_text}
use Rattle.meson_gathering.proofs.Asking.{asks_and_reads}
use Rattle.meson_rewrite.proofs.TextEnds.{bad-texts-unread, ok-more, over-reads, texts-bad, texts-unread, with-files}
use Rattle.meson_rewrite.specs.Requests.{HasBytes}
use Rattle.meson_rewrite.specs.Stops.{unread_by}
use Rattle.meson_rewrite.specs.Runs.{TextsEnd}
use Rattle.meson_rewrite.specs.StoreReads.{MayRead, ReadsAll, TextsMayRead, TextsReadAll, unread_in}
use Rattle.meson_rewrite.specs.Texts.{placed}
use Rattle.meson_store.specs.Seen.{Untouched, seen}
use Rattle.meson_rewrite.proofs.program.answer_with_texts.Goals as goal

pub returns-in_err-file-clause-ends : goal.returns-in_err-file-clause-ends
returns-in_err-file-clause-ends g c =
    let S = g.S.Store in
    let b = seen (S.content c.args.store.now) (S.failures c.args.store.now) (S.replaces c.args.store.now) in
    let m = seen (S.content c.read_named.new.store) (S.failures c.read_named.new.store) (S.replaces c.read_named.new.store) in
    let u : Untouched b m = record { kept = c.read_named.ensures.kept; counts = c.read_named.ensures.counts; no_replace = c.read_named.ensures.no_replace } in
    let error = err_from_is_err_and c.from_residual.result c.from_residual.ensures.1 in
    rw (error.1, error.2) (texts-unread (without_text c.args.asked) c.args.name b m u c.in_err-file.field-0.0 c.in_err-file.ensures.none)

pub returns-in_err-file-clause-reads : goal.returns-in_err-file-clause-reads
returns-in_err-file-clause-reads g c =
    let error = err_from_is_err_and c.from_residual.result c.from_residual.ensures.1 in
    rw (error.1, error.2) (inl c.in_err-file.ensures.asks_at_most)

pub returns-in_err-texts-clause-ends : goal.returns-in_err-texts-clause-ends
returns-in_err-texts-clause-ends g c =
    let S = g.S.Store in
    let held = S.content c.args.store.now in
    let b = seen held (S.failures c.args.store.now) (S.replaces c.args.store.now) in
    let m = seen (S.content c.read_named.new.store) (S.failures c.read_named.new.store) (S.replaces c.read_named.new.store) in
    let u : Untouched b m = record { kept = c.read_named.ensures.kept; counts = c.read_named.ensures.counts; no_replace = c.read_named.ensures.no_replace } in
    let has = subst (HasBytes held c.args.name) (sym c.get.ensures) c.in_ok-file.ensures.read.1 in
    let error = err_from_is_err_and c.from_residual-in_err-texts.result c.from_residual-in_err-texts.ensures.1 in
    rw (error.1, error.2) (texts-bad (without_text c.args.asked) c.args.name b m u c.get.result.now has c.in_err-texts.field-0.0 c.in_err-texts.ensures.none)

pub returns-in_err-texts-clause-reads : goal.returns-in_err-texts-clause-reads
returns-in_err-texts-clause-reads g c =
    let S = g.S.Store in
    let why = c.in_err-texts.field-0.0 in
    let error = err_from_is_err_and c.from_residual-in_err-texts.result c.from_residual-in_err-texts.ensures.1 in
    rw (error.1, error.2) (inl (inr (asks_and_reads c.args.name (S.reads c.args.store.now) (S.reads c.read_named.new.store) (unread_by why) c.in_ok-file.ensures.once
    (bad-texts-unread c.get.result.now why c.in_err-texts.ensures.none))))

pub returns-clause-ends : goal.returns-clause-ends
returns-clause-ends g c =
    let S = g.S.Store in
    let held = S.content c.args.store.now in
    let read = c.read_named.new.store in
    let last = c.answer_over.result.now in
    let b = seen held (S.failures c.args.store.now) (S.replaces c.args.store.now) in
    let m = seen (S.content read) (S.failures read) (S.replaces read) in
    let a = seen (S.content last) (S.failures last) (S.replaces last) in
    let u : Untouched b m = record { kept = c.read_named.ensures.kept; counts = c.read_named.ensures.counts; no_replace = c.read_named.ensures.no_replace } in
    let v : Untouched m a = record { kept = c.answer_over.ensures.kept; counts = c.answer_over.ensures.counts; no_replace = c.answer_over.ensures.no_replace } in
    let has = subst (HasBytes held c.args.name) (sym c.get.ensures) c.in_ok-file.ensures.read.1 in
    let (texts, lists, are) = c.in_ok-texts.ensures.ok in
    let placed_so = are ∙ ap (λ dir. placed dir texts) c.folder.ensures in
    let back = c.store-1.given.1 (sym c.answer_over.ensures.same) in
    subst (λ s. TextsEnd (without_text c.args.asked) c.args.name b (seen (S.content s) (S.failures s) (S.replaces s)) c.answer_over.new.end) (sym back)
    (with-files (without_text c.args.asked) c.args.name c.get.result.now texts c.in_ok-texts.texts lists placed_so b m a c.answer_over.new.end u v has c.answer_over.ensures.ends)

pub returns-clause-reads : goal.returns-clause-reads
returns-clause-reads g c =
    let S = g.S.Store in
    let held = S.content c.args.store.now in
    let read = c.read_named.new.store in
    let a = without_text c.args.asked in
    let has = subst (HasBytes held c.args.name) (sym c.get.ensures) c.in_ok-file.ensures.read.1 in
    let (texts, lists, are) = c.in_ok-texts.ensures.ok in
    let placed_so = are ∙ ap (λ dir. placed dir texts) c.folder.ensures in
    let back = c.store-1.given.1 (sym c.answer_over.ensures.same) in
    subst (λ s. TextsMayRead a c.args.name held (S.reads c.args.store.now) (S.reads s) (unread_in c.answer_over.new.end)) (sym back)
    (inr (over-reads a c.args.name c.get.result.now texts c.in_ok-texts.texts lists placed_so held (S.content read) (S.reads c.args.store.now) (S.reads read) (S.reads c.answer_over.result.now)
    (λ content n n'. MayRead (Ok a) content n n' (unread_in c.answer_over.new.end)) c.read_named.ensures.kept c.in_ok-file.ensures.once has c.answer_over.ensures.reads))

pub returns-clause-reads_all : goal.returns-clause-reads_all
returns-clause-reads_all g c =
    let S = g.S.Store in
    let held = S.content c.args.store.now in
    let read = c.read_named.new.store in
    let a = without_text c.args.asked in
    let has = subst (HasBytes held c.args.name) (sym c.get.ensures) c.in_ok-file.ensures.read.1 in
    let (texts, lists, are) = c.in_ok-texts.ensures.ok in
    let placed_so = are ∙ ap (λ dir. placed dir texts) c.folder.ensures in
    let back = c.store-1.given.1 (sym c.answer_over.ensures.same) in
    subst (λ s. OnOk c.answer_over.new.end (TextsReadAll a c.args.name held (S.reads c.args.store.now) (S.reads s))) (sym back)
    (ok-more c.answer_over.new.end (over-reads a c.args.name c.get.result.now texts c.in_ok-texts.texts lists placed_so held (S.content read) (S.reads c.args.store.now) (S.reads read) (S.reads c.answer_over.result.now)
    (ReadsAll (Ok a)) c.read_named.ensures.kept c.in_ok-file.ensures.once has) c.answer_over.ensures.reads_all)
