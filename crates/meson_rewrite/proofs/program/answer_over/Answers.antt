use Rattle.std.proofs.Common.{◌≡◌, ◌≤◌, ◌+◌, ◌∙◌, ℕ, Ok, Option, subst, sym}
use Rattle.std.specs.Prelude.{OnOk}
use Rattle.meson_command.specs.Asking.{without_text}
use Rattle.meson_store.specs.Content.{Content}
use Rattle.meson_store.specs.Seen.{seen}
use Rattle.meson_store.specs.Texts.{texts_over}
use Rattle.meson_rewrite.proofs.TextEnds.{ok-more, over-below}
use Rattle.meson_rewrite.specs.Runs.{Ends}
use Rattle.meson_rewrite.specs.StoreReads.{MayRead, ReadsAll, unread_in}
use Rattle.meson_rewrite.proofs.program.answer_over.Goals as goal

pub returns-clause-ends : goal.returns-clause-ends
returns-clause-ends g c =
    let S = g.S.Store in
    let a = c.args.asked in
    let texts = c.args.texts.now in
    let over = c.answer.new.store in
    let below = c.args.store.now in
    let held = texts_over texts (S.content below) in
    let from : Option Content → ℕ → Type 0 = λ content n. Ends (Ok (without_text a)) (seen (texts_over texts content) n 0) (seen (texts_over texts (S.content over.store.now)) (S.failures over.store.now) 0) c.answer.result in
    let count = c.failures-failures.result in
    let ends = over-below a c.requires.asks c.answer.result held (texts_over over.texts.now (S.content over.store.now)) count over.failures (S.failures over.store.now) over.refused
    over.failures_below over.no_other_failures c.answer.ensures.ends in
    let same : S.content over.store.now ≡ S.content below = over.kept ∙ sym c.requires.content in
    subst (λ content. from content g.B.Below.failures) c.requires.content
    (subst (from (S.content below)) (c.failures-failures.ensures ∙ c.requires.failures)
    (subst (λ content. Ends (Ok (without_text a)) (seen held count 0) (seen (texts_over texts content) (S.failures over.store.now) 0) c.answer.result) (sym same) ends))

pub returns-clause-reads : goal.returns-clause-reads
returns-clause-reads g c =
    let S = g.S.Store in
    let a = c.args.asked in
    let over = c.answer.new.store in
    subst (λ content. (n : ℕ) × (S.reads over.store.now ≤ g.B.Below.reads + n) × MayRead (Ok (without_text a)) (texts_over c.args.texts.now content) 0 n (unread_in c.answer.result)) c.requires.content
    (over.reads, over.reads_below, c.answer.ensures.reads)

pub returns-clause-reads_all : goal.returns-clause-reads_all
returns-clause-reads_all g c =
    let S = g.S.Store in
    let a = c.args.asked in
    let over = c.answer.new.store in
    subst (λ content. OnOk c.answer.result ((n : ℕ) × (S.reads over.store.now ≤ g.B.Below.reads + n) × ReadsAll (Ok (without_text a)) (texts_over c.args.texts.now content) 0 n)) c.requires.content
    (ok-more c.answer.result (λ all. (over.reads, over.reads_below, all)) c.answer.ensures.reads_all)
