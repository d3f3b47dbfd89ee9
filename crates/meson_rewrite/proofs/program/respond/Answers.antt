use Rattle.std.proofs.Common.{Ok, refl, subst, sym}
use Rattle.meson_command.specs.Asking.{without_text}
use Rattle.meson_rewrite.proofs.TextEnds.{ok-more}
use Rattle.meson_rewrite.specs.Runs.{Ends, with_texts, without_texts}
use Rattle.meson_rewrite.specs.StoreReads.{AskedMayRead, AskedReadsAll, unread_in}
use Rattle.meson_store.specs.Seen.{seen}
use Rattle.meson_rewrite.proofs.program.respond.Goals as goal

pub returns-in-Some-clause-ends : goal.returns-in-Some-clause-ends
returns-in-Some-clause-ends g c =
    with_texts (without_text c.args.asked) c.in-Some.name c.answer_with_texts.result refl c.in-Some.is c.answer_with_texts.ensures.ends

pub returns-in-Some-clause-untouched : goal.returns-in-Some-clause-untouched
returns-in-Some-clause-untouched g c = λ shows. let none = c.requires.none_shown shows in let is = c.in-Some.is in absurd (let no : ⊥ = cc in no)

pub returns-in-Some-clause-reads : goal.returns-in-Some-clause-reads
returns-in-Some-clause-reads g c =
    let S = g.S.Store in
    subst (λ texts. AskedMayRead (without_text c.args.asked) texts (S.content c.args.store.now) (S.reads c.args.store.now) (S.reads c.answer_with_texts.new.store) (unread_in c.answer_with_texts.result)) (sym c.in-Some.is) c.answer_with_texts.ensures.reads

pub returns-in-Some-clause-reads_all : goal.returns-in-Some-clause-reads_all
returns-in-Some-clause-reads_all g c =
    let S = g.S.Store in
    ok-more c.answer_with_texts.result
    (subst (λ texts. AskedReadsAll (without_text c.args.asked) texts (S.content c.args.store.now) (S.reads c.args.store.now) (S.reads c.answer_with_texts.new.store)) (sym c.in-Some.is)) c.answer_with_texts.ensures.reads_all

pub returns-in-None-clause-ends : goal.returns-in-None-clause-ends
returns-in-None-clause-ends g c =
    let S = g.S.Store in
    let b = seen (S.content c.args.store.now) (S.failures c.args.store.now) (S.replaces c.args.store.now) in
    let a = seen (S.content c.answer.new.store) (S.failures c.answer.new.store) (S.replaces c.answer.new.store) in
    without_texts c.answer.result c.in-None.is (subst (λ texts. Ends (Ok (without_text (record c.args.asked { texts = texts }))) b a c.answer.result) (sym c.in-None.is) c.answer.ensures.ends)

pub returns-in-None-clause-reads : goal.returns-in-None-clause-reads
returns-in-None-clause-reads g c =
    let S = g.S.Store in
    subst (λ texts. AskedMayRead (without_text c.args.asked) texts (S.content c.args.store.now) (S.reads c.args.store.now) (S.reads c.answer.new.store) (unread_in c.answer.result)) (sym c.in-None.is) c.answer.ensures.reads

pub returns-in-None-clause-reads_all : goal.returns-in-None-clause-reads_all
returns-in-None-clause-reads_all g c =
    let S = g.S.Store in
    ok-more c.answer.result
    (subst (λ texts. AskedReadsAll (without_text c.args.asked) texts (S.content c.args.store.now) (S.reads c.args.store.now) (S.reads c.answer.new.store)) (sym c.in-None.is)) c.answer.ensures.reads_all
