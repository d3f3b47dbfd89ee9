use Rattle.std.proofs.Common.{Ok, inl, inr, refl, subst, sym}
use Rattle.meson_command.specs.Asking.{without_text}
use Rattle.meson_rewrite.proofs.EndedRuns.{listing-before, not-asked, shown-ends, step-before}
use Rattle.meson_rewrite.proofs.Reading.{asked-alone, listing-reads-all, shown-may-read, shown-reads-none, step-may-read, step-reads-all}
use Rattle.meson_rewrite.specs.Runs.{Ends, ListingEnds, StepEnds, lists, steps}
use Rattle.meson_rewrite.specs.StoreReads.{unread_in}
use Rattle.meson_rewrite.specs.Stops.{unread_by}
use Rattle.meson_store.specs.Seen.{Untouched, seen}
use Rattle.meson_rewrite.proofs.program.answer.Goals as goal

pub returns-in-Ok-Show-clause-ends : goal.returns-in-Ok-Show-clause-ends
returns-in-Ok-Show-clause-ends g c =
    let S = g.S.Store in
    let asked = c.args.asked in
    let b = seen (S.content c.args.store.now) (S.failures c.args.store.now) (S.replaces c.args.store.now) in
    let a = seen (S.content c.request_of.new.store) (S.failures c.request_of.new.store) (S.replaces c.request_of.new.store) in
    let u : Untouched b a = record { kept = c.request_of.ensures.kept; counts = c.request_of.ensures.counts; no_replace = c.request_of.ensures.no_replace } in
    let asks = rw c.in-Ok-Show.field-0-is at c.in-Ok-Show.ensures.asks in
    subst (λ said. Ends (Ok (without_text asked)) b a (Ok said)) (sym c.show.ensures) (shown-ends asked b a c.in-Ok-Show.text u asks)

pub returns-in-Ok-Step-clause-ends : goal.returns-in-Ok-Step-clause-ends
returns-in-Ok-Step-clause-ends g c =
    let S = g.S.Store in
    let asked = c.args.asked in
    let b = seen (S.content c.args.store.now) (S.failures c.args.store.now) (S.replaces c.args.store.now) in
    let m = seen (S.content c.request_of.new.store) (S.failures c.request_of.new.store) (S.replaces c.request_of.new.store) in
    let a = seen (S.content c.do_step.new.store) (S.failures c.do_step.new.store) (S.replaces c.do_step.new.store) in
    let u : Untouched b m = record { kept = c.request_of.ensures.kept; counts = c.request_of.ensures.counts; no_replace = c.request_of.ensures.no_replace } in
    let asks = rw c.in-Ok-Step.field-0-is at c.in-Ok-Step.ensures.asks in
    let ends = subst (λ dir. StepEnds dir c.in-Ok-Step.step asked.flags m a c.do_step.result) c.folder.ensures c.do_step.ensures.ends in
    steps asked c.in-Ok-Step.step c.do_step.result refl asks (step-before asked.dir c.in-Ok-Step.step asked.flags b m a c.do_step.result u c.do_step.ensures.counts ends)

pub returns-in-Ok-List-clause-ends : goal.returns-in-Ok-List-clause-ends
returns-in-Ok-List-clause-ends g c =
    let S = g.S.Store in
    let asked = c.args.asked in
    let b = seen (S.content c.args.store.now) (S.failures c.args.store.now) (S.replaces c.args.store.now) in
    let m = seen (S.content c.request_of.new.store) (S.failures c.request_of.new.store) (S.replaces c.request_of.new.store) in
    let a = seen (S.content c.list.new.store) (S.failures c.list.new.store) (S.replaces c.list.new.store) in
    let u : Untouched b m = record { kept = c.request_of.ensures.kept; counts = c.request_of.ensures.counts; no_replace = c.request_of.ensures.no_replace } in
    let asks = rw c.in-Ok-List.field-0-is at c.in-Ok-List.ensures.asks in
    let listing = c.in-Ok-List.listing in
    let ends = subst (λ dir. ListingEnds dir listing asked.flags m a c.list.result) c.folder-in-Ok-List.ensures c.list.ensures.ends in
    lists asked listing c.list.result refl asks (listing-before asked.dir listing asked.flags b m a c.list.result u c.list.ensures.counts ends)

pub returns-in-Ok-List-clause-reads : goal.returns-in-Ok-List-clause-reads
returns-in-Ok-List-clause-reads g c =
    let S = g.S.Store in
    let asks = rw c.in-Ok-List.field-0-is at c.in-Ok-List.ensures.asks in
    step-may-read c.args.asked (S.content c.args.store.now) (S.reads c.args.store.now) (S.content c.request_of.new.store) _ (S.reads c.request_of.new.store) (S.reads c.list.new.store)
    c.request_of.ensures.kept c.folder-in-Ok-List.ensures c.in-Ok-List.ensures.reads (unread_in c.list.result) (inr (c.in-Ok-List.listing, asks)) c.list.ensures.reads

pub returns-in-Ok-List-clause-reads_all : goal.returns-in-Ok-List-clause-reads_all
returns-in-Ok-List-clause-reads_all g c =
    let S = g.S.Store in
    let asked = c.args.asked in
    let before = S.content c.args.store.now in
    let asks = rw c.in-Ok-List.field-0-is at c.in-Ok-List.ensures.asks in
    listing-reads-all asked before (S.reads c.args.store.now) (S.content c.request_of.new.store) _ (S.reads c.request_of.new.store) (S.reads c.list.new.store)
    c.request_of.ensures.kept c.folder-in-Ok-List.ensures c.in-Ok-List.ensures.reads c.in-Ok-List.listing asks c.list.result c.list.ensures.reads_all

pub returns-clause-ends : goal.returns-clause-ends
returns-clause-ends g c =
    let S = g.S.Store in
    let b = seen (S.content c.args.store.now) (S.failures c.args.store.now) (S.replaces c.args.store.now) in
    let a = seen (S.content c.request_of.new.store) (S.failures c.request_of.new.store) (S.replaces c.request_of.new.store) in
    let u : Untouched b a = record { kept = c.request_of.ensures.kept; counts = c.request_of.ensures.counts; no_replace = c.request_of.ensures.no_replace } in
    not-asked c.args.asked b a u c.in-Err.stop c.in-Err.ensures.none

pub returns-in-Ok-Show-clause-reads : goal.returns-in-Ok-Show-clause-reads
returns-in-Ok-Show-clause-reads g c =
    let S = g.S.Store in
    let asks = rw c.in-Ok-Show.field-0-is at c.in-Ok-Show.ensures.asks in
    shown-may-read c.args.asked (S.content c.args.store.now) (S.reads c.args.store.now) c.in-Ok-Show.text (S.reads c.request_of.new.store) asks c.in-Ok-Show.ensures.reads

pub returns-in-Ok-Show-clause-reads_all : goal.returns-in-Ok-Show-clause-reads_all
returns-in-Ok-Show-clause-reads_all g c =
    let S = g.S.Store in
    let asked = c.args.asked in
    let before = S.content c.args.store.now in
    let asks = rw c.in-Ok-Show.field-0-is at c.in-Ok-Show.ensures.asks in
    shown-reads-none asked before (S.reads c.args.store.now) c.in-Ok-Show.text (S.reads c.request_of.new.store) asks c.in-Ok-Show.ensures.reads

pub returns-in-Ok-Step-clause-reads : goal.returns-in-Ok-Step-clause-reads
returns-in-Ok-Step-clause-reads g c =
    let S = g.S.Store in
    let asks = rw c.in-Ok-Step.field-0-is at c.in-Ok-Step.ensures.asks in
    step-may-read c.args.asked (S.content c.args.store.now) (S.reads c.args.store.now) (S.content c.request_of.new.store) _ (S.reads c.request_of.new.store) (S.reads c.do_step.new.store)
    c.request_of.ensures.kept c.folder.ensures c.in-Ok-Step.ensures.reads (unread_in c.do_step.result) (inl (c.in-Ok-Step.step, asks)) c.do_step.ensures.reads

pub returns-in-Ok-Step-clause-reads_all : goal.returns-in-Ok-Step-clause-reads_all
returns-in-Ok-Step-clause-reads_all g c =
    let S = g.S.Store in
    let asks = rw c.in-Ok-Step.field-0-is at c.in-Ok-Step.ensures.asks in
    step-reads-all c.args.asked (S.content c.args.store.now) (S.reads c.args.store.now) (S.content c.request_of.new.store) _ (S.reads c.request_of.new.store) (S.reads c.do_step.new.store)
    c.request_of.ensures.kept c.folder.ensures c.in-Ok-Step.ensures.reads c.in-Ok-Step.step asks c.do_step.result c.do_step.ensures.reads_all

pub returns-clause-reads : goal.returns-clause-reads
returns-clause-reads g c =
    let S = g.S.Store in
    asked-alone c.args.asked (S.content c.args.store.now) (S.reads c.args.store.now) (S.reads c.request_of.new.store) (unread_by c.in-Err.stop) c.in-Err.ensures.reads_at_most
