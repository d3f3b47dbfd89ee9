use Rattle.std.proofs.Common.{◌≡◌, ◌≢◌, ◌⊎◌, ◌≤◌, Bool, Err, Ok, Result, ℕ, Option, arith, ap, inl, inr, map, refl, string_bytes, subst, sym}
use Rattle.std.specs.Prelude.{OnOk}
use Rattle.meson_command.proofs.Json.{json-law}
use Rattle.meson_command.specs.Asking.{asked_by, without_text}
use Rattle.meson_command.specs.declared.asked.Asked.{Asked}
use Rattle.meson_command.specs.declared.fault.UsageFault.{UsageFault}
use Rattle.meson_command.specs.declared.fault.UsageFault.TheVariants.{OutOfMemory}
use Rattle.meson_rewrite.proofs.Reading.{on_ok}
use Rattle.meson_rewrite.proofs.TextEnds.{run-nothing-read, unasked-ends}
use Rattle.meson_rewrite.proofs.TextsAsked.{no-texts-shown, texts-only-ask}
use Rattle.meson_rewrite.proofs.Wants.{usage-or-memory}
use Rattle.meson_rewrite.specs.Remarks.{Advises, IsMisuseAdvice, IsMisused, no_memory, no_memory_left, not_asked, ran_out, told_more, words_refused}
use Rattle.meson_rewrite.specs.Faults.{has_none}
use Rattle.meson_rewrite.specs.Runs.{Reports, RunEnds, RunReports, wants_exit_code}
use Rattle.meson_rewrite.specs.Stops.{WantsMemory}
use Rattle.meson_rewrite.specs.declared.advice.Advice.{Advice}
use Rattle.meson_rewrite.specs.declared.advice.Advice.TheVariants.{Nothing}
use Rattle.meson_rewrite.specs.declared.said.Said.{Said}
use Rattle.meson_rewrite.specs.declared.stop.Stop.{Stop}
use Rattle.meson_rewrite.specs.declared.stop.Stop.TheVariants.{Usage}
use Rattle.meson_store.specs.Content.{Content}
use Rattle.meson_store.specs.Seen.{Seen, Untouched, seen}
use Rattle.meson_rewrite.proofs.Shown.{on-ok-shown, unread-shown}
use Rattle.meson_rewrite.specs.StoreReads.{RunMayRead, RunReadsAll, unread_in}
use Rattle.meson_rewrite.proofs.program.run.Goals as goal

-- of words that are refused, or for which memory ran out, it is said so
refused-or-memory : (explains json : Bool) (asked : Result Asked UsageFault) (fault : UsageFault) (advice : Advice) → IsMisuseAdvice explains json fault advice → (fault ≢ OutOfMemory → asked ≡ Err fault)
    → WantsMemory (Usage fault advice) ⊎ (asked ≡ Err fault)
refused-or-memory explains json asked fault _ (not_asked plain) is = usage-or-memory (λ f. asked ≡ Err f) fault is
refused-or-memory explains json asked fault _ (no_memory none) is = inl (none, refl)
refused-or-memory explains json asked fault _ (ran_out asks known) is = inr (is known)
refused-or-memory explains json asked fault _ (told_more advice asks known tells) is = inr (is known)

usage-reports : (asked : Result Asked UsageFault) (fault : UsageFault) (advice : Advice) → Reports asked (Err (Usage fault advice)) (Err (Usage fault advice))
usage-reports (Err _) fault advice = refl
usage-reports (Ok a) fault advice = (Usage fault advice, has_none refl, refl)

module _ (explains json : Bool) (asked : Result Asked UsageFault) (fault : UsageFault) where
  misused-ends : (b : Seen) (u : Untouched b b) (end : Result Said Stop) → (fault ≢ OutOfMemory → asked ≡ Err fault) → IsMisused explains json fault end → RunReports asked b b end
  misused-ends b u _ is (words_refused advice said) = record {
    end = Err (Usage fault advice);
    ends = unasked-ends asked b b u fault advice (refused-or-memory explains json asked fault advice said is);
    reports = usage-reports asked fault advice;
  }
  misused-ends b u _ is no_memory_left = record {
    end = Err (Usage OutOfMemory Nothing);
    ends = unasked-ends asked b b u OutOfMemory Nothing (inl (refl, refl));
    reports = usage-reports asked OutOfMemory Nothing;
  }

  misused-reads : (before : Option Content) (reads : ℕ) (end : Result Said Stop) → IsMisused explains json fault end → RunMayRead asked before reads reads (unread_in end)
  misused-reads before reads _ (words_refused advice said) = run-nothing-read asked before reads
  misused-reads before reads _ no_memory_left = run-nothing-read asked before reads

  misused-all : (P : Type 0) (end : Result Said Stop) → IsMisused explains json fault end → OnOk end P
  misused-all P _ (words_refused advice said) = tt
  misused-all P _ no_memory_left = tt

  misused-advises : (end : Result Said Stop) → IsMisused explains json fault end → Advises explains json asked end
  misused-advises _ (words_refused advice said) other is = said
  misused-advises _ no_memory_left other is = no_memory refl

pub returns-in-Err-clause-ends : goal.returns-in-Err-clause-ends
returns-in-Err-clause-ends g c =
    let S = g.S.Store in
    let asked = asked_by (map string_bytes c.args.words.now) in
    let failures = S.failures c.args.store.now in
    let b = seen (S.content c.args.store.now) failures (S.replaces c.args.store.now) in
    let same : failures ≤ failures = omega arith in
    let u : Untouched b b = record { kept = refl; counts = same; no_replace = refl } in
    misused-ends _ _ asked c.in-Err.fault b u c.misused.result.end c.in-Err.ensures.refused c.misused.ensures.end

pub returns-in-Err-clause-reads : goal.returns-in-Err-clause-reads
returns-in-Err-clause-reads g c =
    misused-reads _ _ (asked_by (map string_bytes c.args.words.now)) c.in-Err.fault (g.S.Store.content c.args.store.now) (g.S.Store.reads c.args.store.now) c.misused.result.end c.misused.ensures.end

pub returns-in-Err-clause-reads_all : goal.returns-in-Err-clause-reads_all
returns-in-Err-clause-reads_all g c = misused-all _ _ (asked_by (map string_bytes c.args.words.now)) c.in-Err.fault _ c.misused.result.end c.misused.ensures.end

pub returns-in-Err-clause-advised : goal.returns-in-Err-clause-advised
returns-in-Err-clause-advised g c = misused-advises _ _ (asked_by (map string_bytes c.args.words.now)) c.in-Err.fault c.misused.result.end c.misused.ensures.end

pub returns-in-Ok-clause-advised : goal.returns-in-Ok-clause-advised
returns-in-Ok-clause-advised g c = λ fault is. let taken = c.in-Ok.ensures.ok in absurd (let no : ⊥ = cc in no)

pub returns-in-Ok-clause-json : goal.returns-in-Ok-clause-json
returns-in-Ok-clause-json g c = inl (json-law (map string_bytes c.args.words.now) (without_text c.in-Ok.asked) c.in-Ok.ensures.ok)

pub returns-in-Ok-clause-reads : goal.returns-in-Ok-clause-reads
returns-in-Ok-clause-reads g c =
    let S = g.S.Store in
    let asked = asked_by (map string_bytes c.args.words.now) in
    let read = RunMayRead asked (S.content c.args.store.now) (S.reads c.args.store.now) (S.reads c.respond.new.store) in
    subst read (sym (unread-shown asked c.respond.result c.reported.result (subst (λ r. Reports r c.respond.result c.reported.result) (sym c.in-Ok.ensures.ok) c.reported.ensures)))
    (subst (λ r. RunMayRead r (S.content c.args.store.now) (S.reads c.args.store.now) (S.reads c.respond.new.store) (unread_in c.respond.result)) (sym c.in-Ok.ensures.ok) c.respond.ensures.reads)

pub returns-in-Ok-clause-ends : goal.returns-in-Ok-clause-ends
returns-in-Ok-clause-ends g c =
    let S = g.S.Store in
    let asked = asked_by (map string_bytes c.args.words.now) in
    let b = seen (S.content c.args.store.now) (S.failures c.args.store.now) (S.replaces c.args.store.now) in
    let a = seen (S.content c.respond.new.store) (S.failures c.respond.new.store) (S.replaces c.respond.new.store) in
    record {
      end = c.respond.result;
      ends = subst (λ r. RunEnds r b a c.respond.result) (sym c.in-Ok.ensures.ok) c.respond.ensures.ends;
      reports = subst (λ r. Reports r c.respond.result c.reported.result) (sym c.in-Ok.ensures.ok) c.reported.ensures;
    }

pub returns-in-Ok-clause-reads_all : goal.returns-in-Ok-clause-reads_all
returns-in-Ok-clause-reads_all g c =
    let S = g.S.Store in
    let asked = asked_by (map string_bytes c.args.words.now) in
    let reads = RunReadsAll asked (S.content c.args.store.now) (S.reads c.args.store.now) (S.reads c.respond.new.store) in
    on-ok-shown reads asked c.respond.result c.reported.result (subst (λ r. Reports r c.respond.result c.reported.result) (sym c.in-Ok.ensures.ok) c.reported.ensures)
    (subst (λ r. OnOk c.respond.result (RunReadsAll r (S.content c.args.store.now) (S.reads c.args.store.now) (S.reads c.respond.new.store))) (sym c.in-Ok.ensures.ok) c.respond.ensures.reads_all)

pub respond-requires-clause-fits : goal.respond-requires-clause-fits
respond-requires-clause-fits g c = texts-only-ask (map string_bytes c.args.words.now) c.in-Ok.asked c.in-Ok.ensures.ok

pub respond-requires-clause-none_shown : goal.respond-requires-clause-none_shown
respond-requires-clause-none_shown g c = no-texts-shown (map string_bytes c.args.words.now) c.in-Ok.asked c.in-Ok.ensures.ok

pub returns-in-Err-clause-exit_code : goal.returns-in-Err-clause-exit_code
returns-in-Err-clause-exit_code g c = misused-all _ _ (asked_by (map string_bytes c.args.words.now)) c.in-Err.fault _ c.misused.result.end c.misused.ensures.end

pub returns-in-Ok-clause-exit_code : goal.returns-in-Ok-clause-exit_code
returns-in-Ok-clause-exit_code g c = on_ok c.reported.result (sym (ap wants_exit_code c.in-Ok.ensures.ok))
