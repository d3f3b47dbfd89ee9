-- How often a run reads the store, from how often its steps do.
use Rattle.std.proofs.Common.{◌≡◌, ◌⊎◌, ◌∙◌, ℕ, Bool, List, Option, None, Result, Ok, Err, inl, inr, refl, sym, subst}
use Rattle.std.specs.Prelude.{OnOk}
use Rattle.meson_command.specs.Asking.{without_help_text, without_text}
use Rattle.meson_command.specs.declared.asked.Action.{Action}
use Rattle.meson_command.specs.declared.asked.Action.TheVariants as action
use Rattle.meson_command.specs.declared.asked.Asked.{Asked}
use Rattle.meson_command.specs.declared.fault.UsageFault.{UsageFault}
use Rattle.meson_command.specs.declared.fault.UsageFault.TheVariants as usage
use Rattle.meson_calls.specs.declared.call.Reading.{Reading}
use Rattle.meson_splice.specs.declared.file_set.File.{File}
use Rattle.meson_store.specs.Content.{Content}
use Rattle.meson_store.specs.declared.store_fault.StoreFault.{StoreFault}
use Rattle.meson_store.specs.declared.store_fault.StoreFault.TheVariants as store
use Rattle.meson_gathering.proofs.Asking.{asks_and_reads}
use Rattle.meson_gathering.specs.Gathering.{Finds, whole}
use Rattle.meson_gathering.specs.ReadCounts.{AsksNone}
use Rattle.meson_rewrite.specs.Lines.{status, stop_status, store_fault_status, usage_status}
use Rattle.meson_rewrite.specs.Logs.{log_name, log_use}
use Rattle.meson_rewrite.specs.StoreReads.{AsksForProject, AsksNamed, MayAskLog, MayRead, ReadsAll, ReadsAtMost, ReadsFor, ReadsProject, ReadsWithLog, file_read, log_read}
use Rattle.meson_rewrite.specs.Requests.{AsksFor}
use Rattle.meson_rewrite.specs.declared.opening.LogUse.{LogUse}
use Rattle.meson_rewrite.specs.declared.opening.LogUse.TheVariants.{Kept, Ignored}
use Rattle.meson_rewrite.specs.declared.request.Listing.{Listing}
use Rattle.meson_rewrite.specs.declared.request.ProgramRequest.TheVariants as request
use Rattle.meson_rewrite.specs.declared.request.Step.{Step}
use Rattle.meson_rewrite.specs.declared.said.Said.{Said}
use Rattle.meson_rewrite.specs.declared.stop.Stop.{Stop}
use Rattle.meson_rewrite.specs.declared.stop.Stop.TheVariants.{Usage, Store}

-- what holds, whatever was answered
pub on_ok : {T E P : Type 0} (r : Result T E) → P → OnOk r P
on_ok (Ok x) p = p
on_ok (Err e) p = tt

-- ---- a step

may-ask-log : (how : LogUse) (n m : ℕ) (unread : Option (List ℕ)) → m ≡ log_read how n → unread ≡ None → MayAskLog how n m unread
may-ask-log Kept n m unread is none = inr (asks_and_reads log_name n m unread is none)
may-ask-log Ignored n m unread is none = (is, none)

module _ (how : LogUse) (reading : Reading) (before : Option Content) (dir : Option (List ℕ)) (reads : ℕ) (files : List File) (n m : ℕ) (same : m ≡ n) (all : ReadsWithLog how reading before dir reads files n) where
  pub with-log-at-most : (unread : Option (List ℕ)) → unread ≡ None → ReadsAtMost how reading before dir reads m unread
  with-log-at-most unread none = inr (files, all.0, all.1, may-ask-log how all.0 m unread (same ∙ all.2) none)

  pub with-log-all : Finds reading before dir (whole files) → ReadsProject how reading before dir reads m
  with-log-all found = (files, found, (all.0, all.1, same ∙ all.2))

-- ---- a run

pub nothing-read : (asked : Result Asked UsageFault) (before : Option Content) (reads : ℕ) → MayRead asked before reads reads None
nothing-read (Err fault) before reads = (refl, refl)
nothing-read (Ok a) before reads = inl (refl, refl)

same-file : (a : Action) (reads : ℕ) → file_read (without_help_text a) reads ≡ file_read a reads
same-file (action.Run s) reads = refl
same-file (action.Info c) reads = refl
same-file (action.ScriptText text unknown) reads = refl
same-file (action.ScriptFile n unknown) reads = refl
same-file action.Undo reads = refl
same-file (action.UndoTo count) reads = refl
same-file (action.UndoChecked count name) reads = refl
same-file (action.ForgetOldest count) reads = refl
same-file action.ForgetAll reads = refl
same-file action.Redo reads = refl
same-file action.History reads = refl
same-file (action.List json) reads = refl
same-file (action.ListCalls function json) reads = refl
same-file (action.ListAssignments json) reads = refl
same-file action.Sums reads = refl
same-file (action.Help text) reads = refl
same-file action.Version reads = refl

same-named : (a : Action) (reads reads' : ℕ) (unread : Option (List ℕ)) → AsksNamed a reads reads' unread → AsksNamed (without_help_text a) reads reads' unread
same-named (action.ScriptFile n unknown) reads reads' unread h = h
same-named (action.UndoChecked count name) reads reads' unread h = h
same-named _ reads reads' unread h = absurd h

shown-file : (title : List ℕ) (a : Action) (before : Option Content) (text : List ℕ) (reads : ℕ) → AsksFor title a before (request.Show text) → file_read a reads ≡ reads
shown-file title (action.ScriptFile n unknown) before text reads (cs, of, is) = absurd (let no : ⊥ = cc in no)
shown-file title (action.UndoChecked count name) before text reads (file, of, is) = absurd (let no : ⊥ = cc in no)
shown-file title _ before text reads is = refl

same-project : (title : List ℕ) (a : Action) (before : Option Content) → AsksForProject title a before → AsksForProject title (without_help_text a) before
same-project title (action.Run s) before asks = asks
same-project title (action.Info c) before asks = asks
same-project title (action.ScriptText text unknown) before asks = asks
same-project title (action.ScriptFile n unknown) before asks = asks
same-project title action.Undo before asks = asks
same-project title (action.UndoTo count) before asks = asks
same-project title (action.UndoChecked count name) before asks = asks
same-project title (action.ForgetOldest count) before asks = asks
same-project title action.ForgetAll before asks = asks
same-project title action.Redo before asks = asks
same-project title action.History before asks = asks
same-project title (action.List json) before asks = asks
same-project title (action.ListCalls function json) before asks = asks
same-project title (action.ListAssignments json) before asks = asks
same-project title action.Sums before asks = asks
same-project title (action.Help text) before (inl (step, is)) = absurd (let no : ⊥ = cc in no)
same-project title (action.Help text) before (inr (listing, is)) = absurd (let no : ⊥ = cc in no)
same-project title action.Version before asks = asks

module _ (a : Asked) (before : Option Content) (reads : ℕ) where
  pub asked-alone : (reads' : ℕ) (unread : Option (List ℕ)) → AsksNone reads reads' unread ⊎ AsksNamed a.action reads reads' unread
      → MayRead (Ok (without_text a)) before reads reads' unread
  asked-alone reads' unread (inl none) = inl none
  asked-alone reads' unread (inr named) = inr (inl (same-named a.action reads reads' unread named))

  pub shown-may-read : (text : List ℕ) (reads' : ℕ) → AsksFor a.title a.action before (request.Show text) → reads' ≡ file_read a.action reads → MayRead (Ok (without_text a)) before reads reads' None
  shown-may-read text reads' asks e = inl (e ∙ shown-file a.title a.action before text reads asks, refl)

  module _ (middle : Option Content) (dir : Option (List ℕ)) (n reads' : ℕ) (kept : middle ≡ before) (named : dir ≡ a.dir) (is_read : n ≡ file_read a.action reads) where
    pub step-may-read : (unread : Option (List ℕ)) → AsksForProject a.title a.action before → ReadsAtMost (log_use a.flags.no_log) a.flags.reading middle dir n reads' unread → MayRead (Ok (without_text a)) before reads reads' unread
    step-may-read unread asks h =
        inr (inr (
          same-project a.title a.action before asks,
          subst (λ k. ReadsAtMost (log_use a.flags.no_log) a.flags.reading before a.dir k reads' unread) (is_read ∙ sym (same-file a.action reads)) (subst (λ d. ReadsAtMost (log_use a.flags.no_log) a.flags.reading before d n reads' unread) named (subst (λ b. ReadsAtMost (log_use a.flags.no_log) a.flags.reading b dir n reads' unread) kept h)),
        ))

    pub step-reads-all : {E : Type 0} (step : Step) → AsksFor a.title a.action before (request.Step step) → (end : Result Said E) → OnOk end (ReadsProject (log_use a.flags.no_log) a.flags.reading middle dir n reads')
        → OnOk end (ReadsAll (Ok (without_text a)) before reads reads')
    step-reads-all step asks (Ok said) h =
        of-action a.action asks (subst (λ k. ReadsProject (log_use a.flags.no_log) a.flags.reading before a.dir k reads') is_read (subst (λ d. ReadsProject (log_use a.flags.no_log) a.flags.reading before d n reads') named (subst (λ b. ReadsProject (log_use a.flags.no_log) a.flags.reading b dir n reads') kept h)))
      where
        of-action : (x : Action) → AsksFor a.title x before (request.Step step) → ReadsProject (log_use a.flags.no_log) a.flags.reading before a.dir (file_read x reads) reads' → ReadsFor (without_help_text x) (log_use a.flags.no_log) a.flags.reading before a.dir reads reads'
        of-action (action.Run s) is h = h
        of-action (action.Info c) is h = h
        of-action (action.ScriptText text unknown) is h = h
        of-action (action.ScriptFile n unknown) is h = h
        of-action action.Undo is h = h
        of-action (action.UndoTo count) is h = h
        of-action (action.UndoChecked count name) is h = h
        of-action (action.ForgetOldest count) is h = h
        of-action action.ForgetAll is h = h
        of-action action.Redo is h = h
        of-action action.History is h = absurd (let no : ⊥ = cc in no)
        of-action (action.List json) is h = absurd (let no : ⊥ = cc in no)
        of-action (action.ListCalls function json) is h = absurd (let no : ⊥ = cc in no)
        of-action (action.ListAssignments json) is h = absurd (let no : ⊥ = cc in no)
        of-action action.Sums is h = absurd (let no : ⊥ = cc in no)
        of-action (action.Help text) is h = absurd (let no : ⊥ = cc in no)
        of-action action.Version is h = absurd (let no : ⊥ = cc in no)
    step-reads-all step asks (Err stop) h = h

    pub listing-reads-all : {E : Type 0} (listing : Listing) → AsksFor a.title a.action before (request.List listing) → (end : Result Said E) → OnOk end (ReadsProject (log_use a.flags.no_log) a.flags.reading middle dir n reads')
        → OnOk end (ReadsAll (Ok (without_text a)) before reads reads')
    listing-reads-all listing asks (Ok said) h =
        of-action a.action asks (subst (λ k. ReadsProject (log_use a.flags.no_log) a.flags.reading before a.dir k reads') is_read (subst (λ d. ReadsProject (log_use a.flags.no_log) a.flags.reading before d n reads') named (subst (λ b. ReadsProject (log_use a.flags.no_log) a.flags.reading b dir n reads') kept h)))
      where
        of-action : (x : Action) → AsksFor a.title x before (request.List listing) → ReadsProject (log_use a.flags.no_log) a.flags.reading before a.dir (file_read x reads) reads' → ReadsFor (without_help_text x) (log_use a.flags.no_log) a.flags.reading before a.dir reads reads'
        of-action (action.Run s) is h = absurd (let no : ⊥ = cc in no)
        of-action (action.Info c) is h = absurd (let no : ⊥ = cc in no)
        of-action (action.ScriptText text unknown) (cs, of, is) h = absurd (let no : ⊥ = cc in no)
        of-action (action.ScriptFile n unknown) (cs, of, is) h = absurd (let no : ⊥ = cc in no)
        of-action action.Undo is h = absurd (let no : ⊥ = cc in no)
        of-action (action.UndoTo count) is h = absurd (let no : ⊥ = cc in no)
        of-action (action.UndoChecked count name) (file, of, is) h = absurd (let no : ⊥ = cc in no)
        of-action (action.ForgetOldest count) is h = absurd (let no : ⊥ = cc in no)
        of-action action.ForgetAll is h = absurd (let no : ⊥ = cc in no)
        of-action action.Redo is h = absurd (let no : ⊥ = cc in no)
        of-action action.History is h = h
        of-action (action.List json) is h = h
        of-action (action.ListCalls function json) is h = h
        of-action (action.ListAssignments json) is h = h
        of-action action.Sums is h = h
        of-action (action.Help text) is h = absurd (let no : ⊥ = cc in no)
        of-action action.Version is h = absurd (let no : ⊥ = cc in no)
    listing-reads-all listing asks (Err stop) h = h

  pub shown-reads-none : (text : List ℕ) (reads' : ℕ) → AsksFor a.title a.action before (request.Show text) → reads' ≡ file_read a.action reads → ReadsAll (Ok (without_text a)) before reads reads'
  shown-reads-none text reads' asks e = of-action a.action asks e
    where
      of-action : (x : Action) → AsksFor a.title x before (request.Show text) → reads' ≡ file_read x reads → ReadsFor (without_help_text x) (log_use a.flags.no_log) a.flags.reading before a.dir reads reads'
      of-action (action.Run s) is e = absurd (let no : ⊥ = cc in no)
      of-action (action.Info c) is e = absurd (let no : ⊥ = cc in no)
      of-action (action.ScriptText t unknown) (cs, of, is) e = absurd (let no : ⊥ = cc in no)
      of-action (action.ScriptFile n unknown) (cs, of, is) e = absurd (let no : ⊥ = cc in no)
      of-action action.Undo is e = absurd (let no : ⊥ = cc in no)
      of-action (action.UndoTo count) is e = absurd (let no : ⊥ = cc in no)
      of-action (action.UndoChecked count name) (file, of, is) e = absurd (let no : ⊥ = cc in no)
      of-action (action.ForgetOldest count) is e = absurd (let no : ⊥ = cc in no)
      of-action action.ForgetAll is e = absurd (let no : ⊥ = cc in no)
      of-action action.Redo is e = absurd (let no : ⊥ = cc in no)
      of-action action.History is e = absurd (let no : ⊥ = cc in no)
      of-action (action.List json) is e = absurd (let no : ⊥ = cc in no)
      of-action (action.ListCalls function json) is e = absurd (let no : ⊥ = cc in no)
      of-action (action.ListAssignments json) is e = absurd (let no : ⊥ = cc in no)
      of-action action.Sums is e = absurd (let no : ⊥ = cc in no)
      of-action (action.Help t) is e = e
      of-action action.Version is e = e

-- ---- the statuses 0 and 4 are those of a run that was done

abbrev pub IsDone : ℕ → Type 0
IsDone code = (code ≡ 0) ⊎ (code ≡ 4)

not-1 : IsDone 1 → ⊥
not-1 (inl e) = let no : ⊥ = cc in no
not-1 (inr e) = let no : ⊥ = cc in no

not-2 : IsDone 2 → ⊥
not-2 (inl e) = let no : ⊥ = cc in no
not-2 (inr e) = let no : ⊥ = cc in no

not-3 : IsDone 3 → ⊥
not-3 (inl e) = let no : ⊥ = cc in no
not-3 (inr e) = let no : ⊥ = cc in no

usage-not-done : (fault : UsageFault) → IsDone (usage_status fault) → ⊥
usage-not-done usage.OutOfMemory is = not-1 is
usage-not-done _ is = not-2 is

store-not-done : (fault : StoreFault) → IsDone (store_fault_status fault) → ⊥
store-not-done store.OutOfMemory is = not-1 is
store-not-done _ is = not-3 is

pub stop-not-done : (stop : Stop) → IsDone (stop_status stop) → ⊥
stop-not-done (Usage fault advice) is = usage-not-done fault is
stop-not-done (Store fault advice) is = store-not-done fault is
stop-not-done _ is = not-1 is

pub done-by-status : (P : Type 0) (exit_code : Bool) (end : Result Said Stop) → OnOk end P → IsDone (status exit_code end) → P
done-by-status P exit_code (Ok said) p e = p
done-by-status P exit_code (Err stop) p e = absurd (stop-not-done stop e)
