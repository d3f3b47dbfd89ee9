-- How a run ends, from what its steps did.
use Rattle.std.proofs.Common.{◌≡◌, ◌⊎◌, ◌≤◌, ◌||◌, Bool, false, true, ℕ, List, [], ◌∷◌, length, Option, Some, None, Result, Ok, Err, inl, inr, refl, sym, ap, ◌∙◌, subst, arith}
use Rattle.std.specs.Prelude.{◌&&◌, IfErr, IfOk, IsTrue, if◌then◌else◌}
use Rattle.std.proofs.lemmas.List.{append-nil}
use Rattle.meson_calls.specs.declared.call.Reading.{Reading}
use Rattle.meson_command.specs.Asking.{no_flags, only_asks, without_text}
use Rattle.meson_command.specs.declared.asked.Action.{Action}
use Rattle.meson_command.specs.declared.asked.Action.TheVariants as action
use Rattle.meson_command.specs.declared.asked.Asked.{Asked}
use Rattle.meson_command.specs.declared.asked.Flags.{Flags}
use Rattle.meson_command.specs.declared.fault.UsageFault.{UsageFault}
use Rattle.meson_script.specs.declared.session.Session.{Session}
use Rattle.meson_store.specs.StoreCalls.{counted}
use Rattle.meson_store.proofs.Restoring.{CutLast, HasOld, each-map, puts-cut, puts-each, restored, untold-restored}
use Rattle.meson_store.specs.Commit.{AreReplaced, CommitFails, Put, TakenBack, put_all, put_at, puts}
use Rattle.meson_store.specs.Content.{Content}
use Rattle.meson_store.specs.Seen.{Seen, Untouched}
use Rattle.meson_store.specs.declared.store_fault.StoreFault.{StoreFault}
use Rattle.meson_store.specs.declared.store_fault.StoreFault.TheVariants as store
use Rattle.meson_gathering.proofs.Stopping.{rose_before, stops_within}
use Rattle.meson_gathering.specs.Gathering.{Finds, file_of}
use Rattle.meson_rewrite.specs.declared.advice.Advice.TheVariants.{Nothing}
use Rattle.meson_rewrite.specs.inside.Edited.{IsEdited, IsEditedWith, IsShownWith, OnlyTells}
use Rattle.meson_rewrite.specs.Lines.{done_status, shown_text, status, stop_status, store_fault_status, usage_status, version_line}
use Rattle.meson_rewrite.proofs.Holding.{IsHeld, held-collected}
use Rattle.meson_rewrite.specs.Listed.{listing_text}
use Rattle.meson_rewrite.specs.Logs.{log_name, log_use, with_log}
use Rattle.meson_rewrite.specs.Opening.{IsNoLog, Opens, OpensNone, log_unread, bad_log, no_log, no_project}
use Rattle.meson_rewrite.specs.Requests.{AsksFor, AsksForNone, script}
use Rattle.meson_rewrite.specs.Runs.{Edits, Ends, IsUnchanged, KeepsFiles, ListingEnds, OnlyAsks, StepEnds, asks_for_none, done, has_none, helped, listed, lists, memory_ran_out, misused, no_memory, not_opened, refused, shown, steps, told, told_version, unwritten, wants_memory, written}
use Rattle.meson_rewrite.specs.Steps.{MayRefuseStep, only_tells}
use Rattle.meson_rewrite.specs.Stops.{WantsMemory}
use Rattle.meson_rewrite.specs.declared.opening.LogUse.{LogUse}
use Rattle.meson_rewrite.specs.declared.opening.LogUse.TheVariants.{Kept, Ignored}
use Rattle.meson_rewrite.specs.declared.steps.Edit.{Edit}
use Rattle.meson_rewrite.specs.declared.request.Listing.{Listing}
use Rattle.meson_rewrite.specs.declared.request.ProgramRequest.TheVariants as request
use Rattle.meson_rewrite.specs.declared.request.Step.{Step}
use Rattle.meson_rewrite.specs.declared.request.Step.TheVariants.{Tell}
use Rattle.meson_rewrite.specs.declared.said.Said.{Said}
use Rattle.meson_rewrite.specs.declared.stop.Stop.{Stop}
use Rattle.meson_rewrite.specs.declared.advice.Advice.{Advice}
use Rattle.meson_rewrite.specs.declared.stop.Stop.TheVariants.{Usage, Store}

-- ---- what was read before a step, by the same program

pub untouched-then : (a b c : Seen) → Untouched a b → Untouched b c → Untouched a c
untouched-then a b c h k = record {
  kept = k.kept ∙ h.kept;
  counts = let x = h.counts in let y = k.counts in omega (arith, x, y);
  no_replace = k.no_replace ∙ h.no_replace;
}

module _ (how : LogUse) (dir : Option (List ℕ)) (before : Option Content) (first old new : ℕ) (h : first ≤ old) (k : old ≤ new) where
  pub no-log-before : (stop : Stop) → IsNoLog how before dir old new stop → IsNoLog how before dir first new stop
  no-log-before _ (log_unread is rose) = log_unread is (rose_before first old new h k rose)
  no-log-before _ (bad_log is bad) = bad_log is bad

pub none-before : (how : LogUse) (reading : Reading) (dir : Option (List ℕ)) (before : Option Content) (first old new : ℕ) → first ≤ old → old ≤ new → (stop : Stop)
    → OpensNone how reading before dir old new stop → OpensNone how reading before dir first new stop
none-before how reading dir before first old new h k _ (no_project fault stops) =
    no_project fault (stops_within (Finds reading before dir) (Finds reading before dir) (λ end p. p) first old new h k fault stops)
none-before how reading dir before first old new h k _ (no_log files why found lacks) = no_log files why found (no-log-before how dir before first old new h k why lacks)

-- ---- what was read before a commit

module _ (a b c : Seen) (u : Untouched a b) where
  pub replaced-then : (files : List Put) → AreReplaced files b c → AreReplaced files a c
  replaced-then files r = record {
    put = r.put ∙ ap (put_all files) u.kept;
    counts = let x = u.counts in let y = r.counts in omega (arith, x, y);
    counted = r.counted ∙ ap (counted (length files)) u.no_replace;
  }

pub taken-then : (a b c : Seen) → Untouched a b → (files : List Put) (fault : StoreFault) → TakenBack files b c fault → TakenBack files a c fault
taken-then a b c u files fault t = record {
  why = t.why;
  stopped = t.stopped;
  stops = record {
    done = t.stops.done;
    failed = t.stops.failed;
    rest = t.stops.rest;
    all = t.stops.all;
    reached = t.stops.reached;
    are = replaced-then a b t.stops.reached u t.stops.done t.stops.are;
    fails = t.stops.fails;
  };
  still = t.still;
  back = t.back;
  told = t.told;
}

-- ---- a step

module _ (dir : Option (List ℕ)) (step : Step) (flags : Flags) where
  abbrev edits-before : (before middle : Option Content) → middle ≡ before → Edits (log_use flags.no_log) flags.reading middle dir step flags.json → Edits (log_use flags.no_log) flags.reading before dir step flags.json
  edits-before before middle same e = record {
    old = e.old;
    log = e.log;
    opens = subst (λ m. Opens (log_use flags.no_log) flags.reading m dir e.old e.log) same e.opens;
    new = e.new;
    is_project = e.is_project;
    report = e.report;
    does = e.does;
    new_log = e.new_log;
    is_log = e.is_log;
  }

  -- the store was read before, for a script
  pub step-before : (a b c : Seen) (end : Result Said Stop) → Untouched a b → b.failures ≤ c.failures → StepEnds dir step flags b c end → StepEnds dir step flags a c end
  step-before a b c _ u k (not_opened stop v opens) =
      not_opened stop (untouched-then a b c u v) (none-before (log_use flags.no_log) flags.reading dir a.content a.failures b.failures c.failures u.counts k stop (subst (λ m. OpensNone (log_use flags.no_log) flags.reading m dir b.failures c.failures stop) u.kept opens))
  step-before a b c _ u k (refused old log stop v opens may) = refused old log stop (untouched-then a b c u v) (subst (λ m. Opens (log_use flags.no_log) flags.reading m dir old log) u.kept opens) may
  step-before a b c _ u k (told old new log report said v opens does only says) =
      told old new log report said (untouched-then a b c u v) (subst (λ m. Opens (log_use flags.no_log) flags.reading m dir old log) u.kept opens) does only says
  step-before a b c _ u k (shown old new log report said v opens does writes dry shows all warns) =
      shown old new log report said (untouched-then a b c u v) (subst (λ m. Opens (log_use flags.no_log) flags.reading m dir old log) u.kept opens) does writes dry shows all warns
  step-before a b c _ u k (done e said writes wet are says all warns) =
      done (edits-before a.content b.content u.kept e) said writes wet (replaced-then a b c u (written e) are) says all warns
  step-before a b c _ u k (unwritten e fault writes wet taken) = unwritten (edits-before a.content b.content u.kept e) fault writes wet (taken-then a b c u (written e) fault taken)
  step-before a b c _ u k (no_memory stop v wants) = no_memory stop (untouched-then a b c u v) wants

  -- ---- by what stopped it, or by what is written

  module _ (b a : Seen) (u : Untouched b a) where
    pub stopped-opening : (stop : Stop) → WantsMemory stop ⊎ OpensNone (log_use flags.no_log) flags.reading b.content dir b.failures a.failures stop → StepEnds dir step flags b a (Err stop)
    stopped-opening stop (inl m) = no_memory stop u m
    stopped-opening stop (inr none) = not_opened stop u none

    module _ (old : Session) (log : List ℕ) (opens : Opens (log_use flags.no_log) flags.reading b.content dir old log) where
      pub stopped-acting : (stop : Stop) → WantsMemory stop ⊎ MayRefuseStep flags step old stop → StepEnds dir step flags b a (Err stop)
      stopped-acting stop (inl m) = no_memory stop u m
      stopped-acting stop (inr may) = refused old log stop u opens may

      pub told-ends : only_tells step ≡ true → (said : Said) → OnlyTells old step flags.json said → StepEnds dir step flags b a (Ok said)
      told-ends only said t = told old t.new log t.report said u opens t.does only t.says

      pub dry-ends : only_tells step ≡ false → flags.dry_run ≡ true → (said : Said) → IsShownWith flags old step said → StepEnds dir step flags b a (Ok said)
      dry-ends writes dry said s =
          shown old s.shown.new log s.shown.report s.plain u opens s.shown.does writes dry s.shown.shows said s.warns

  module _ (b m a : Seen) (u : Untouched b m) (writes : only_tells step ≡ false) (wet : flags.dry_run ≡ false) (old : Session) (log : List ℕ) (opens : Opens (log_use flags.no_log) flags.reading b.content dir old log) (edit : Edit) (w : IsEditedWith flags old log step edit) where
    abbrev e : IsEdited (log_use flags.no_log) old log step flags.json w.plain
    e = w.edited

    abbrev edits : Edits (log_use flags.no_log) flags.reading b.content dir step flags.json
    edits = record {
      old = old;
      log = log;
      opens = opens;
      new = e.new;
      is_project = e.is_project;
      report = e.report;
      does = e.does;
      new_log = e.new_log;
      is_log = e.is_log;
    }

    are-written : puts dir edit.before edit.after ≡ written edits
    are-written =
        ap (λ fs. puts dir fs edit.after) (w.before ∙ e.before) ∙ ap (puts dir (with_log (log_use flags.no_log) old.project.files log)) (w.after ∙ e.after)

    pub done-ends : AreReplaced (puts dir edit.before edit.after) m a → StepEnds dir step flags b a (Ok edit.said)
    done-ends are =
        done edits w.plain.said writes wet (replaced-then b m a u (written edits) (subst (λ fs. AreReplaced fs m a) are-written are)) e.says edit.said w.warns

    pub failed-ends : (fault : StoreFault) → CommitFails (puts dir edit.before edit.after) m a fault → StepEnds dir step flags b a (Err (Store fault Nothing))
    failed-ends fault (inl (is, untouched)) = no_memory (Store fault Nothing) (untouched-then b m a u untouched) (is, refl)
    failed-ends fault (inr taken) = unwritten edits fault writes wet (taken-then b m a u (written edits) fault (subst (λ fs. TakenBack fs m a fault) are-written taken))

-- ---- a listing

module _ (dir : Option (List ℕ)) (listing : Listing) (flags : Flags) where
  -- the store was read before
  pub listing-before : (a b c : Seen) (end : Result Said Stop) → Untouched a b → b.failures ≤ c.failures → ListingEnds dir listing flags b c end → ListingEnds dir listing flags a c end
  listing-before a b c _ u k (has_none stop v opens) =
      has_none stop (untouched-then a b c u v) (none-before (log_use flags.no_log) flags.reading dir a.content a.failures b.failures c.failures u.counts k stop (subst (λ m. OpensNone (log_use flags.no_log) flags.reading m dir b.failures c.failures stop) u.kept opens))
  listing-before a b c _ u k (listed session log v opens) = listed session log (untouched-then a b c u v) (subst (λ m. Opens (log_use flags.no_log) flags.reading m dir session log) u.kept opens)
  listing-before a b c _ u k (wants_memory stop v wants) = wants_memory stop (untouched-then a b c u v) wants

  pub listing-untouched : (before after : Seen) (end : Result Said Stop) → ListingEnds dir listing flags before after end → Untouched before after
  listing-untouched before after _ (has_none stop u opens) = u
  listing-untouched before after _ (listed session log u opens) = u
  listing-untouched before after _ (wants_memory stop u wants) = u

  pub listing-unopened : (before after : Seen) → Untouched before after → (stop : Stop)
      → WantsMemory stop ⊎ OpensNone (log_use flags.no_log) flags.reading before.content dir before.failures after.failures stop → ListingEnds dir listing flags before after (Err stop)
  listing-unopened before after u stop (inl m) = wants_memory stop u m
  listing-unopened before after u stop (inr none) = has_none stop u none

  pub listing-told : (before after : Seen) → Untouched before after → (session : Session) (log : List ℕ) → Opens (log_use flags.no_log) flags.reading before.content dir session log
      → (end : Result Said Stop) → IfOk end (λ said. said ≡ shown_text (listing_text flags.reading flags.json listing session)) → IfErr end WantsMemory → ListingEnds dir listing flags before after end
  listing-told before after u session log opens (Ok said) is none = subst (λ s. ListingEnds dir listing flags before after (Ok s)) (sym is) (listed session log u opens)
  listing-told before after u session log opens (Err stop) is none = wants_memory stop u none

-- ---- with these statuses the store holds what it held

abbrev Refusing : ℕ → Type 0
Refusing code = (code ≡ 1) ⊎ (code ≡ 2)

untouched-same : (before after : Seen) → Untouched before after → IsUnchanged before after
untouched-same before after u = (u.kept, u.no_replace)

-- each file that is written holds what it held, but perhaps for the last one, the log
cut-old : (how : LogUse) {reading : Reading} {before : Option Content} (dir : Option (List ℕ)) (step : Step) {json : Bool} (e : Edits how reading before dir step json) (m : Content) → before ≡ Some m → CutLast (HasOld m) (written e)
cut-old Kept {reading = reading} dir step e m is =
    puts-cut (HasOld m) dir e.old.project.files (file_of log_name e.log) (with_log Kept e.new.project.files e.new_log)
    (each-map (IsHeld m dir) (λ f. (bytes : List ℕ) → HasOld m (put_at dir f bytes)) (λ f h bytes. h) e.old.project.files (held-collected m dir reading e.old.project.files (e.opens.found m is)))
cut-old Ignored {reading = reading} dir step e m is =
    let files = puts dir e.old.project.files e.new.project.files in
    record {
      front = files;
      last = [];
      all = sym (append-nil files);
      few = omega arith;
      each = puts-each (HasOld m) dir e.old.project.files e.new.project.files
          (each-map (IsHeld m dir) (λ f. (bytes : List ℕ) → HasOld m (put_at dir f bytes)) (λ f h bytes. h) e.old.project.files (held-collected m dir reading e.old.project.files (e.opens.found m is)));
    }

-- a commit for which memory ran out
ran-out : (how : LogUse) {reading : Reading} (dir : Option (List ℕ)) (step : Step) (before after : Seen) {json : Bool} (e : Edits how reading before.content dir step json) → TakenBack (written e) before after store.OutOfMemory → after.content ≡ before.content
ran-out how dir step before after e taken = kept before.content refl
  where
    kept : (content : Option Content) → before.content ≡ content → after.content ≡ before.content
    kept None none = untold-restored (written e) before after taken none ∙ sym none
    kept (Some m) some = restored m (written e) before after taken some (cut-old how dir step e m some) ∙ sym some

module _ (exit_code : Bool) (asked : Result Asked UsageFault) (before after : Seen) where
  abbrev Keeps : ℕ → Type 0
  Keeps code = KeepsFiles asked before after code

  untouched-keeps : (code : ℕ) → Untouched before after → Keeps code
  untouched-keeps code u = (u.kept, inl u.no_replace)

  done-keeps : (said : Said) → Refusing (done_status exit_code said) → Keeps (done_status exit_code said)
  done-keeps said s = go (exit_code && said.changed) s
    where
      go : (b : Bool) → Refusing (if b then 4 else 0) → Keeps (if b then 4 else 0)
      go true (inl e) = absurd (omega (arith, e))
      go true (inr e) = absurd (omega (arith, e))
      go false (inl e) = absurd (omega (arith, e))
      go false (inr e) = absurd (omega (arith, e))

  not-refused : (code : ℕ) → Refusing code → (code ≡ 0) ⊎ (code ≡ 3) → Keeps code
  not-refused code (inl e) (inl z) = absurd (omega (arith, e, z))
  not-refused code (inl e) (inr z) = absurd (omega (arith, e, z))
  not-refused code (inr e) (inl z) = absurd (omega (arith, e, z))
  not-refused code (inr e) (inr z) = absurd (omega (arith, e, z))

  module _ (a : Asked) (step : Step) (is : asked ≡ Ok (without_text a)) (asks : AsksFor a.title a.action before.content (request.Step step)) where
    unwritten-keeps : (e : Edits (log_use a.flags.no_log) a.flags.reading before.content a.dir step a.flags.json) (fault : StoreFault) → TakenBack (written e) before after fault → Refusing (store_fault_status fault) → Keeps (store_fault_status fault)
    unwritten-keeps e (store.ReadFailed name) t s = not-refused 3 s (inr refl)
    unwritten-keeps e (store.WriteFailed name still) t s = not-refused 3 s (inr refl)
    unwritten-keeps e (store.NoFile name) t s = not-refused 3 s (inr refl)
    unwritten-keeps e store.OutputFailed t s = not-refused 3 s (inr refl)
    unwritten-keeps e store.OutOfMemory t s =
        (ran-out (log_use a.flags.no_log) a.dir step before after e t, inr (refl, record { a = a; is_asked = is; step = step; asks = asks; edits = e; taken = t }))

    step-keeps : (end : Result Said Stop) → StepEnds a.dir step a.flags before after end → Refusing (status exit_code end) → Keeps (status exit_code end)
    step-keeps _ (not_opened stop u opens) s = untouched-keeps (stop_status stop) u
    step-keeps _ (refused old log stop u opens may) s = untouched-keeps (stop_status stop) u
    step-keeps _ (told old new log report said u opens does only says) s = untouched-keeps (done_status exit_code said) u
    step-keeps _ (shown old new log report said u opens does writes dry shows all warns) s = untouched-keeps (done_status exit_code all) u
    step-keeps _ (done e said writes wet are says all warns) s = done-keeps all s
    step-keeps _ (unwritten e fault writes wet taken) s = unwritten-keeps e fault taken s
    step-keeps _ (no_memory stop u wants) s = untouched-keeps (stop_status stop) u

pub status-keeps : (exit_code : Bool) (asked : Result Asked UsageFault) (before after : Seen) (end : Result Said Stop) → Ends asked before after end → Refusing (status exit_code end)
    → KeepsFiles asked before after (status exit_code end)
status-keeps exit_code asked before after _ (misused fault advice u is) s = untouched-keeps exit_code asked before after (usage_status fault) u
status-keeps exit_code asked before after _ (helped a text u is shows) s = untouched-keeps exit_code asked before after (done_status exit_code (shown_text text)) u
status-keeps exit_code asked before after _ (told_version a u is shows) s = untouched-keeps exit_code asked before after (done_status exit_code (shown_text version_line)) u
status-keeps exit_code asked before after _ (asks_for_none a stop u is none) s = untouched-keeps exit_code asked before after (stop_status stop) u
status-keeps exit_code asked before after _ (steps a step end is asks ends) s = step-keeps exit_code asked before after a step is asks end ends s
status-keeps exit_code asked before after _ (lists a listing end is asks ends) s = untouched-keeps exit_code asked before after (status exit_code end) (listing-untouched a.dir listing a.flags before after end ends)
status-keeps exit_code asked before after _ (memory_ran_out stop u wants) s = untouched-keeps exit_code asked before after (stop_status stop) u

-- ---- what was asked for

-- a text that is shown is that of help, or the version
pub shown-ends : (a : Asked) (b c : Seen) (text : List ℕ) → Untouched b c → AsksFor a.title a.action b.content (request.Show text) → Ends (Ok (without_text a)) b c (Ok (shown_text text))
shown-ends a b c text u asks = of-action a.action refl asks
  where
    of-action : (x : Action) → a.action ≡ x → AsksFor a.title x b.content (request.Show text) → Ends (Ok (without_text a)) b c (Ok (shown_text text))
    of-action (action.Run s) at is = absurd (let no : ⊥ = cc in no)
    of-action (action.Info d) at is = absurd (let no : ⊥ = cc in no)
    of-action (action.ScriptText t unknown) at (cs, of, is) = absurd (let no : ⊥ = cc in no)
    of-action (action.ScriptFile n unknown) at (cs, of, is) = absurd (let no : ⊥ = cc in no)
    of-action action.Undo at is = absurd (let no : ⊥ = cc in no)
    of-action (action.UndoTo count) at is = absurd (let no : ⊥ = cc in no)
    of-action (action.UndoChecked count name) at (file, of, is) = absurd (let no : ⊥ = cc in no)
    of-action (action.ForgetOldest count) at is = absurd (let no : ⊥ = cc in no)
    of-action action.ForgetAll at is = absurd (let no : ⊥ = cc in no)
    of-action action.Redo at is = absurd (let no : ⊥ = cc in no)
    of-action action.History at is = absurd (let no : ⊥ = cc in no)
    of-action (action.List json) at is = absurd (let no : ⊥ = cc in no)
    of-action (action.ListCalls function json) at is = absurd (let no : ⊥ = cc in no)
    of-action (action.ListAssignments json) at is = absurd (let no : ⊥ = cc in no)
    of-action action.Sums at is = absurd (let no : ⊥ = cc in no)
    of-action (action.Help t) at is = let same : t ≡ text = cc in helped a text u refl (at ∙ ap action.Help same)
    of-action action.Version at is =
        let same : version_line ≡ text = cc in
        subst (λ out. Ends (Ok (without_text a)) b c (Ok (shown_text out))) same (told_version a u refl at)

pub not-asked : (a : Asked) (b c : Seen) → Untouched b c → (stop : Stop) → WantsMemory stop ⊎ AsksForNone a.flags a.action b.content b.failures c.failures stop → Ends (Ok (without_text a)) b c (Err stop)
not-asked a b c u stop (inl m) = memory_ran_out stop u m
not-asked a b c u stop (inr none) = asks_for_none a stop u refl none

pub not-used : (asked : Result Asked UsageFault) (b c : Seen) → Untouched b c → (fault : UsageFault) (advice : Advice)
    → WantsMemory (Usage fault advice) ⊎ (asked ≡ Err fault) → Ends asked b c (Err (Usage fault advice))
not-used asked b c u fault advice (inl m) = memory_ran_out (Usage fault advice) u m
not-used asked b c u fault advice (inr is) = misused fault advice u is

-- ---- help, the version, a listing and what an info command tells leave the store as it is

asks-only : (title : List ℕ) (a : Action) (held : Option Content) (step : Step) → AsksFor title a held (request.Step step) → IsTrue (only_asks a) → only_tells step ≡ true
asks-only title (action.Run s) held step is t = absurd (let no : ⊥ = cc in no)
asks-only title (action.Info c) held step is t = let same : step ≡ Tell (script (c ∷ [])) = cc in ap only_tells same
asks-only title (action.ScriptText text unknown) held step is t = absurd (let no : ⊥ = cc in no)
asks-only title (action.ScriptFile n unknown) held step is t = absurd (let no : ⊥ = cc in no)
asks-only title action.Undo held step is t = absurd (let no : ⊥ = cc in no)
asks-only title (action.UndoTo count) held step is t = absurd (let no : ⊥ = cc in no)
asks-only title (action.UndoChecked count name) held step is t = absurd (let no : ⊥ = cc in no)
asks-only title (action.ForgetOldest count) held step is t = absurd (let no : ⊥ = cc in no)
asks-only title action.ForgetAll held step is t = absurd (let no : ⊥ = cc in no)
asks-only title action.Redo held step is t = absurd (let no : ⊥ = cc in no)
asks-only title action.History held step is t = absurd (let no : ⊥ = cc in no)
asks-only title (action.List json) held step is t = absurd (let no : ⊥ = cc in no)
asks-only title (action.ListCalls function json) held step is t = absurd (let no : ⊥ = cc in no)
asks-only title (action.ListAssignments json) held step is t = absurd (let no : ⊥ = cc in no)
asks-only title action.Sums held step is t = absurd (let no : ⊥ = cc in no)
asks-only title (action.Help text) held step is t = absurd (let no : ⊥ = cc in no)
asks-only title action.Version held step is t = absurd (let no : ⊥ = cc in no)

asks-same : (a : Asked) → IsTrue (only_asks (without_text a).action) → IsTrue (only_asks a.action)
asks-same a t = go a.action t
  where
    go : (x : Action) → IsTrue (only_asks (without_text (record { dir = None; title = []; flags = no_flags; texts = None; action = x })).action) → IsTrue (only_asks x)
    go (action.Run s) t = t
    go (action.Info c) t = t
    go (action.ScriptText text unknown) t = t
    go (action.ScriptFile n unknown) t = t
    go action.Undo t = t
    go (action.UndoTo count) t = t
    go (action.UndoChecked count name) t = t
    go (action.ForgetOldest count) t = t
    go action.ForgetAll t = t
    go action.Redo t = t
    go action.History t = t
    go (action.List json) t = t
    go (action.ListCalls function json) t = t
    go (action.ListAssignments json) t = t
    go action.Sums t = t
    go (action.Help text) t = t
    go action.Version t = t

-- nothing is written where a step only tells, and in a dry run
step-told : (dir : Option (List ℕ)) (step : Step) (flags : Flags) (before after : Seen) → (only_tells step ≡ true) ⊎ (flags.dry_run ≡ true) → (end : Result Said Stop) → StepEnds dir step flags before after end
    → IsUnchanged before after
step-told dir step flags before after only _ (not_opened stop u opens) = untouched-same before after u
step-told dir step flags before after only _ (refused old log stop u opens may) = untouched-same before after u
step-told dir step flags before after only _ (told old new log report said u opens does tells says) = untouched-same before after u
step-told dir step flags before after only _ (shown old new log report said u opens does writes dry shows all warns) = untouched-same before after u
step-told dir step flags before after (inl tells) _ (done e said writes wet are says all warns) = absurd (let no : ⊥ = cc in no)
step-told dir step flags before after (inr dry) _ (done e said writes wet are says all warns) = absurd (let no : ⊥ = cc in no)
step-told dir step flags before after (inl tells) _ (unwritten e fault writes wet taken) = absurd (let no : ⊥ = cc in no)
step-told dir step flags before after (inr dry) _ (unwritten e fault writes wet taken) = absurd (let no : ⊥ = cc in no)
step-told dir step flags before after only _ (no_memory stop u wants) = untouched-same before after u

one-true : (x y : Bool) → IsTrue (x || y) → IsTrue x ⊎ (y ≡ true)
one-true true y t = inl refl
one-true false y t = inr t

pub asking-keeps : (asked : Result Asked UsageFault) (before after : Seen) (end : Result Said Stop) → Ends asked before after end → OnlyAsks asked → IsUnchanged before after
asking-keeps asked before after _ (misused fault advice u is) t = untouched-same before after u
asking-keeps asked before after _ (helped a text u is shows) t = untouched-same before after u
asking-keeps asked before after _ (told_version a u is shows) t = untouched-same before after u
asking-keeps asked before after _ (asks_for_none a stop u is none) t = untouched-same before after u
asking-keeps asked before after _ (steps a step end is asks ends) t =
    elim (one-true (only_asks (without_text a).action) a.flags.dry_run (subst OnlyAsks is t)) [
      | inl only ↦ step-told a.dir step a.flags before after (inl (asks-only a.title a.action before.content step asks (asks-same a only))) end ends
      | inr dry ↦ step-told a.dir step a.flags before after (inr dry) end ends
    ]
asking-keeps asked before after _ (lists a listing end is asks ends) t = untouched-same before after (listing-untouched a.dir listing a.flags before after end ends)
asking-keeps asked before after _ (memory_ran_out stop u wants) t = untouched-same before after u
