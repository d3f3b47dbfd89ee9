-- What explains a refusal changes nothing else.
use Rattle.std.specs.Prelude.{◌+◌, reverse}
use Rattle.std.proofs.Common.{Ordering, Less, Equal, Greater, bytes_eq, false, is_eq, true, ◌≡◌, ◌≢◌, ◌⊎◌, ◌∙◌, ℕ, Bool, List, [], ◌∷◌, ◌++◌, codes, Option, None, Some, Result, Ok, Err, inl, inr, map, refl, sym, ap, subst}
use Rattle.std.proofs.lemmas.List.{append-nil, append_assoc}
use Rattle.std.proofs.lemmas.Map.Text.{is_eq-slice_cmp}
use Rattle.std.proofs.lemmas.Slice.Eq.{bytes_eq-Decides}
use Rattle.std.specs.Cmp.Lexicographic.{slice_cmp}
use Rattle.std.specs.Ordering.{match_ordering, nat_cmp}
use Rattle.serde_json.specs.Data.{Data, Members, array, member, no_members, string}
use Rattle.serde_json.specs.View.{items_of}
use Rattle.serde_json.specs.Find.{get_member}
use Rattle.meson_command.specs.Messages.{usage_fault_text}
use Rattle.meson_command.specs.declared.asked.Action.{Action}
use Rattle.meson_command.specs.declared.asked.Action.TheVariants as action
use Rattle.meson_command.specs.declared.asked.Asked.{Asked}
use Rattle.meson_command.specs.declared.asked.Flags.{Flags}
use Rattle.meson_command.specs.declared.fault.UsageFault.{UsageFault}
use Rattle.meson_gathering.specs.declared.fault.GatherFault.{GatherFault}
use Rattle.meson_gathering.specs.declared.fault.GatherFault.TheVariants as gather
use Rattle.meson_calls.specs.Messages.{load_fault_text}
use Rattle.meson_calls.specs.declared.load_fault.LoadFault.TheVariants as load
use Rattle.meson_store.specs.Commit.{still_new}
use Rattle.meson_splice.specs.Messages.{splice_fault_text}
use Rattle.meson_store.specs.Messages.{store_fault_text}
use Rattle.meson_script.specs.declared.fault.UndoFault.{UndoFault}
use Rattle.meson_script.specs.declared.fault.UndoFault.TheVariants as undo
use Rattle.meson_script.specs.declared.session.Session.{Session}
use Rattle.meson_splice.specs.declared.change.Change.{Change}
use Rattle.meson_splice.specs.declared.fault.SpliceFault.{SpliceFault}
use Rattle.meson_splice.specs.declared.file_set.File.{File}
use Rattle.meson_splice.specs.declared.history.History.{History}
use Rattle.meson_splice.specs.Past.{redone, undone}
use Rattle.meson_steps.specs.declared.command.Command.{Command}
use Rattle.meson_json.specs.declared.fault.ScriptFault.{ScriptFault}
use Rattle.meson_store.specs.Content.{Content}
use Rattle.meson_store.specs.Seen.{Seen}
use Rattle.meson_rewrite.proofs.Shown.{reported-is-plain, status-unexplained}
use Rattle.meson_rewrite.proofs.ToldPlain.{told-plain}
use Rattle.meson_rewrite.specs.Remarks.{not_asked_of_it}
use Rattle.meson_rewrite.specs.Requests.{AsksForNone, IsBad, IsNoFile, absent, unread}
use Rattle.meson_rewrite.specs.Texts.{plain, texts_of}
use Rattle.meson_rewrite.specs.AdviceLaws.{AnswersArePlain, ExplainedEndsAsPlain, ExplainedRunsAsPlain, IsPlainEnd, LinesArePlain, MembersArePlain, SaysWarnings, StatusIsPlain, and_warnings, json_of, plain_asked, plain_flags, plain_request, unexplained}
use Rattle.meson_rewrite.specs.Codes.{file_fault_code, refusal_code, script_code, splice_code, store_code, usage_code}
use Rattle.meson_rewrite.specs.Lines.{advice_lines, file_text, left_lines, line, lines_below, shown_text, status, stop_lines, stop_text, version_line}
use Rattle.meson_rewrite.specs.Notes.{note_data}
use Rattle.meson_json.specs.Messages.{script_fault_text}
use Rattle.meson_script.specs.Messages.{refused_text}
use Rattle.meson_rewrite.specs.Listed.{listing_text}
use Rattle.meson_rewrite.specs.LoggedRuns.{newest_run}
use Rattle.meson_rewrite.specs.declared.logged_runs.LoggedRun.{LoggedRun}
use Rattle.meson_rewrite.specs.declared.logged_runs.Side.{Side}
use Rattle.meson_rewrite.specs.declared.logged_runs.Side.TheVariants as side
use Rattle.meson_rewrite.specs.Logs.{log_use}
use Rattle.meson_command.specs.Asking.{without_text}
use Rattle.meson_rewrite.specs.Opening.{OpensNone, bad_log, log_unread, no_log, no_project}
use Rattle.meson_rewrite.specs.Refused.{advice_help, advice_notes, file_fault_offset, parsed_file, refusal_subject, refused_command, script_entry, script_subject, splice_file, splice_offset, store_file, store_left, with_notes, with_number, with_text, with_texts}
use Rattle.meson_rewrite.specs.Runs.{Ends, ListingEnds, RunEnds, StepEnds, TextsEnd, as_with_files, asks_for_none, done, has_no_file, has_no_memory, has_no_texts, has_none, helped, listed, lists, memory_ran_out, misused, no_memory, not_opened, refused, shown, steps, told, told_version, unwritten, wants_memory, with_texts as asked_with_texts, without_texts}
use Rattle.meson_rewrite.specs.Steps.{MayRefuseStep, StopsRun, StopsStep, StopsStepsBack}
use Rattle.meson_rewrite.specs.Stops.{WantsMemory, gathering_stop, undo_stop}
use Rattle.meson_rewrite.proofs.WarnedAnswers.{done-warned, shown-warned}
use Rattle.meson_rewrite.specs.Warnings.{Warns, no_warnings}
use Rattle.meson_rewrite.specs.declared.warnings.Warnings.TheVariants as warnings
use Rattle.meson_rewrite.specs.declared.advice.Advice.{Advice}
use Rattle.meson_rewrite.specs.declared.advice.Advice.TheVariants as advice
use Rattle.meson_rewrite.specs.declared.notes.PlacedNote.{PlacedNote}
use Rattle.meson_rewrite.specs.declared.request.Listing.{Listing}
use Rattle.meson_rewrite.specs.declared.request.Step.{Step}
use Rattle.meson_rewrite.specs.declared.request.Step.TheVariants.{Run, Tell, Undo, UndoTo, UndoChecked, Redo, ForgetOldest, ForgetAll}
use Rattle.meson_rewrite.specs.declared.said.Said.{Said}
use Rattle.meson_rewrite.specs.declared.advice.Advice.TheVariants.{Nothing}
use Rattle.meson_rewrite.specs.declared.stop.Stop.{Stop}
use Rattle.meson_rewrite.specs.declared.stop.Stop.TheVariants.{BadTexts, OtherFiles, Parse, Refused, Script, Splice, Store, TooManyFiles, Usage}

-- ---- stops that nothing explains

gathering-plain : (fault : GatherFault) → unexplained (gathering_stop fault) ≡ gathering_stop fault
gathering-plain (gather.Parse name bytes fault) = refl
gathering-plain gather.TooManyFiles = refl
gathering-plain (gather.Store fault) = refl

opening-plain : (dir : Option (List ℕ)) (flags : Flags) (before after : Seen) (stop : Stop)
    → OpensNone (log_use flags.no_log) flags.reading before.content dir before.failures after.failures stop → unexplained stop ≡ stop
opening-plain dir flags before after _ (no_project fault stops) = gathering-plain fault
opening-plain dir flags before after _ (no_log files _ found (log_unread kept rose)) = refl
opening-plain dir flags before after _ (no_log files _ found (bad_log kept bad)) = refl

undo-plain : (files : List File) (run : Option LoggedRun) (fault : UndoFault) → unexplained (undo_stop files run fault) ≡ undo_stop files run fault
undo-plain files run (undo.Splice fault) = refl
undo-plain files run (undo.Load load.TooManyFiles) = refl
undo-plain files run (undo.Load (load.BadFileName place)) = refl
undo-plain files run (undo.Load (load.Parse place fault)) = refl
undo-plain files run (undo.Load load.OutOfMemory) = refl

memory-plain : (stop : Stop) → WantsMemory stop → WantsMemory (unexplained stop)
memory-plain (Usage fault advice_) (wants, none) = (wants, refl)
memory-plain (Script fault advice_) (wants, none) = (wants, refl)
memory-plain (Refused fault subject advice_) (wants, none) = (wants, refl)
memory-plain (Splice fault run advice_) (wants, none) = (wants, refl)
memory-plain (Store fault advice_) (wants, none) = (wants, refl)
memory-plain (Parse name text fault advice_) m = absurd m
memory-plain (TooManyFiles advice_) m = absurd m
memory-plain (OtherFiles name advice_) m = absurd m
memory-plain (BadTexts advice_) m = absurd m
memory-plain _ m = m

-- ---- a step that is refused

run-plain : (flags : Flags) (old : Session) (commands : List Command) (stop : Stop) → StopsRun flags old commands stop
    → StopsRun (plain_flags flags) old commands (unexplained stop)
run-plain flags old commands (Refused fault subject advice_) (may, more) = (may, told-plain flags old.project commands fault subject advice_ more)
run-plain flags old commands _ h = absurd h

step-plain : (old : Session) (which : Side) (runs : List Change) (step : Result (History × List File) SpliceFault) (stop : Stop)
    → StopsStep old which runs step stop → StopsStep old which runs step (unexplained stop)
step-plain old which runs step stop (fault, may, is) = (fault, may, ap unexplained is ∙ undo-plain old.project.files (newest_run which 1 (reverse runs)) fault)

back-plain : (count : ℕ) (old : Session) (stop : Stop) → StopsStepsBack count old stop → StopsStepsBack count old (unexplained stop)
back-plain count old stop (fault, between, stops, is) =
    let run = newest_run side.Undo (stops.done + 1) (reverse between.history.past) in
    (fault, between, stops, ap unexplained is ∙ undo-plain old.project.files run fault)

refused-plain : (flags : Flags) (step : Step) (old : Session) (stop : Stop) → MayRefuseStep flags step old stop
    → MayRefuseStep (plain_flags flags) step old (unexplained stop)
refused-plain flags (Run script title) old stop h = run-plain flags old script.commands stop h
refused-plain flags (Tell script) old stop h = run-plain flags old script.commands stop h
refused-plain flags Undo old stop h = step-plain old side.Undo old.history.past (undone old.history old.project.files) stop h
refused-plain flags (UndoTo count) old stop h = back-plain count old stop h
refused-plain flags (UndoChecked count kept) old stop (inl (other, is)) = inl (other, ap unexplained is)
refused-plain flags (UndoChecked count kept) old stop (inr (has, back)) = inr (has, back-plain count old stop back)
refused-plain flags (ForgetOldest count) old stop (few, is) = (few, ap unexplained is)
refused-plain flags ForgetAll old stop h = absurd h
refused-plain flags Redo old stop h = step-plain old side.Redo old.history.future (redone old.history old.project.files) stop h

-- a stop is a plain end, and so is what is said without warnings
module _ (json : Bool) where
  stopped : (stop : Stop) → IsPlainEnd json (Err stop) (Err (unexplained stop))
  stopped stop = refl

  same-said : (said : Said) → IsPlainEnd json (Ok said) (Ok said)
  same-said said = (said, refl, inl refl)

  with-said : (plain said : Said) → (said ≡ plain) ⊎ SaysWarnings json plain said → IsPlainEnd json (Ok said) (Ok plain)
  with-said plain said more = (plain, refl, more)

abbrev NoWarnings : Flags → Session → Step → Said → Type 0
NoWarnings flags old step said = Warns (plain_flags flags) old.project step said said

no-warnings : (flags : Flags) (old : Session) (step : Step) (said : Said) → NoWarnings flags old step said
no-warnings flags old step said = record { warnings = warnings.Nothing; are = no_warnings; is = refl }

pub explained_ends_as_plain : ExplainedEndsAsPlain
explained_ends_as_plain dir step flags before after _ (not_opened stop u opens) =
    let ends = not_opened (unexplained stop) u (subst (OpensNone (log_use flags.no_log) flags.reading before.content dir before.failures after.failures) (sym (opening-plain dir flags before after stop opens)) opens) in
    (Err (unexplained stop), ends, stopped flags.json stop)
explained_ends_as_plain dir step flags before after _ (refused old log stop u opens may) =
    (Err (unexplained stop), refused old log (unexplained stop) u opens (refused-plain flags step old stop may), stopped flags.json stop)
explained_ends_as_plain dir step flags before after _ (told old new log report said u opens does only says) =
    (Ok said, told old new log report said u opens does only says, same-said flags.json said)
explained_ends_as_plain dir step flags before after _ (shown old new log report said u opens does writes dry shows all warns) = (
  Ok said,
  shown old new log report said u opens does writes dry shows said (no-warnings flags old step said),
  with-said flags.json said all (shown-warned flags step old new report said all shows warns),
)
explained_ends_as_plain dir step flags before after _ (done edits said writes wet are says all warns) = (
  Ok said,
  done edits said writes wet are says said (no-warnings flags edits.old step said),
  with-said flags.json said all (done-warned flags step edits.old edits.new edits.report said all says warns),
)
explained_ends_as_plain dir step flags before after _ (unwritten edits fault writes wet taken) =
    (Err (Store fault advice.Nothing), unwritten edits fault writes wet taken, stopped flags.json (Store fault advice.Nothing))
explained_ends_as_plain dir step flags before after _ (no_memory stop u wants) =
    (Err (unexplained stop), no_memory (unexplained stop) u (memory-plain stop wants), stopped flags.json stop)

-- ---- a run

module _ (dir : Option (List ℕ)) (listing : Listing) (flags : Flags) (before after : Seen) where
  listing-plain : (end : Result Said Stop) → ListingEnds dir listing flags before after end
      → (plain : Result Said Stop) × ListingEnds dir listing (plain_flags flags) before after plain × IsPlainEnd flags.json end plain
  listing-plain _ (has_none stop u opens) =
      let none = subst (OpensNone (log_use flags.no_log) flags.reading before.content dir before.failures after.failures) (sym (opening-plain dir flags before after stop opens)) opens in
      (Err (unexplained stop), has_none (unexplained stop) u none, stopped flags.json stop)
  listing-plain _ (listed session log u opens) =
      let said = shown_text (listing_text flags.reading flags.json listing session) in
      (Ok said, listed session log u opens, same-said flags.json said)
  listing-plain _ (wants_memory stop u wants) = (Err (unexplained stop), wants_memory (unexplained stop) u (memory-plain stop wants), stopped flags.json stop)

no-file-plain : (held : Option Content) (failed failed' : ℕ) (name : List ℕ) (stop : Stop) → IsNoFile held failed failed' name stop → IsNoFile held failed failed' name (unexplained stop)
no-file-plain held failed failed' name _ (unread rose) = unread rose
no-file-plain held failed failed' name _ (absent none) = absent none

bad-plain : (flags : Flags) (script : Result (List Command) ScriptFault) (stop : Stop) → IsBad flags script stop → IsBad (plain_flags flags) script (unexplained stop)
bad-plain flags script stop (fault, (advice_, (bad, (is, advised)))) = (fault, (advice.Nothing, (bad, (ap unexplained is, not_asked_of_it refl))))

none-plain : (flags : Flags) (a : Action) (held : Option Content) (failed failed' : ℕ) (stop : Stop) → AsksForNone flags a held failed failed' stop
    → AsksForNone (plain_flags flags) a held failed failed' (unexplained stop)
none-plain flags (action.ScriptText text unknown) held failed failed' stop bad = bad-plain flags _ stop bad
none-plain flags (action.ScriptFile name unknown) held failed failed' stop (inl none) = inl (no-file-plain held failed failed' name stop none)
none-plain flags (action.ScriptFile name unknown) held failed failed' stop (inr (bytes, has, bad)) = inr (bytes, has, bad-plain flags _ stop bad)
none-plain flags (action.UndoChecked count name) held failed failed' stop none = no-file-plain held failed failed' name stop none
none-plain flags _ held failed failed' stop none = absurd none

module _ (asked : Result Asked UsageFault) (before after : Seen) where
  abbrev PlainRun : Result Said Stop → Type 0
  PlainRun end = (plain : Result Said Stop) × Ends (plain_asked asked) before after plain × IsPlainEnd (json_of asked) end plain

  -- the words want what the request without texts wants
  as-asked : (a : Asked) → asked ≡ Ok (without_text a) → (end plain : Result Said Stop) → IsPlainEnd a.flags.json end plain → IsPlainEnd (json_of asked) end plain
  as-asked a is end plain it = subst (λ json. IsPlainEnd json end plain) (sym (ap json_of is)) it

  ends-plain : (end : Result Said Stop) → Ends asked before after end → PlainRun end
  ends-plain _ (misused fault advice_ u is) = (Err (Usage fault advice.Nothing), misused fault advice.Nothing u (ap plain_asked is), refl)
  ends-plain _ (helped a text u is shows) =
      let said = shown_text text in (Ok said, helped (plain_request a) text u (ap plain_asked is) shows, same-said (json_of asked) said)
  ends-plain _ (told_version a u is shows) =
      let said = shown_text version_line in (Ok said, told_version (plain_request a) u (ap plain_asked is) shows, same-said (json_of asked) said)
  ends-plain _ (asks_for_none a stop u is none) =
      (Err (unexplained stop), asks_for_none (plain_request a) (unexplained stop) u (ap plain_asked is) (none-plain a.flags a.action before.content before.failures after.failures stop none), refl)
  ends-plain _ (steps a step end is asks ends) =
      let plain = explained_ends_as_plain a.dir step a.flags before after end ends in
      (plain.0, steps (plain_request a) step plain.0 (ap plain_asked is) asks plain.1, as-asked a is end plain.0 plain.2)
  ends-plain _ (lists a listing end is asks ends) =
      let plain = listing-plain a.dir listing a.flags before after end ends in
      (plain.0, lists (plain_request a) listing plain.0 (ap plain_asked is) asks plain.1, as-asked a is end plain.0 plain.2)
  ends-plain _ (memory_ran_out stop u wants) = (Err (unexplained stop), memory_ran_out (unexplained stop) u (memory-plain stop wants), refl)

module _ (a : Asked) (name : List ℕ) (before after : Seen) where
  texts-plain : (end : Result Said Stop) → TextsEnd a name before after end
      → (plain : Result Said Stop) × TextsEnd (plain_request a) name before after plain × IsPlainEnd a.flags.json end plain
  texts-plain _ (has_no_file stop u none) =
      (Err (unexplained stop), has_no_file (unexplained stop) u (no-file-plain before.content before.failures after.failures name stop none), refl)
  texts-plain _ (has_no_texts bytes u has none) = (Err (BadTexts Nothing), has_no_texts bytes u has none, refl)
  texts-plain _ (as_with_files reached bytes texts end u v has lists_them ends) =
      let plain = ends-plain (Ok a) _ _ end ends in
      (plain.0, as_with_files reached bytes texts plain.0 u v has lists_them plain.1, plain.2)
  texts-plain _ (has_no_memory stop u wants) = (Err (unexplained stop), has_no_memory (unexplained stop) u (memory-plain stop wants), refl)

same-texts : (asked : Result Asked UsageFault) → texts_of (plain_asked asked) ≡ texts_of asked
same-texts (Err fault) = refl
same-texts (Ok a) = refl

abbrev PlainOf : Result Asked UsageFault → Seen → Seen → Result Said Stop → Type 0
PlainOf asked before after end = (plain : Result Said Stop) × RunEnds (plain_asked asked) before after plain × IsPlainEnd (json_of asked) end plain

run-ends-plain : (asked : Result Asked UsageFault) (before after : Seen) (end : Result Said Stop) → RunEnds asked before after end → PlainOf asked before after end
run-ends-plain asked before after _ (without_texts end none ends) =
    let plain = ends-plain asked before after end ends in
    (plain.0, without_texts plain.0 (same-texts asked ∙ none) plain.1, plain.2)
run-ends-plain asked before after _ (asked_with_texts a name end is named ends) =
    let found = texts-plain (plain a) name before after end ends in (
      found.0,
      asked_with_texts (plain_request a) name found.0 (ap plain_asked is) named found.1,
      subst (λ json. IsPlainEnd json end found.0) (sym (ap json_of is)) found.2,
    )

pub explained_runs_as_plain : ExplainedRunsAsPlain
explained_runs_as_plain asked before after end reported ends reports =
    let found = run-ends-plain asked before after end ends in
    (found.0, found.1, reported-is-plain (json_of asked) asked end reported reports found.0 found.2)

-- ---- what is written

text-plain : (stop : Stop) → stop_text (unexplained stop) ≡ stop_text stop
text-plain (Usage fault advice_) = refl
text-plain (Script fault advice_) = refl
text-plain (Parse name text fault advice_) = refl
text-plain (TooManyFiles advice_) = refl
text-plain (Refused fault subject advice_) = refl
text-plain (Splice fault run advice_) = refl
text-plain (OtherFiles name advice_) = refl
text-plain (BadTexts advice_) = refl
text-plain (Store fault advice_) = refl
text-plain _ = refl

below-plain : (stop : Stop) → (more : List ℕ) × (lines_below stop ≡ lines_below (unexplained stop) ++ more)
below-plain (Usage fault advice_) = (advice_lines advice_, refl)
below-plain (Script fault advice_) = (advice_lines advice_, refl)
below-plain (Parse name text fault advice_) = (advice_lines advice_, refl)
below-plain (TooManyFiles advice_) = (advice_lines advice_, refl)
below-plain (Refused fault subject advice_) = (advice_lines advice_, refl)
below-plain (Splice fault run advice_) = (advice_lines advice_, refl)
below-plain (OtherFiles name advice_) = (advice_lines advice_, refl)
below-plain (BadTexts advice_) = (advice_lines advice_, refl)
below-plain (Store fault advice_) = (advice_lines advice_, ap (λ (l : List ℕ). l ++ advice_lines advice_) (sym (append-nil (left_lines (still_new fault)))))
below-plain _ = ([], refl)

said-status : (exit_code json : Bool) (plain said : Said) → (said ≡ plain) ⊎ SaysWarnings json plain said → status exit_code (Ok said) ≡ status exit_code (Ok plain)
said-status exit_code json plain said (inl is) = ap (λ s. status exit_code (Ok s)) is
said-status exit_code false plain said (inr (more, is)) = ap (λ s. status exit_code (Ok s)) is
said-status exit_code true plain said (inr (ms, found, text, is)) = ap (λ s. status exit_code (Ok s)) is

pub status_is_plain : StatusIsPlain
status_is_plain exit_code json (Ok said) other (alone, is, more) = said-status exit_code json alone said more ∙ sym (ap (status exit_code) is)
status_is_plain exit_code json (Err stop) other is = status-unexplained exit_code stop ∙ sym (ap (status exit_code) is)

pub lines_are_plain : LinesArePlain
lines_are_plain stop =
    let told = below-plain stop in
    let below = lines_below (unexplained stop) in
    let head = line (codes "error: " ++ stop_text stop) in (
      told.0,
      ap (λ (l : List ℕ). head ++ l) told.1 ∙ sym (append_assoc head below told.0)
          ∙ ap (λ (t : List ℕ). (line (codes "error: " ++ t) ++ below) ++ told.0) (sym (text-plain stop)),
    )

either : (o : Ordering) (found other : Option Data) → is_eq o ≡ false → match_ordering o found other found ≡ found
either Less found other e = refl
either Equal found other e = absurd (let no : ⊥ = cc in no)
either Greater found other e = refl

not_true : (b : Bool) → (b ≡ true → ⊥) → b ≡ false
not_true true h = absurd (h refl)
not_true false h = refl

module _ (key : List ℕ) where
  -- a member of another key is passed
  passes : (other : List ℕ) (d : Data) (more : Members) → key ≢ other → get_member key (member other d more) ≡ get_member key more
  passes other d more differ =
      either (slice_cmp nat_cmp key other) (get_member key more) (Some d)
      (is_eq-slice_cmp key other ∙ not_true (bytes_eq key other) (λ same. differ ((bytes_eq-Decides key other).0 same)))

  -- a member before what is the same
  after : (k : List ℕ) (d : Data) (more others : Members) → get_member key more ≡ get_member key others → get_member key (member k d more) ≡ get_member key (member k d others)
  after k d more others same = ap (λ found. match_ordering (slice_cmp nat_cmp key k) found (Some d) found) same

  after-number : (k : List ℕ) (o : Option ℕ) (more others : Members) → get_member key more ≡ get_member key others
      → get_member key (with_number k o more) ≡ get_member key (with_number k o others)
  after-number k None more others same = same
  after-number k (Some n) more others same = after k _ more others same

  after-text : (k : List ℕ) (o : Option (List ℕ)) (more others : Members) → get_member key more ≡ get_member key others
      → get_member key (with_text k o more) ≡ get_member key (with_text k o others)
  after-text k None more others same = same
  after-text k (Some text) more others same = after k _ more others same

  after-texts : (k : List ℕ) (o : Option (List (List ℕ))) (more others : Members) → get_member key more ≡ get_member key others
      → get_member key (with_texts k o more) ≡ get_member key (with_texts k o others)
  after-texts k None more others same = same
  after-texts k (Some texts) more others same = after k _ more others same

  pass-texts : (k : List ℕ) (o : Option (List (List ℕ))) (more : Members) → key ≢ k → get_member key (with_texts k o more) ≡ get_member key more
  pass-texts k None more differ = refl
  pass-texts k (Some texts) more differ = passes k _ more differ

  pass-notes : (o : Option (List PlacedNote)) (more : Members) → key ≢ codes "notes" → get_member key (with_notes o more) ≡ get_member key more
  pass-notes None more differ = refl
  pass-notes (Some notes) more differ = passes (codes "notes") _ more differ

  -- the members of a refusal, with `help` and `notes` or without
  module _ (at_ : Option ℕ) (code : List ℕ) (command entry : Option ℕ) (file : Option (List ℕ)) (left : Option (List (List ℕ))) (message : List ℕ) (name : Option (List ℕ)) where
    abbrev all-members : Option (List (List ℕ)) → Option (List PlacedNote) → Members
    all-members help notes =
        with_number (codes "at") at_ (member (codes "code") (string code)
        (with_number (codes "command") command (with_number (codes "entry") entry
        (with_text (codes "file") file (with_texts (codes "help") help (with_texts (codes "left") left
        (member (codes "message") (string message) (with_text (codes "name") name (with_notes notes no_members)))))))))

    plain-members : key ≢ codes "help" → key ≢ codes "notes" → (help : Option (List (List ℕ))) (notes : Option (List PlacedNote))
        → get_member key (all-members help notes) ≡ get_member key (all-members None None)
    plain-members h n help notes =
        after-number (codes "at") at_ _ _ (after (codes "code") (string code) _ _
        (after-number (codes "command") command _ _ (after-number (codes "entry") entry _ _
        (after-text (codes "file") file _ _ (pass-texts (codes "help") help _ h ∙ after-texts (codes "left") left _ _
        (after (codes "message") (string message) _ _ (after-text (codes "name") name _ _ (pass-notes notes no_members n))))))))

pub members_are_plain : MembersArePlain
members_are_plain (Usage fault advice_) key h n = plain-members key None (usage_code fault) None None None None (usage_fault_text fault) None h n (advice_help advice_) (advice_notes advice_)
members_are_plain (Script fault advice_) key h n =
    plain-members key None (script_code fault) None (script_entry fault) None None (script_fault_text fault) (script_subject fault) h n (advice_help advice_) (advice_notes advice_)
members_are_plain (Parse name text fault advice_) key h n =
    plain-members key (file_fault_offset fault) (file_fault_code fault) None None (parsed_file name fault) None (file_text name fault) None h n (advice_help advice_) (advice_notes advice_)
members_are_plain (TooManyFiles advice_) key h n =
    plain-members key None (codes "M1") None None None None (load_fault_text load.TooManyFiles) None h n (advice_help advice_) (advice_notes advice_)
members_are_plain (Refused fault subject advice_) key h n =
    plain-members key None (refusal_code fault.refusal) (refused_command fault.index fault.refusal) None None None (refused_text fault.index fault.refusal)
    (refusal_subject fault.refusal subject) h n (advice_help advice_) (advice_notes advice_)
members_are_plain (Splice fault run advice_) key h n =
    plain-members key (splice_offset fault) (splice_code fault) None None (splice_file fault) None (splice_fault_text fault) None h n (advice_help advice_) (advice_notes advice_)
members_are_plain (OtherFiles name advice_) key h n =
    plain-members key None (codes "P6") None None (Some name) None (codes "P6 files are not as " ++ (name ++ codes " has them")) None h n (advice_help advice_) (advice_notes advice_)
members_are_plain (BadTexts advice_) key h n =
    plain-members key None (codes "J11") None None None None (codes "J11 bad texts") None h n (advice_help advice_) (advice_notes advice_)
members_are_plain (Store fault advice_) key h n =
    plain-members key None (store_code fault) None None (store_file fault) (store_left fault) (store_fault_text fault) None h n (advice_help advice_) (advice_notes advice_)
members_are_plain _ key h n = refl

pub answers_are_plain : AnswersArePlain
answers_are_plain no_members found key other = passes key (codes "warnings") found no_members other
answers_are_plain (member k d more) found key other = after key k d (and_warnings more found) more (answers_are_plain more found key other)
