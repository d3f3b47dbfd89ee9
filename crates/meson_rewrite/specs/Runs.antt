-- How a run of the program ends: what it says, and what the store then holds.
use Rattle.std.specs.Prelude.{◌≡◌, ◌≢◌, ◌⊎◌, ◌||◌, ⊤, Bool, IsTrue, false, true, if◌then◌else◌, ℕ, List, [], Option, Some, None, Result, Ok, Err, IfErr}
use Rattle.std.specs.FinMap.{get}
use Rattle.std.specs.List.{Contains}
use Rattle.meson_calls.specs.declared.call.Reading.{Reading}
use Rattle.meson_calls.specs.Loading.{IsProject}
use Rattle.meson_json.specs.Log.{log_of}
use Rattle.meson_json.specs.TextsFile.{GivenText, HasNoTexts, HasTexts}
use Rattle.meson_script.specs.declared.session.Report.{Report}
use Rattle.meson_script.specs.declared.session.Session.{Session}
use Rattle.meson_command.specs.Asking.{only_asks, only_shows, without_text}
use Rattle.meson_command.specs.declared.asked.Action.TheVariants.{Help, Version}
use Rattle.meson_command.specs.declared.asked.Asked.{Asked}
use Rattle.meson_command.specs.declared.asked.Flags.{Flags}
use Rattle.meson_command.specs.declared.fault.UsageFault.{UsageFault}
use Rattle.meson_command.specs.declared.fault.UsageFault.TheVariants as usage
use Rattle.meson_store.specs.Commit.{AreReplaced, Put, TakenBack, path_in, puts}
use Rattle.meson_store.specs.Content.{Content}
use Rattle.meson_store.specs.Output.{Heard, Gets, Fails}
use Rattle.meson_store.specs.Seen.{Seen, Untouched}
use Rattle.meson_store.specs.declared.store_fault.StoreFault.{StoreFault}
use Rattle.meson_store.specs.declared.store_fault.StoreFault.TheVariants.{OutOfMemory}
use Rattle.meson_rewrite.specs.Remarks.{Advises}
use Rattle.meson_rewrite.specs.declared.advice.Advice.{Advice}
use Rattle.meson_rewrite.specs.declared.advice.Advice.TheVariants.{Nothing}
use Rattle.meson_rewrite.specs.Faults.{IsReported}
use Rattle.meson_rewrite.specs.Lines.{left_by, line, shown_text, status, stop_lines, version_line}
use Rattle.meson_rewrite.specs.Listed.{listing_text}
use Rattle.meson_rewrite.specs.Logs.{empty_log, log_name, log_use, with_log}
use Rattle.meson_rewrite.specs.Opening.{Opens, OpensNone}
use Rattle.meson_rewrite.specs.Refused.{stop_object}
use Rattle.meson_rewrite.specs.Requests.{AsksFor, AsksForNone, HasBytes, IsNoFile}
use Rattle.meson_rewrite.specs.Steps.{Does, MayRefuseStep, SaysStep, ShowsStep, only_tells}
use Rattle.meson_rewrite.specs.Stops.{WantsMemory}
use Rattle.meson_rewrite.specs.StoreReads.{RunMayRead, unread_in}
use Rattle.meson_rewrite.specs.Texts.{laid, placed, plain, texts_of}
use Rattle.meson_rewrite.specs.Warnings.{Warns}
use Rattle.meson_rewrite.specs.declared.opening.LogUse.{LogUse}
use Rattle.meson_rewrite.specs.declared.opening.LogUse.TheVariants.{Kept, Ignored}
use Rattle.meson_rewrite.specs.declared.request.Listing.{Listing}
use Rattle.meson_rewrite.specs.declared.request.ProgramRequest.TheVariants as request
use Rattle.meson_rewrite.specs.declared.request.Step.{Step}
use Rattle.meson_rewrite.specs.declared.said.Said.{Said}
use Rattle.meson_rewrite.specs.declared.stop.Stop.{Stop}
use Rattle.meson_rewrite.specs.declared.stop.Stop.TheVariants.{Usage, BadTexts, Store}

-- ---- a step on the project of a folder

-- the session of the store becomes another one; a log that is kept is the last of the files, its build files are read so, and the answer may be in JSON
pub record Edits (how : LogUse) (reading : Reading) (before : Option Content) (dir : Option (List ℕ)) (step : Step) (json : Bool) : Type 0 where
  pub old : Session
  pub log : List ℕ
  pub opens : Opens how reading before dir old log
  pub new : Session
  -- its files parse as its trees
  pub is_project : IsProject new.project
  pub report : Report
  pub does : Does json step old report new
  pub new_log : List ℕ
  pub is_log : log_of new.history ≡ Ok new_log

-- the files that get other bytes, each with them, with a log that is kept after them
abbrev pub written : {how : LogUse} {reading : Reading} {before : Option Content} {dir : Option (List ℕ)} {step : Step} {json : Bool} → Edits how reading before dir step json → List Put
written {how = how} {dir = dir} e = puts dir (with_log how e.old.project.files e.log) (with_log how e.new.project.files e.new_log)

-- in a dry run it is shown, and not done; what is said of it may be JSON; and the log may be ignored
module _ (dir : Option (List ℕ)) (step : Step) (flags : Flags) (before after : Seen) where
  pub data StepEnds : Result Said Stop → Type 0 where
    -- there is no session
    not_opened : (stop : Stop) → Untouched before after → OpensNone (log_use flags.no_log) flags.reading before.content dir before.failures after.failures stop
        → StepEnds (Err stop)
    -- the step is refused on it
    refused : (old : Session) (log : List ℕ) (stop : Stop) → Untouched before after → Opens (log_use flags.no_log) flags.reading before.content dir old log
        → MayRefuseStep flags step old stop → StepEnds (Err stop)
    -- its listings are reported, and nothing is written
    told : (old new : Session) (log : List ℕ) (report : Report) (said : Said) → Untouched before after
        → Opens (log_use flags.no_log) flags.reading before.content dir old log → Does flags.json step old report new
        → only_tells step ≡ true → SaysStep flags.json step old.project.files new.project.files report said → StepEnds (Ok said)
    -- what it makes of the files is shown, with its warnings, and nothing is written
    shown : (old new : Session) (log : List ℕ) (report : Report) (said : Said) → Untouched before after
        → Opens (log_use flags.no_log) flags.reading before.content dir old log → Does flags.json step old report new
        → only_tells step ≡ false → flags.dry_run ≡ true → ShowsStep flags.json step old report new said
        → (all : Said) → Warns flags old.project step said all → StepEnds (Ok all)
    -- each file that differs was replaced, then the log, and no other; what is said has the warnings
    done : (edits : Edits (log_use flags.no_log) flags.reading before.content dir step flags.json) (said : Said) → only_tells step ≡ false → flags.dry_run ≡ false
        → AreReplaced (written edits) before after
        → SaysStep flags.json step edits.old.project.files edits.new.project.files edits.report said
        → (all : Said) → Warns flags edits.old.project step said all → StepEnds (Ok all)
    -- one could not be replaced, what was replaced got its old bytes again, and the fault reports it
    unwritten : (edits : Edits (log_use flags.no_log) flags.reading before.content dir step flags.json) (fault : StoreFault) → only_tells step ≡ false → flags.dry_run ≡ false
        → TakenBack (written edits) before after fault
        → StepEnds (Err (Store fault Nothing))
    no_memory : (stop : Stop) → Untouched before after → WantsMemory stop → StepEnds (Err stop)

-- ---- what is listed of the project of a folder

pub data ListingEnds (dir : Option (List ℕ)) (listing : Listing) (flags : Flags) (before after : Seen) : Result Said Stop → Type 0 where
  -- there is no session
  has_none : (stop : Stop) → Untouched before after → OpensNone (log_use flags.no_log) flags.reading before.content dir before.failures after.failures stop
      → ListingEnds dir listing flags before after (Err stop)
  listed : (session : Session) (log : List ℕ) → Untouched before after → Opens (log_use flags.no_log) flags.reading before.content dir session log
      → ListingEnds dir listing flags before after (Ok (shown_text (listing_text flags.reading flags.json listing session)))
  wants_memory : (stop : Stop) → Untouched before after → WantsMemory stop → ListingEnds dir listing flags before after (Err stop)

-- ---- a request, by what the store holds

pub data Ends (asked : Result Asked UsageFault) (before after : Seen) : Result Said Stop → Type 0 where
  misused : (fault : UsageFault) (advice : Advice) → Untouched before after → asked ≡ Err fault → Ends asked before after (Err (Usage fault advice))
  helped : (a : Asked) (text : List ℕ) → Untouched before after → asked ≡ Ok (without_text a) → a.action ≡ Help text
      → Ends asked before after (Ok (shown_text text))
  told_version : (a : Asked) → Untouched before after → asked ≡ Ok (without_text a) → a.action ≡ Version
      → Ends asked before after (Ok (shown_text version_line))
  -- the words request a script that is not valid
  asks_for_none : (a : Asked) (stop : Stop) → Untouched before after → asked ≡ Ok (without_text a)
      → AsksForNone a.flags a.action before.content before.failures after.failures stop → Ends asked before after (Err stop)
  steps : (a : Asked) (step : Step) (end : Result Said Stop) → asked ≡ Ok (without_text a) → AsksFor a.title a.action before.content (request.Step step)
      → StepEnds a.dir step a.flags before after end → Ends asked before after end
  lists : (a : Asked) (listing : Listing) (end : Result Said Stop) → asked ≡ Ok (without_text a)
      → AsksFor a.title a.action before.content (request.List listing)
      → ListingEnds a.dir listing a.flags before after end → Ends asked before after end
  memory_ran_out : (stop : Stop) → Untouched before after → WantsMemory stop → Ends asked before after (Err stop)

-- ---- a request with the texts of the file of that name

-- it ends as the request without texts would on a store in which each text is the file of its name, and nothing is written
pub data TextsEnd (a : Asked) (name : List ℕ) (before after : Seen) : Result Said Stop → Type 0 where
  -- the file is not read, or does not exist
  has_no_file : (stop : Stop) → Untouched before after → IsNoFile before.content before.failures after.failures name stop
      → TextsEnd a name before after (Err stop)
  -- it lists no texts of build files
  has_no_texts : (bytes : List ℕ) → Untouched before after → HasBytes before.content name bytes → HasNoTexts bytes
      → TextsEnd a name before after (Err (BadTexts Nothing))
  -- the file was read, and then the store as if it held the texts
  as_with_files : (reached : Seen) (bytes : List ℕ) (texts : List GivenText) (end : Result Said Stop) → Untouched before reached → Untouched reached after
      → HasBytes before.content name bytes → HasTexts bytes texts
      → Ends (Ok a) (laid (placed a.dir texts) reached) (laid (placed a.dir texts) after) end → TextsEnd a name before after end
  has_no_memory : (stop : Stop) → Untouched before after → WantsMemory stop → TextsEnd a name before after (Err stop)

-- ---- a whole run, by the request of the words

pub data RunEnds (asked : Result Asked UsageFault) (before after : Seen) : Result Said Stop → Type 0 where
  without_texts : (end : Result Said Stop) → texts_of asked ≡ None → Ends asked before after end → RunEnds asked before after end
  with_texts : (a : Asked) (name : List ℕ) (end : Result Said Stop) → asked ≡ Ok a → a.texts ≡ Some name → TextsEnd (plain a) name before after end
      → RunEnds asked before after end

-- ---- what stays if nothing is done

abbrev pub IsUnchanged : Seen → Seen → Type 0
IsUnchanged before after = (after.content ≡ before.content) × (after.replaces ≡ before.replaces)

-- Memory ran out in a replace, and the files that were replaced got their old bytes again.
pub record RanOut (asked : Result Asked UsageFault) (before after : Seen) : Type 0 where
  pub a : Asked
  pub is_asked : asked ≡ Ok (without_text a)
  pub step : Step
  pub asks : AsksFor a.title a.action before.content (request.Step step)
  pub edits : Edits (log_use a.flags.no_log) a.flags.reading before.content a.dir step a.flags.json
  pub taken : TakenBack (written edits) before after OutOfMemory

-- All is as before, or memory ran out so: then the files are as before, and the status is 1.
abbrev pub KeepsFiles : Result Asked UsageFault → Seen → Seen → ℕ → Type 0
KeepsFiles asked before after code = (after.content ≡ before.content) × ((after.replaces ≡ before.replaces) ⊎ ((code ≡ 1) × RanOut asked before after))

-- the folder of the project
abbrev pub dir_of : Result Asked UsageFault → Option (List ℕ)
dir_of (Err fault) = None
dir_of (Ok a) = a.dir

-- how the log is used
abbrev pub log_use_of : Result Asked UsageFault → LogUse
log_use_of (Err fault) = Kept
log_use_of (Ok a) = log_use a.flags.no_log

-- at that path is what was there, or the log of no changes, if there was no log and it is kept
abbrev pub IsKept : LogUse → Option (List ℕ) → Content → Content → List ℕ → Type 0
IsKept Kept dir old new path = (get new path ≡ get old path) ⊎ ((path ≡ path_in dir log_name) × (get old path ≡ None) × (get new path ≡ Some empty_log))
IsKept Ignored dir old new path = get new path ≡ get old path

-- Each file is as it was, but for those that are reported by a run that was stopped.
abbrev pub KeepsUntold : LogUse → Option (List ℕ) → Option Content → Option Content → Stop → Type 0
KeepsUntold how dir before after stop = (old new : Content) → before ≡ Some old → after ≡ Some new → (path : List ℕ) →
    ((name : List ℕ) → Contains (left_by stop) name → path ≡ path_in dir name → ⊥) → IsKept how dir old new path

-- Where the log is ignored, the store holds by its name what it held, however the run ends.
abbrev pub LeavesLog : Result Asked UsageFault → Seen → Seen → Type 0
LeavesLog asked before after = log_use_of asked ≡ Ignored → (old new : Content) → before.content ≡ Some old → after.content ≡ Some new
    → get new (path_in (dir_of asked) log_name) ≡ get old (path_in (dir_of asked) log_name)

-- each file but the log is as it was
abbrev pub LeavesFiles : Option (List ℕ) → Seen → Seen → Type 0
LeavesFiles dir before after = (old new : Content) → before.content ≡ Some old → after.content ≡ Some new → (path : List ℕ) → path ≢ path_in dir log_name
    → get new path ≡ get old path

-- the store is not used
abbrev pub NeedsNoStore : Result Asked UsageFault → Type 0
NeedsNoStore (Err fault) = ⊤
NeedsNoStore (Ok a) = IsTrue (only_shows a.action)

-- the request is only help, the version, a listing, what an info command reports, or what would change
abbrev pub OnlyAsks : Result Asked UsageFault → Type 0
OnlyAsks (Err fault) = ⊤
OnlyAsks (Ok a) = IsTrue (only_asks a.action || a.flags.dry_run)

-- whether the words have `--exit-code`
abbrev pub wants_exit_code : Result Asked UsageFault → Bool
wants_exit_code (Err fault) = false
wants_exit_code (Ok a) = a.flags.exit_code

-- ---- what is written

-- whether it is known that the words want JSON: not where memory ran out while they were read
abbrev pub knows_json : Bool → Stop → Bool
knows_json json (Usage usage.OutOfMemory advice) = false
knows_json json stop = json

-- why a run was stopped, as an object of JSON where it is known that the words want it, else as lines
abbrev pub stopped_text : Bool → Stop → List ℕ
stopped_text json stop = if knows_json json stop then line (stop_object stop) else stop_lines stop

-- What a run says is written to the writer of errors and to that of output. Why it was stopped is written to that of errors alone: lines, or an object of JSON.
abbrev pub Says : Bool → Result Said Stop → Heard → Heard → Heard → Heard → Type 0
Says json (Ok said) out out' err err' = Gets out out' said.out × Gets err err' said.err
Says json (Err stop) out out' err err' = Gets err err' (stopped_text json stop) × (out' ≡ out)

-- a writer failed to which something was to be written
abbrev pub CannotGet : Heard → Heard → List ℕ → Type 0
CannotGet old new bytes = (bytes ≢ []) × Fails old new

-- one of these writers failed, to which something was to be written
abbrev pub CannotSay : Result Said Stop → Heard → Heard → Heard → Heard → Type 0
CannotSay (Ok said) out out' err err' = (CannotGet err err' said.err × (out' ≡ out)) ⊎ (Gets err err' said.err × CannotGet out out' said.out)
CannotSay (Err stop) out out' err err' = Fails err err' × (out' ≡ out)

-- the status and the lines of the ending, or status 3 if a writer failed
abbrev pub Tells : Bool → Bool → ℕ → Heard → Heard → Heard → Heard → Result Said Stop → Type 0
Tells exit_code json code out out' err err' end =
    ((code ≡ status exit_code end) × Says json end out out' err err') ⊎ ((code ≡ 3) × CannotSay end out out' err err')

-- the ending of a run as it is reported; words that are not a request are explained where they are read
abbrev pub Reports : Result Asked UsageFault → Result Said Stop → Result Said Stop → Type 0
Reports (Err fault) end reported = reported ≡ end
Reports (Ok a) end reported = IsReported a.flags end reported

-- for private clauses: a run ended in some way, and this is reported
pub record RunReports (asked : Result Asked UsageFault) (before after : Seen) (reported : Result Said Stop) : Type 0 where
  pub end : Result Said Stop
  pub ends : RunEnds asked before after end
  pub reports : Reports asked end reported

-- for words that may want an answer in JSON, and what explains it
pub record Run (asked : Result Asked UsageFault) (json explains : Bool) (before after : Seen) (reads reads' code : ℕ) (out out' err err' : Heard) : Type 0 where
  pub end : Result Said Stop
  pub ends : RunEnds asked before after end
  -- with what explains it
  pub reported : Result Said Stop
  pub reports : Reports asked end reported
  pub tells : Tells (wants_exit_code asked) json code out out' err err' reported
  -- if it was stopped
  pub kept : IfErr end (KeepsUntold (log_use_of asked) (dir_of asked) before.content after.content)
  -- if the words are not a request
  pub advised : Advises explains json asked reported
  -- this is how often the store was read, the last time for the file that is reported as unreadable, if there is one
  pub may_read : RunMayRead asked before.content reads reads' (unread_in reported)
