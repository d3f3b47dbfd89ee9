-- What explains faults of files, of the log and of the store, where the words ask for it.
use Rattle.std.specs.Prelude.{◌≡◌, ℕ, Bool, true, false, bytes_eq, codes, decimal, if◌then◌else◌, List, [], ◌∷◌, ◌++◌, option_map, Option, Some, None, Result, Ok, Err}
use Rattle.meson_command.specs.declared.asked.Flags.{Flags}
use Rattle.meson_explaining.specs.Excerpts.{fault_explanation, fault_lines}
use Rattle.meson_explaining.specs.Notes.{plain_note}
use Rattle.meson_explaining.specs.declared.explanation.Explanation.{Explanation}
use Rattle.meson_gathering.specs.Gathering.{file_of}
use Rattle.meson_json.specs.declared.fault.ScriptFault.{ScriptFault}
use Rattle.meson_json.specs.declared.fault.ScriptFault.TheVariants as script
use Rattle.meson_splice.specs.declared.fault.SpliceFault.{SpliceFault}
use Rattle.meson_splice.specs.declared.fault.SpliceFault.TheVariants as splice
use Rattle.meson_store.specs.declared.store_fault.StoreFault.{StoreFault}
use Rattle.meson_store.specs.declared.store_fault.StoreFault.TheVariants as store
use Rattle.meson_syntax.specs.declared.fault.ParseFault.{ParseFault}
use Rattle.meson_explaining.specs.declared.explanation.Note.{Note}
use Rattle.meson_rewrite.specs.Advising.{advice_of}
use Rattle.meson_rewrite.specs.declared.logged_runs.LoggedRun.{LoggedRun}
use Rattle.meson_rewrite.specs.declared.logged_runs.Side.{Side}
use Rattle.meson_rewrite.specs.declared.logged_runs.Side.TheVariants as side
use Rattle.meson_rewrite.specs.declared.stop.FileText.TheVariants.{After, Read}
use Rattle.meson_rewrite.specs.Logs.{log_name}
use Rattle.meson_rewrite.specs.Stops.{advised}
use Rattle.meson_rewrite.specs.declared.advice.Advice.{Advice}
use Rattle.meson_rewrite.specs.declared.advice.Advice.TheVariants.{Lines, OutOfMemory}
use Rattle.meson_rewrite.specs.declared.said.Said.{Said}
use Rattle.meson_rewrite.specs.declared.stop.Stop.{Stop}
use Rattle.meson_rewrite.specs.declared.stop.Stop.TheVariants.{BadTexts, Parse, Script, TooManyFiles, Splice, OtherFiles, Store}

-- ---- what is said

-- of the file of that name with these bytes: lines, or members of an object of JSON
abbrev pub file_advice : Bool → List ℕ → List ℕ → ParseFault → Advice
file_advice false name bytes fault = Lines (fault_lines name bytes fault)
file_advice true name bytes fault = advice_of true (file_of name bytes ∷ []) (fault_explanation fault)

abbrev pub side_word : Side → List ℕ
side_word side.Undo = codes "undo"
side_word side.Redo = codes "redo"

abbrev pub numbered : ℕ → (title : List ℕ) → List ℕ
numbered number [] = decimal number
numbered number (b ∷ title) = decimal number ++ (codes ", title: " ++ b ∷ title)

-- as `history` lists a run of the log
abbrev pub run_text : LoggedRun → List ℕ
run_text run = codes "history lists the run as " ++ (side_word run.side ++ (codes " " ++ numbered run.number run.title))

abbrev pub run_notes : Option LoggedRun → List Note
run_notes None = []
run_notes (Some run) = plain_note (run_text run) ∷ []

-- what was seen, of which run of the log, and what may be done; it is about no place
abbrev pub plain_explanation : List ℕ → Option LoggedRun → List ℕ → Explanation
plain_explanation note run help = record { notes = plain_note note ∷ run_notes run; help = help ∷ [] }

abbrev pub plain_advice : Bool → List ℕ → Option LoggedRun → List ℕ → Advice
plain_advice json note run help = advice_of json [] (plain_explanation note run help)

-- of the file of that name, which could not be read
abbrev pub read_help : List ℕ → List ℕ
read_help name =
    if bytes_eq name log_name
    then codes "--no-log leaves the log alone; a log that is too long may be moved away, and its runs cannot be undone then"
    else codes "it has to be a regular file of at most 64 MiB that you may read"

-- of a file that could not be written, where these files may have their new bytes
abbrev pub write_words : List ℕ → List (List ℕ) → List ℕ × List ℕ
write_words name [] = (
  name ++ codes " could not be written; each build file is as it was",
  codes "look for room on the disk, for the right to write its folder, and for files .rewrite-new that killed runs left",
)
write_words name (n ∷ more) = (
  name ++ codes " could not be written, and a file left new may have bytes that are not in the log",
  codes "look at each file left new, or get it back from version control; then run again",
)

-- of the store: what was seen, and what may be done
abbrev pub store_words : StoreFault → Option (List ℕ × List ℕ)
store_words (store.ReadFailed name) = Some (name ++ codes " could not be read; no file was changed", read_help name)
store_words (store.WriteFailed name still_new) = Some (write_words name still_new)
store_words (store.NoFile name) = Some (
  name ++ codes " is not there; no file was changed",
  codes "--sourcedir names the folder of the root file; the file of a script or of digests is named from the current folder",
)
store_words _ = None

abbrev pub words_advice : Bool → Option LoggedRun → Option (List ℕ × List ℕ) → Option Advice
words_advice json run words = option_map (λ w. plain_advice json w.0 run w.1) words

-- what is done about a change that does not fit
abbrev pub take_back : List ℕ
take_back = codes "git diff shows what was changed since the run: take that back, or remove meson.rewrite-log and use git"

-- what is done where there is no run to take back or to do again
abbrev pub kept_runs : List ℕ
kept_runs = codes "history lists the runs that can be undone and redone; a run with --no-log, or with another --sourcedir, is not among them"

-- of a change of the log that is not taken back or done again
abbrev pub splice_words : SpliceFault → Option (List ℕ × List ℕ)
splice_words (splice.NoFile name) = Some (
  codes "the run changed " ++ (name ++ codes ", which is not in the project now"),
  codes "give --follow if the run was made with it, bring the file and its subdir call back, or remove meson.rewrite-log and use git",
)
splice_words (splice.OutOfRange name place) = Some (codes "the log has bytes at " ++ (decimal place ++ (codes " of " ++ (name ++ codes ", which ends before them"))), take_back)
splice_words (splice.Stale name place) = Some (codes "at byte " ++ (decimal place ++ (codes " of " ++ (name ++ codes " are other bytes than the log has"))), take_back)
splice_words splice.NothingToUndo = Some (codes "the log has no run to take back, or fewer than the words say", kept_runs)
splice_words splice.NothingToRedo = Some (codes "no run was taken back since the newest one", kept_runs)
splice_words splice.OutOfMemory = None

-- of a log that cannot be read
abbrev pub log_advice : Bool → ScriptFault → Option Advice
log_advice json script.BadLog = Some (plain_advice json
    (codes "meson.rewrite-log is no valid log: it was edited, merged or cut") None
    (codes "move it away: its runs cannot be undone then; or run with --no-log"))
log_advice json _ = None

abbrev pub fault_advice : Bool → Stop → Option Advice
fault_advice json (Parse name (Read text) fault advice) = Some (file_advice json name text fault)
fault_advice json (Parse name (After run) fault advice) =
    Some (plain_advice json (name ++ codes " would be so after the step; no file was changed") run take_back)
fault_advice json (Splice fault run advice) = words_advice json run (splice_words fault)
fault_advice json (OtherFiles name advice) = Some (plain_advice json
    (codes "a build file was changed, added or removed since " ++ (name ++ codes " was written, or it has other text")) None
    (codes "sha256sum --check prints which file it is: take that change back, or remove meson.rewrite-log and use git"))
fault_advice json (TooManyFiles advice) =
    Some (plain_advice json (codes "a project has at most 1024 build files") None (codes "--sourcedir names a folder below, whose project has fewer"))
fault_advice json (BadTexts advice) = Some (plain_advice json
    (codes "the file of --texts is no object with the member texts, an array of objects with the members file and text, or has a file twice") None
    (codes "each file has the name of a build file, as list prints it"))
fault_advice json (Script fault advice) = log_advice json fault
fault_advice json (Store fault advice) = words_advice json None (store_words fault)
fault_advice json _ = None

-- ---- when

-- A stop as it is reported. What explains it is said where the words ask for it, unless memory runs out while it is made; all else is as it is.
pub data IsExplained (flags : Flags) (stop : Stop) : Stop → Type 0 where
  not_asked : flags.explain ≡ false → IsExplained flags stop stop
  has_none : fault_advice flags.json stop ≡ None → IsExplained flags stop stop
  is_told : (advice : Advice) → flags.explain ≡ true → fault_advice flags.json stop ≡ Some advice → IsExplained flags stop (advised advice stop)
  ran_out : flags.explain ≡ true → IsExplained flags stop (advised OutOfMemory stop)

-- the ending of a request as it is reported
abbrev pub IsReported : Flags → Result Said Stop → Result Said Stop → Type 0
IsReported flags (Ok said) end = end ≡ Ok said
IsReported flags (Err stop) end = (shown : Stop) × IsExplained flags stop shown × (end ≡ Err shown)
