-- The lines that the program writes, and its status.
use Rattle.std.specs.Prelude.{ℕ, Bool, false, ◌&&◌, if◌then◌else◌, List, [], ◌∷◌, ◌++◌, codes, decimal, Result, Ok, Err}
use Rattle.meson_syntax.specs.declared.fault.ParseFault.{ParseFault}
use Rattle.meson_syntax.specs.declared.fault.ParseFault.TheVariants as parse
use Rattle.meson_syntax.specs.Messages.{parse_fault_text}
use Rattle.meson_calls.specs.declared.load_fault.LoadFault.TheVariants as load
use Rattle.meson_calls.specs.Messages.{load_fault_text}
use Rattle.meson_splice.specs.Messages.{splice_fault_text}
use Rattle.meson_json.specs.Messages.{script_fault_text}
use Rattle.meson_script.specs.Messages.{refused_text}
use Rattle.meson_command.specs.declared.fault.UsageFault.{UsageFault}
use Rattle.meson_command.specs.declared.fault.UsageFault.TheVariants as usage
use Rattle.meson_command.specs.Messages.{usage_fault_text}
use Rattle.meson_store.specs.Commit.{still_new}
use Rattle.meson_store.specs.declared.store_fault.StoreFault.{StoreFault}
use Rattle.meson_store.specs.declared.store_fault.StoreFault.TheVariants as store
use Rattle.meson_store.specs.Messages.{store_fault_text}
use Rattle.meson_rewrite.specs.declared.advice.Advice.{Advice}
use Rattle.meson_rewrite.specs.declared.advice.Advice.TheVariants as advice
use Rattle.meson_rewrite.specs.declared.stop.Stop.{Stop}
use Rattle.meson_rewrite.specs.declared.stop.Stop.TheVariants.{Usage, Script, Parse, TooManyFiles, BadFileName, Refused, Splice, OtherFiles, BadTexts, Store}
use Rattle.meson_rewrite.specs.declared.said.Said.{Said}

-- a text and a line end
abbrev pub line : List ℕ → List ℕ
line text = text ++ 10 ∷ []

-- of the file with that name; of no file when out of memory
abbrev pub file_text : List ℕ → ParseFault → List ℕ
file_text name parse.OutOfMemory = parse_fault_text parse.OutOfMemory
file_text name fault = name ++ (codes ": " ++ parse_fault_text fault)

-- why a run was stopped
abbrev pub stop_text : Stop → List ℕ
stop_text (Usage fault advice) = usage_fault_text fault
stop_text (Script fault advice) = script_fault_text fault
stop_text (Parse name text fault advice) = file_text name fault
stop_text (TooManyFiles advice) = load_fault_text load.TooManyFiles
stop_text (BadFileName place) = load_fault_text (load.BadFileName place)
stop_text (Refused fault subject advice) = refused_text fault.index fault.refusal
stop_text (Splice fault run advice) = splice_fault_text fault
stop_text (OtherFiles name advice) = codes "P6 files are not as " ++ (name ++ codes " has them")
stop_text (BadTexts advice) = codes "J11 bad texts"
stop_text (Store fault advice) = store_fault_text fault

-- one line for each file that may have its new bytes
abbrev pub left_lines : List (List ℕ) → List ℕ
left_lines [] = []
left_lines (name ∷ names) = line (codes "left new: " ++ name) ++ left_lines names

-- the files that may have their new bytes
abbrev pub left_by : Stop → List (List ℕ)
left_by (Store fault advice) = still_new fault
left_by _ = []

-- the lines of what explains a fault
abbrev pub advice_lines : Advice → List ℕ
advice_lines (advice.Lines text) = text
advice_lines _ = []

-- what is below the line of a fault: the files that may have their new bytes, and what explains it
abbrev pub lines_below : Stop → List ℕ
lines_below (Usage fault advice) = advice_lines advice
lines_below (Script fault advice) = advice_lines advice
lines_below (Parse name text fault advice) = advice_lines advice
lines_below (TooManyFiles advice) = advice_lines advice
lines_below (Refused fault subject advice) = advice_lines advice
lines_below (Splice fault run advice) = advice_lines advice
lines_below (OtherFiles name advice) = advice_lines advice
lines_below (BadTexts advice) = advice_lines advice
lines_below (Store fault advice) = left_lines (still_new fault) ++ advice_lines advice
lines_below _ = []

-- what a run that was stopped writes as errors
abbrev pub stop_lines : Stop → List ℕ
stop_lines stop = line (codes "error: " ++ stop_text stop) ++ lines_below stop

-- what a completed run writes as output: how many files differ, and how many splices were made
abbrev pub done_line : ℕ → ℕ → List ℕ
done_line files splices = line (codes "files: " ++ (decimal files ++ (codes ", splices: " ++ decimal splices)))

-- what `--version` writes
abbrev pub version_line : List ℕ
version_line = line (codes "meson_rewrite 1.0.0")

-- what a change is for, if it has a title
abbrev pub title_line : List ℕ → List ℕ
title_line [] = []
title_line (b ∷ title) = line (codes "title: " ++ b ∷ title)

-- how many of the oldest changes of the log were dropped, or that all were
abbrev pub forgot_line : List ℕ → List ℕ
forgot_line which = line (codes "forgot: " ++ which)

-- a text for the output, and no change of a build file
abbrev pub shown_text : List ℕ → Said
shown_text text = record { out = text; err = []; changed = false }

-- ---- the status: 0 or 4 if a run was done, 1 if it is refused or memory ran out, 2 for words without a request, 3 if the store failed

abbrev pub store_fault_status : StoreFault → ℕ
store_fault_status store.OutOfMemory = 1
store_fault_status _ = 3

abbrev pub usage_status : UsageFault → ℕ
usage_status usage.OutOfMemory = 1
usage_status _ = 2

abbrev pub stop_status : Stop → ℕ
stop_status (Usage fault advice) = usage_status fault
stop_status (Store fault advice) = store_fault_status fault
stop_status _ = 1

-- of a run that was done: 4 if the words have `--exit-code` and a build file has other bytes, or would have them
abbrev pub done_status : Bool → Said → ℕ
done_status exit_code said = if exit_code && said.changed then 4 else 0

abbrev pub status : Bool → Result Said Stop → ℕ
status exit_code (Ok said) = done_status exit_code said
status exit_code (Err stop) = stop_status stop
