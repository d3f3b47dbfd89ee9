-- What is said beside the answer of a run: what its commands change though their words do not say so.
use Rattle.std.specs.Prelude.{◌≡◌, ◌-◌, ℕ, Bool, true, false, List, [], ◌∷◌, ◌++◌, codes, length, map, take, Option, Some, None}
use Rattle.serde_json.specs.Data.{array}
use Rattle.serde_json.specs.View.{items_of}
use Rattle.serde_json.specs.Written.{compact_text}
use Rattle.meson_calls.specs.Loading.{Loaded}
use Rattle.meson_command.specs.declared.asked.Flags.{Flags}
use Rattle.meson_explaining.specs.Lines.{warning_lines}
use Rattle.meson_warnings.specs.Warnings.{warnings as warnings_of}
use Rattle.meson_plan.specs.Performing.{Performs}
use Rattle.meson_steps.specs.declared.command.Command.{Command}
use Rattle.meson_steps.specs.declared.command.Done.{Done}
use Rattle.meson_rewrite.specs.Notes.{note_data, placed_note}
use Rattle.meson_rewrite.specs.declared.notes.PlacedNote.{PlacedNote}
use Rattle.meson_rewrite.specs.declared.request.Step.{Step}
use Rattle.meson_rewrite.specs.declared.request.Step.TheVariants.{Run}
use Rattle.meson_rewrite.specs.declared.said.Said.{Said}
use Rattle.meson_rewrite.specs.declared.warnings.Warnings.{Warnings}
use Rattle.meson_rewrite.specs.declared.warnings.Warnings.TheVariants.{Nothing, Lines, Placed}

-- ---- of commands, in order

-- What is said of each command, by the project as the command finds it. Nothing is asked of what the last command leaves.
pub data Gathers (X : Type 0) (each : Loaded → Command → List X) : Loaded → List Command → List X → Type 0 where
  gathers_nothing : (found : Loaded) → Gathers X each found [] []
  gathers_last : (found : Loaded) (c : Command) → Gathers X each found (c ∷ []) (each found c)
  gathers_more : (found : Loaded) (c : Command) (done : Done) (next : Loaded) (commands : List Command) (more : List X) → Performs found c done next
      → Gathers X each next commands more → Gathers X each found (c ∷ commands) (each found c ++ more)

-- as lines, and as notes for an answer in JSON; places are in the files as the command finds them
abbrev pub lines_of : Loaded → Command → List ℕ
lines_of found c = warning_lines found.files (warnings_of found c)

abbrev pub notes_of : Loaded → Command → List PlacedNote
notes_of found c = map (placed_note found.files) (warnings_of found c)

-- the commands of a run
abbrev pub run_of : Step → Option (List Command)
run_of (Run script title) = Some script.commands
run_of _ = None

-- lines, or notes where the answer is in JSON
abbrev pub AreWarnings : Bool → Loaded → List Command → Warnings → Type 0
AreWarnings false old commands (Lines text) = Gathers ℕ lines_of old commands text
AreWarnings true old commands (Placed notes) = Gathers PlacedNote notes_of old commands notes
AreWarnings json old commands w = ⊥

-- Nothing is said where the words do not ask for it, nor of a step that is no run. If memory runs out in gathering, no more is said.
pub data IsWarned (flags : Flags) (old : Loaded) (step : Step) : Warnings → Type 0 where
  no_warnings : IsWarned flags old step Nothing
  with_gathered : (commands : List Command) (w : Warnings) → run_of step ≡ Some commands → flags.explain ≡ true → AreWarnings flags.json old commands w
      → IsWarned flags old step w

-- ---- what is said with them

-- the line of an object of JSON, with one more member before its closing bracket
abbrev pub with_warnings : List PlacedNote → List ℕ → List ℕ
with_warnings notes out =
    take (length out - 2) out ++ (codes ",\"warnings\":" ++ (compact_text (array (items_of (map note_data notes))) ++ codes "}\n"))

abbrev pub warned_out : Warnings → List ℕ → List ℕ
warned_out (Placed notes) out = with_warnings notes out
warned_out _ out = out

-- lines after what else is said for errors
abbrev pub warned_err : Warnings → List ℕ → List ℕ
warned_err (Lines text) err = err ++ text
warned_err _ err = err

abbrev pub warned : Warnings → Said → Said
warned w said = record { out = warned_out w said.out; err = warned_err w said.err; changed = said.changed }

-- what is said of a step on that project, with its warnings
pub record Warns (flags : Flags) (old : Loaded) (step : Step) (plain said : Said) : Type 0 where
  pub warnings : Warnings
  pub are : IsWarned flags old step warnings
  pub is : said ≡ warned warnings plain
