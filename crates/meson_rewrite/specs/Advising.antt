-- What is said of a refused command beside its line.
use Rattle.std.specs.Prelude.{◌≡◌, ℕ, zero, suc, Bool, true, false, if◌then◌else◌, List, [], ◌∷◌, map, take, Option, Some, None}
use Rattle.serde_json.specs.Data.{Data}
use Rattle.meson_splice.specs.declared.file_set.File.{File}
use Rattle.meson_splice.specs.declared.splice.Splice.{Splice}
use Rattle.meson_calls.specs.declared.refusal.Refusal.{Refusal}
use Rattle.meson_calls.specs.declared.refusal.Refusal.TheVariants.{OutOfMemory}
use Rattle.meson_calls.specs.Loading.{Loaded}
use Rattle.meson_command.specs.declared.asked.Flags.{Flags}
use Rattle.meson_explaining.specs.Explaining.{explanation}
use Rattle.meson_explaining.specs.Lines.{explanation_lines}
use Rattle.meson_explaining.specs.declared.explanation.Explanation.{Explanation}
use Rattle.meson_script.specs.Running.{Runs}
use Rattle.meson_script.specs.declared.fault.RunFault.{RunFault}
use Rattle.meson_steps.specs.declared.command.Command.{Command}
use Rattle.meson_rewrite.specs.Notes.{placed_note}
use Rattle.meson_rewrite.specs.Subjects.{subject_of}
use Rattle.meson_rewrite.specs.declared.advice.Advice.{Advice}
use Rattle.meson_rewrite.specs.declared.advice.Advice.TheVariants.{Nothing, Lines, Members}
use Rattle.meson_rewrite.specs.declared.stop.Stop.{Stop}
use Rattle.meson_rewrite.specs.declared.stop.Stop.TheVariants.{Refused}

-- what is said of an explanation of a project with these files: lines, or members of an object of JSON
abbrev pub advice_of : Bool → List File → Explanation → Advice
advice_of false files e = Lines (explanation_lines files e)
advice_of true files e = Members (map (placed_note files) e.notes) e.help

-- the commands leave this project
pub record Leaves (old : Loaded) (commands : List Command) (new : Loaded) : Type 0 where
  pub splices : List Splice
  pub relexed : ℕ
  pub listings : List Data
  pub runs : Runs old commands splices relexed listings new

-- the command of that number
abbrev pub command_at : List Command → ℕ → Option Command
command_at [] index = None
command_at (c ∷ commands) zero = Some c
command_at (c ∷ commands) (suc index) = command_at commands index

-- the name that is meant, where the answer is an object
abbrev pub subject_for : Flags → Loaded → Command → Refusal → Option (List ℕ)
subject_for flags found c why = if flags.json then subject_of found c why else None

-- what explains it, where the words ask for that
abbrev pub advice_for : Flags → Loaded → Command → Refusal → Advice
advice_for flags found c why = if flags.explain then advice_of flags.json found.files (explanation flags.reading found c why) else Nothing

-- What is said beside the line: by what the project holds as the command of that number finds it. Nothing is said of memory that ran out, nor where the words
-- ask for no more than the line.
pub data IsTold (flags : Flags) (old : Loaded) (commands : List Command) (fault : RunFault) : Option (List ℕ) → Advice → Type 0 where
  not_asked : flags.json ≡ false → flags.explain ≡ false → IsTold flags old commands fault None Nothing
  no_memory : fault.refusal ≡ OutOfMemory → IsTold flags old commands fault None Nothing
  no_command : command_at commands fault.index ≡ None → IsTold flags old commands fault None Nothing
  told : (command : Command) → command_at commands fault.index ≡ Some command
      → (found : Loaded) → Leaves old (take fault.index commands) found
      → IsTold flags old commands fault (subject_for flags found command fault.refusal) (advice_for flags found command fault.refusal)

-- for private clauses: why a run stops at a command
pub record IsRefusal (flags : Flags) (old : Loaded) (commands : List Command) (fault : RunFault) (stop : Stop) : Type 0 where
  pub subject : Option (List ℕ)
  pub advice : Advice
  pub is : stop ≡ Refused fault subject advice
  pub told : IsTold flags old commands fault subject advice
