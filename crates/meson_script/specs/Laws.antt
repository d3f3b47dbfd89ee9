-- What holds of runs, undos and redos.
use Rattle.std.specs.Prelude.{◌≡◌, ◌≢◌, ℕ, List, [], ◌∷◌, ◌++◌, length, Some, None, option_map, Ok, Err}
use Rattle.serde_json.specs.Data.{Data}
use Rattle.meson_splice.specs.declared.change.Change.{Change}
use Rattle.meson_splice.specs.declared.fault.SpliceFault.TheVariants.{NothingToRedo, NothingToUndo}
use Rattle.meson_splice.specs.declared.file_set.File.{File}
use Rattle.meson_splice.specs.declared.history.History.{History}
use Rattle.meson_splice.specs.declared.splice.Splice.{Splice}
use Rattle.meson_splice.specs.Past.{redone, undone, undone_times}
use Rattle.meson_splice.specs.Patch.{patched_all}
use Rattle.meson_layout.specs.Laws.{AreTexts}
use Rattle.meson_calls.specs.declared.load_fault.LoadFault.{LoadFault}
use Rattle.meson_calls.specs.declared.load_fault.LoadFault.TheVariants as load
use Rattle.meson_calls.specs.Loading.{Loaded, IsProject, MayNotLoad}
use Rattle.meson_steps.specs.declared.command.Command.{Command}
use Rattle.meson_script.specs.Running.{Runs}
use Rattle.meson_script.specs.Stack.{KeptSet, Loads, Stack, Stands, ran, ran_all, done_again, taken_back, undos}

-- n runs and then n undos give the files before them
abbrev pub RunsThenUndosRestore : Type 0
RunsThenUndosRestore = (s : Stack) (sets : List KeptSet) → option_map (λ t. t.present) (undos (length sets) (ran_all s sets)) ≡ Some s.present

-- a project with an empty history means a stack without past and future
abbrev pub BeginsAStack : Type 0
BeginsAStack = (p : Loaded) → IsProject p → Stands (record { past = []; future = [] }) p.files (record { past = []; present = p.files; future = [] })

-- a change that was done and kept is a run
abbrev pub RunIsAStep : Type 0
RunIsAStep = (h : History) (files after : List File) (s : Stack) (c : Change) → Stands h files s → patched_all files c.splices ≡ Ok after → Loads after
    → Stands (record { past = h.past ++ c ∷ []; future = [] }) after (ran s c.title after)

abbrev pub UndoIsAStep : Type 0
UndoIsAStep = (h : History) (files : List File) (s t : Stack) → Stands h files s → taken_back s ≡ Some t
    → (k : History) × (undone h files ≡ Ok (k, t.present)) × Stands k t.present t

abbrev pub NothingIsUndone : Type 0
NothingIsUndone = (h : History) (files : List File) (s : Stack) → Stands h files s → taken_back s ≡ None → undone h files ≡ Err NothingToUndo

-- a number of undos of a history that fits is the same number of undos of the stack
abbrev pub UndosAreSteps : Type 0
UndosAreSteps = (count : ℕ) (h : History) (files : List File) (s t : Stack) → Stands h files s → undos count s ≡ Some t
    → (k : History) × (undone_times count h files ≡ Ok (k, t.present)) × Stands k t.present t

abbrev pub RedoIsAStep : Type 0
RedoIsAStep = (h : History) (files : List File) (s t : Stack) → Stands h files s → done_again s ≡ Some t
    → (k : History) × (redone h files ≡ Ok (k, t.present)) × Stands k t.present t

abbrev pub NothingIsRedone : Type 0
NothingIsRedone = (h : History) (files : List File) (s : Stack) → Stands h files s → done_again s ≡ None → redone h files ≡ Err NothingToRedo

-- the files after commands are those before them with the splices done
abbrev pub RunsPatch : Type 0
RunsPatch = (old new : Loaded) (commands : List Command) (splices : List Splice) (relexed : ℕ) (listings : List Data)
    → Runs old commands splices relexed listings new → patched_all old.files splices ≡ Ok new.files

-- files that load get no fault but out of memory
abbrev pub LoadsOrWantsMemory : Type 0
LoadsOrWantsMemory = (files : List File) (fault : LoadFault) → Loads files → MayNotLoad files fault → fault ≢ load.OutOfMemory → ⊥

-- what the splices of commands remove and insert is text
abbrev pub RunsText : Type 0
RunsText = (old new : Loaded) (commands : List Command) (splices : List Splice) (relexed : ℕ) (listings : List Data)
    → Runs old commands splices relexed listings new → AreTexts splices
