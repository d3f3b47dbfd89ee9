-- The undo stack: whole file sets, and which history and files mean one.
use Rattle.std.specs.Prelude.{◌≡◌, ◌≢◌, ◌<◌, ◌≤◌, ℕ, zero, suc, All, List, [], ◌∷◌, length, reverse, Option, Some, None, option_map, option_and_then, Result, Ok, Err}
use Rattle.meson_splice.specs.declared.change.Change.{Change}
use Rattle.meson_splice.specs.declared.fault.SpliceFault.{SpliceFault}
use Rattle.meson_splice.specs.declared.fault.SpliceFault.TheVariants as splice
use Rattle.meson_splice.specs.declared.file_set.File.{File}
use Rattle.meson_splice.specs.declared.history.History.{History}
use Rattle.meson_splice.specs.Patch.{inverses_of, patched_all}
use Rattle.meson_calls.specs.declared.load_fault.LoadFault.TheVariants as load
use Rattle.meson_calls.specs.Loading.{HasFileName, HasTree, max_files}
use Rattle.meson_script.specs.declared.fault.UndoFault.{UndoFault}
use Rattle.meson_script.specs.declared.fault.UndoFault.TheVariants.{Splice, Load}

-- the set before or after a change, with what the change is for
pub record KeptSet : Type 0 where
  pub files : List File
  pub title : List ℕ

abbrev pub kept_set : List File → List ℕ → KeptSet
kept_set files title = record { files = files; title = title }

-- the sets before, newest first; the present set; the sets to redo, next first
pub record Stack : Type 0 where
  pub past : List KeptSet
  pub present : List File
  pub future : List KeptSet

-- ---- the steps

abbrev pub ran : Stack → List ℕ → List File → Stack
ran s title files = record { past = kept_set s.present title ∷ s.past; present = files; future = [] }

abbrev pub back : List KeptSet → List File → List KeptSet → Option Stack
back [] present future = None
back (p ∷ past) present future = Some (record { past = past; present = p.files; future = kept_set present p.title ∷ future })

abbrev pub taken_back : Stack → Option Stack
taken_back s = back s.past s.present s.future

abbrev pub forth : List KeptSet → List KeptSet → List File → Option Stack
forth past [] present = None
forth past (n ∷ future) present = Some (record { past = kept_set present n.title ∷ past; present = n.files; future = future })

abbrev pub done_again : Stack → Option Stack
done_again s = forth s.past s.future s.present

-- runs, one after another, and undos
abbrev pub ran_all : Stack → List KeptSet → Stack
ran_all s [] = s
ran_all s (new ∷ more) = ran_all (ran s new.title new.files) more

abbrev pub undos : ℕ → Stack → Option Stack
undos zero s = Some s
undos (suc n) s = option_and_then taken_back (undos n s)

-- ---- what a history and files mean

abbrev pub on_ok : {A E B : Type 0} → Result A E → (A → Option B) → Option B
on_ok (Ok x) f = f x
on_ok (Err e) f = None

-- the sets met by taking the changes back, newest first
abbrev pub earlier : List Change → List File → Option (List KeptSet)
earlier [] files = Some []
earlier (c ∷ changes) files = on_ok (patched_all files (inverses_of c.splices))
    (λ before. option_map (λ sets. kept_set before c.title ∷ sets) (earlier changes before))

-- the sets met by doing them, next first
abbrev pub later : List Change → List File → Option (List KeptSet)
later [] files = Some []
later (c ∷ changes) files = on_ok (patched_all files c.splices) (λ after. option_map (λ sets. kept_set after c.title ∷ sets) (later changes after))

-- files that load as a project, unless out of memory
pub record Loads (files : List File) : Type 0 where
  pub few : length files ≤ max_files
  pub named : All HasFileName files
  pub trees : All HasTree files

abbrev pub KeptLoads : KeptSet → Type 0
KeptLoads k = Loads k.files

-- The history fits the files, and both mean the stack: each set that is met loads.
pub record Stands (h : History) (files : List File) (s : Stack) : Type 0 where
  pub present : s.present ≡ files
  pub past : earlier (reverse h.past) files ≡ Some s.past
  pub future : later (reverse h.future) files ≡ Some s.future
  pub loads : Loads files
  pub past_loads : All KeptLoads s.past
  pub future_loads : All KeptLoads s.future

-- ---- what is refused when they mean a stack

-- nothing is there for the step, which is this fault, or out of memory
abbrev pub RefusesStep : SpliceFault → Type 0 → UndoFault → Type 0
RefusesStep nothing is_none (Splice e) = e ≢ splice.OutOfMemory → (e ≡ nothing) × is_none
RefusesStep nothing is_none (Load e) = e ≡ load.OutOfMemory

abbrev pub RefusesUndo : Stack → UndoFault → Type 0
RefusesUndo s = RefusesStep splice.NothingToUndo (s.past ≡ [])

-- the same for one of this number of undos, on what those before it left
abbrev pub RefusesUndos : ℕ → Stack → UndoFault → Type 0
RefusesUndos count s fault = (done : ℕ) × (t : Stack) × (fault ≢ Splice splice.OutOfMemory → done < count) × (undos done s ≡ Some t) × RefusesUndo t fault

abbrev pub RefusesRedo : Stack → UndoFault → Type 0
RefusesRedo s = RefusesStep splice.NothingToRedo (s.future ≡ [])
