-- What a checked undo promises, what a status tells, and what is reported of a file that could not be read.
use Rattle.std.specs.Prelude.{◌≡◌, ◌≢◌, ◌<◌, ◌-◌, ◌^◌, ◌⊎◌, ℕ, Bool, false, true, List, Some, Result, Ok}
use Rattle.meson_command.specs.declared.asked.Asked.{Asked}
use Rattle.meson_command.specs.declared.fault.UsageFault.{UsageFault}
use Rattle.meson_splice.specs.declared.file_set.File.{File}
use Rattle.meson_splice.specs.declared.history.History.{History}
use Rattle.meson_splice.specs.Past.{undone_times}
use Rattle.meson_calls.specs.Loading.{IsProject, Loaded}
use Rattle.meson_script.specs.declared.session.Report.{Report}
use Rattle.meson_script.specs.declared.session.Session.{Session}
use Rattle.meson_script.specs.Stack.{Stack, Stands, undos}
use Rattle.meson_store.specs.Content.{Content}
use Rattle.meson_sums.specs.Laws.{Collision}
use Rattle.meson_sums.specs.Sums.{sums}
use Rattle.meson_rewrite.specs.Lines.{status}
use Rattle.meson_rewrite.specs.Steps.{Does, SaysStep, ShowsStep, only_tells}
use Rattle.meson_rewrite.specs.StoreReads.{MayRead}
use Rattle.meson_rewrite.specs.declared.request.NamedFile.{NamedFile}
use Rattle.meson_rewrite.specs.declared.request.Step.{Step}
use Rattle.meson_rewrite.specs.declared.request.Step.TheVariants.{UndoChecked}
use Rattle.meson_rewrite.specs.declared.said.Said.{Said}

-- The history and the files that were left meant a stack, and the files now have the digests of those. Then this number of undos is done on the files now. They
-- give the files as they were before that number of runs, to every byte; or two texts have one digest.
abbrev pub SameSumsUndo : Type 0
SameSumsUndo = (count : ℕ) (h : History) (left : List File) (s t : Stack) (now : Loaded) → Stands h left s → IsProject now → sums now.files ≡ sums left
    → undos count s ≡ Some t
    → ((k : History) × (undone_times count h now.files ≡ Ok (k, t.present)) × Stands k t.present t) ⊎ Collision

-- The digests of the files that were left are kept. Then a checked undo that is done gives the files as they were before that number of runs, to every byte.
-- The files may have changed in between. Or two texts have one digest.
abbrev pub CheckedUndosRestore : Type 0
CheckedUndosRestore = (json : Bool) (count : ℕ) (kept : NamedFile) (left : List File) (s : Stack) (old new : Session) (report : Report)
    → Stands old.history left s → kept.bytes ≡ sums left → IsProject old.project → Does json (UndoChecked count kept) old report new
    → ((t : Stack) × (undos count s ≡ Some t) × (new.project.files ≡ t.present) × Stands new.history t.present t) ⊎ Collision

-- With `--exit-code` a step that is done or shown has status 0 if the files after it are those before it, to every byte. It has
-- status 4 if they are not.
abbrev pub StatusesTellChanges : Type 0
StatusesTellChanges = (json : Bool) (step : Step) (old new : Session) (report : Report) (said : Said) → only_tells step ≡ false → Does json step old report new
    → SaysStep json step old.project.files new.project.files report said ⊎ ShowsStep json step old report new said
    → ((new.project.files ≡ old.project.files) × (status true (Ok said) ≡ 0)) ⊎ ((new.project.files ≢ old.project.files) × (status true (Ok said) ≡ 4))

-- What the store holds, and the number of its reads for these words without texts, determine which file could not be read. A count that has reached its end is
-- excepted.
abbrev pub OneUnread : Type 0
OneUnread = (asked : Result Asked UsageFault) (held : Content) (reads reads' : ℕ) (name other : List ℕ) → reads' < 2 ^ 64 - 1
    → MayRead asked (Some held) reads reads' (Some name) → MayRead asked (Some held) reads reads' (Some other) → name ≡ other
