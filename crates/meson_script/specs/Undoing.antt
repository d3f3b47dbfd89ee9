-- A change that is taken back or done again on the files of a project, whatever they are.
use Rattle.std.specs.Prelude.{◌≡◌, ◌≢◌, ◌<◌, ℕ, List, [], ◌∷◌, ◌++◌, length, Result, Ok, Err}
use Rattle.std.specs.List.{sum_by}
use Rattle.meson_splice.specs.declared.change.Change.{Change}
use Rattle.meson_splice.specs.declared.fault.SpliceFault.{SpliceFault}
use Rattle.meson_splice.specs.declared.fault.SpliceFault.TheVariants.{OutOfMemory}
use Rattle.meson_splice.specs.declared.file_set.File.{File}
use Rattle.meson_splice.specs.declared.history.History.{History}
use Rattle.meson_splice.specs.Files.{differing}
use Rattle.meson_splice.specs.Past.{undone, undone_times}
use Rattle.meson_calls.specs.Loading.{MayNotLoad}
use Rattle.meson_steps.specs.ResultLimits.{saturated}
use Rattle.meson_script.specs.declared.fault.UndoFault.{UndoFault}
use Rattle.meson_script.specs.declared.fault.UndoFault.TheVariants.{Splice, Load}
use Rattle.meson_script.specs.declared.session.Report.{Report}
use Rattle.meson_script.specs.declared.session.Session.{Session}

-- the splices are refused, or the files that they give do not load
abbrev pub MayNotChange : Result (List File) SpliceFault → UndoFault → Type 0
MayNotChange r (Splice e) = e ≢ OutOfMemory → r ≡ Err e
MayNotChange r (Load f) = (files : List File) × (r ≡ Ok files) × MayNotLoad files f

-- the same for a step of the history
abbrev pub MayNotStep : Result (History × List File) SpliceFault → UndoFault → Type 0
MayNotStep r (Splice e) = e ≢ OutOfMemory → r ≡ Err e
MayNotStep r (Load f) = (h : History) × (files : List File) × (r ≡ Ok (h, files)) × MayNotLoad files f

-- A step that moves the last change of `from`. The history and files are those of the step. The report counts, has the change's title and lists nothing.
pub record Steps (old : Session) (from : List Change) (step : Result (History × List File) SpliceFault) (report : Report) (new : Session) : Type 0 where
  pub before : List Change
  pub change : Change
  pub is_last : from ≡ before ++ change ∷ []
  pub is_step : step ≡ Ok (new.history, new.project.files)
  pub files : report.files ≡ differing old.project.files new.project.files
  pub splices : report.splices ≡ length change.splices
  pub title : report.title ≡ change.title
  pub relexed : report.relexed ≡ 0
  pub info : report.info ≡ []

-- ---- a number of undos, one after another

-- of changes that are taken back, the oldest first, the title of the one that is taken back last
abbrev pub oldest_title : List Change → List ℕ
oldest_title [] = []
oldest_title (c ∷ newer) = c.title

-- This number of the newest changes is taken back: the history and files are those of as many undos. The report counts the files that differ and the splices of
-- these changes, has the title of the oldest of them, and lists nothing.
pub record StepsBack (count : ℕ) (old : Session) (report : Report) (new : Session) : Type 0 where
  pub taken : List Change
  pub are_last : old.history.past ≡ new.history.past ++ taken
  pub many : length taken ≡ count
  pub are_steps : undone_times count old.history old.project.files ≡ Ok (new.history, new.project.files)
  pub files : report.files ≡ differing old.project.files new.project.files
  pub splices : report.splices ≡ saturated (sum_by (λ c. length c.splices) taken)
  pub title : report.title ≡ oldest_title taken
  pub relexed : report.relexed ≡ 0
  pub info : report.info ≡ []

-- An undo among them is refused in this way, and those before it are done.
pub record StopsBack (count : ℕ) (old : Session) (fault : UndoFault) (new : Session) : Type 0 where
  pub done : ℕ
  pub fewer : fault ≢ Splice OutOfMemory → done < count
  pub are_done : undone_times done old.history old.project.files ≡ Ok (new.history, new.project.files)
  pub refused : MayNotStep (undone new.history new.project.files) fault
