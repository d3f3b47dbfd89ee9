-- What is to be written of a session after a step.
use Rattle.std.specs.Prelude.{◌≡◌, ◌<◌, ⊤, Bool, ℕ, List, Ok}
use Rattle.meson_calls.specs.Loading.{IsProject}
use Rattle.meson_json.specs.Log.{log_of}
use Rattle.meson_calls.specs.declared.load_fault.LoadFault.TheVariants as load
use Rattle.meson_script.specs.declared.fault.UndoFault.{UndoFault}
use Rattle.meson_script.specs.declared.fault.UndoFault.TheVariants as undo
use Rattle.meson_script.specs.declared.session.Report.{Report}
use Rattle.meson_script.specs.declared.session.Session.{Session}
use Rattle.meson_command.specs.declared.asked.Flags.{Flags}
use Rattle.meson_rewrite.specs.Logs.{log_use, with_log}
use Rattle.meson_rewrite.specs.Objects.{SaysObject}
use Rattle.meson_rewrite.specs.Steps.{Does, SaysStep, ShowsStep}
use Rattle.meson_rewrite.specs.Warnings.{Warns}
use Rattle.meson_rewrite.specs.declared.opening.LogUse.{LogUse}
use Rattle.meson_rewrite.specs.declared.steps.Edit.{Edit}
use Rattle.meson_rewrite.specs.declared.request.Step.{Step}
use Rattle.meson_rewrite.specs.declared.said.Said.{Said}

-- the files, with a log that is kept, before and after a step, and what is said of it
pub record IsEdited (how : LogUse) (old : Session) (log : List ℕ) (step : Step) (json : Bool) (edit : Edit) : Type 0 where
  pub new : Session
  pub is_project : IsProject new.project
  pub report : Report
  pub does : Does json step old report new
  pub new_log : List ℕ
  pub is_log : log_of new.history ≡ Ok new_log
  pub before : edit.before ≡ with_log how old.project.files log
  pub after : edit.after ≡ with_log how new.project.files new_log
  pub says : SaysStep json step old.project.files new.project.files report edit.said

-- the same, with warnings
pub record IsEditedWith (flags : Flags) (old : Session) (log : List ℕ) (step : Step) (edit : Edit) : Type 0 where
  pub plain : Edit
  pub edited : IsEdited (log_use flags.no_log) old log step flags.json plain
  pub before : edit.before ≡ plain.before
  pub after : edit.after ≡ plain.after
  pub warns : Warns flags old.project step plain.said edit.said

-- a step that only reports
pub record OnlyTells (old : Session) (step : Step) (json : Bool) (said : Said) : Type 0 where
  pub new : Session
  pub report : Report
  pub does : Does json step old report new
  pub says : SaysStep json step old.project.files new.project.files report said

-- a step that is shown, and not done
pub record IsShown (old : Session) (step : Step) (json : Bool) (said : Said) : Type 0 where
  pub new : Session
  pub report : Report
  pub does : Does json step old report new
  pub shows : ShowsStep json step old report new said

-- the same, with warnings
pub record IsShownWith (flags : Flags) (old : Session) (step : Step) (said : Said) : Type 0 where
  pub plain : Said
  pub shown : IsShown old step flags.json plain
  pub warns : Warns flags old.project step plain said

-- an object of JSON, of a step that only reports, was done or is shown
pub record IsObject (old : Session) (step : Step) (json : Bool) (said : Said) : Type 0 where
  pub new : Session
  pub report : Report
  pub does : Does json step old report new
  pub says : SaysObject step old.project.files new.project.files report said

-- the number of a file that would not be valid is that of one of this number of files
abbrev pub IsWithin : UndoFault → ℕ → Type 0
IsWithin (undo.Load (load.Parse place fault)) many = place < many
IsWithin _ many = ⊤
