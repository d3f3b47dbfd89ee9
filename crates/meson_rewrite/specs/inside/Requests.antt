-- Steps with a title, and the words that name a file.
use Rattle.std.specs.Prelude.{⊤, Bool, true, false}
use Rattle.meson_command.specs.declared.asked.Action.{Action}
use Rattle.meson_command.specs.declared.asked.Action.TheVariants as action
use Rattle.meson_rewrite.specs.Steps.{IsTitled}
use Rattle.meson_rewrite.specs.declared.request.ProgramRequest.{ProgramRequest}
use Rattle.meson_rewrite.specs.declared.request.ProgramRequest.TheVariants as request

-- a file is read for it: a script, or digests
abbrev pub names_file : Action → Bool
names_file (action.ScriptFile name unknown) = true
names_file (action.UndoChecked count name) = true
names_file _ = false

-- a run that is requested has a title
abbrev pub StepsTitled : ProgramRequest → Type 0
StepsTitled (request.Step step) = IsTitled step
StepsTitled (request.List what) = ⊤
StepsTitled (request.Show text) = ⊤
