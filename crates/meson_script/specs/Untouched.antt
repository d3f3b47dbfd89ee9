-- What scripts leave as it is.
use Rattle.std.specs.Prelude.{ℕ, List, [], ◌∷◌, ◌++◌}
use Rattle.meson_calls.specs.Loading.{Loaded}
use Rattle.meson_steps.specs.declared.command.Command.{Command}
use Rattle.meson_plan.specs.Performing.{KeepsUntouched}
use Rattle.meson_script.specs.declared.listings.ListingForm.{ListingForm}
use Rattle.meson_script.specs.declared.session.Report.{Report}
use Rattle.meson_script.specs.declared.session.Session.{Session}
use Rattle.meson_script.specs.Running.{KeepsChange}

-- Commands make one project of another, one after another, and each keeps every byte outside the lists and statements that its edits touch.
pub data CommandsKeep (old : Loaded) : List Command → Loaded → Type 0 where
  nothing_touched : CommandsKeep old [] old
  touched_more : (commands : List Command) (between : Loaded) → CommandsKeep old commands between
      → (c : Command) (new : Loaded) → KeepsUntouched between c new → CommandsKeep old (commands ++ c ∷ []) new

-- Scripts are run and kept, one after another.
pub data ScriptsRun : Session → List (List Command) → Session → Type 0 where
  none_run : (s : Session) → ScriptsRun s [] s
  next_run : (form : ListingForm) (old between new : Session) (commands : List Command) (title : List ℕ) (report : Report) (more : List (List Command))
      → KeepsChange form old commands title report between → ScriptsRun between more new → ScriptsRun old (commands ∷ more) new

-- the commands of scripts, in order
abbrev pub all_commands : List (List Command) → List Command
all_commands [] = []
all_commands (commands ∷ more) = commands ++ all_commands more

-- Of all scripts that are run each command keeps what its edits do not touch.
abbrev pub ScriptsKeep : Type 0
ScriptsKeep = (old new : Session) (scripts : List (List Command)) → ScriptsRun old scripts new → CommandsKeep old.project (all_commands scripts) new.project
