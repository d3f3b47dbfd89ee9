-- The work while statements are removed, one after another.
use Rattle.std.specs.Prelude.{List, [], ◌∷◌}
use Rattle.meson_edit.specs.Edits.{Edit, RemoveStatement}
use Rattle.meson_calls.specs.Loading.{IsProject, Loaded}
use Rattle.meson_steps.specs.declared.work.Work.{Work}
use Rattle.meson_steps.specs.Steps.{Step}
use Rattle.meson_steps.specs.Working.{Reached, so_far as loaded}
use Rattle.meson_targets.specs.TargetEdits.{StatementPlace}
use Rattle.meson_code.specs.AnchorLaws.{IsStatementAt}

abbrev pub IsRemoval : Edit → Type 0
IsRemoval (RemoveStatement blank path n) = Unit {0}
IsRemoval _ = ⊥

abbrev pub AreRemovals : List Step → Type 0
AreRemovals [] = Unit {0}
AreRemovals (s ∷ steps) = IsRemoval s.edit × AreRemovals steps

-- These steps are done, and each of them removed a statement.
pub record HasRemoved (old : Loaded) (before : List Step) (w : Work) : Type 0 where
  pub whole : IsProject old
  pub removals : AreRemovals before
  pub reached : Reached old before [] w

-- The next statement to remove is there.
pub record IsNextRemoval (a : StatementPlace) (w : Work) : Type 0 where
  pub old : Loaded
  pub before : List Step
  pub so_far : HasRemoved old before w
  pub there : IsStatementAt (loaded w) a
