-- How a command ends.
use Rattle.std.specs.Prelude.{◌≡◌, ℕ, List, [], Some, Ok, Err}
use Rattle.meson_splice.specs.declared.file_set.File.{File}
use Rattle.meson_splice.specs.declared.splice.Splice.{Splice}
use Rattle.meson_syntax.specs.Tree.{Plain}
use Rattle.meson_steps.specs.declared.command.Command.{Command}
use Rattle.meson_steps.specs.declared.command.Done.{Done}
use Rattle.meson_calls.specs.declared.refusal.Refusal.{Refusal}
use Rattle.meson_calls.specs.declared.refusal.Refusal.TheVariants.{TooDeep, TooLarge}
use Rattle.meson_calls.specs.Loading.{Loaded}
use Rattle.meson_steps.specs.Steps.{Step, all_stepped, StepsMake}
use Rattle.meson_steps.specs.Keeping.{StepsKeep}
use Rattle.meson_plan.specs.Planning.{Means}
use Rattle.meson_steps.specs.ResultLimits.{AreShallow, AreSmall, plain_trees, saturated}

-- What a command makes of a project: the trees by its edits, the splices and files by the layouts of these.
pub record Makes (old : Loaded) (c : Command) : Type 0 where
  pub steps : List Step
  pub are_planned : Means old c (Ok steps)
  pub trees : List Plain
  pub are_trees : all_stepped steps (plain_trees old) ≡ Some trees
  pub splices : List Splice
  pub files : List File
  pub bytes : ℕ
  pub are_done : StepsMake old.files steps splices files bytes

-- ---- the answers

-- The project becomes what the command makes of it.
pub record Performs (old : Loaded) (c : Command) (done : Done) (new : Loaded) : Type 0 where
  pub made : Makes old c
  pub shallow : AreShallow made.trees
  pub small : AreSmall made.files
  pub is_change : done.change.splices ≡ made.splices
  pub is_untitled : done.change.title ≡ []
  pub is_relexed : done.relexed ≡ saturated made.bytes
  pub are_files : new.files ≡ made.files
  pub are_trees : plain_trees new ≡ made.trees

-- Each step of the command changes one file, and keeps in it all that the step's edit does not touch.
pub record KeepsUntouched (old : Loaded) (c : Command) (new : Loaded) : Type 0 where
  pub steps : List Step
  pub are_planned : Means old c (Ok steps)
  pub keep : StepsKeep old.files steps new.files

-- Why a command is refused: it means no edits, or what it makes passes a limit.
pub data MayRefuse (old : Loaded) (c : Command) : Refusal → Type 0 where
  unplanned : (refusal : Refusal) → Means old c (Err refusal) → MayRefuse old c refusal
  deep : (steps : List Step) (trees : List Plain) → Means old c (Ok steps) → all_stepped steps (plain_trees old) ≡ Some trees
      → (AreShallow trees → ⊥) → MayRefuse old c TooDeep
  large : (made : Makes old c) → AreShallow made.trees → (AreSmall made.files → ⊥) → MayRefuse old c TooLarge
