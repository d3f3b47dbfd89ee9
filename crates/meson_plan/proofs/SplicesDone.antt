-- The new files are the old ones with the splices of a command done, and what these take away and put in is text.
use Rattle.std.proofs.Common.{◌≡◌, ℕ, subst, List, [], ◌∷◌, ◌++◌, Ok, refl, sym, ap, ◌∙◌}
use Rattle.meson_splice.specs.declared.file_set.File.{File}
use Rattle.meson_splice.specs.declared.splice.Splice.{Splice}
use Rattle.meson_splice.specs.Patch.{patched_all, then_ok}
use Rattle.meson_splice.proofs.Inverses.{patched_all-append}
use Rattle.meson_layout.specs.Laws.{AreTexts}
use Rattle.meson_calls.specs.Loading.{Loaded}
use Rattle.meson_steps.specs.declared.command.Command.{Command}
use Rattle.meson_steps.specs.declared.command.Done.{Done}
use Rattle.meson_steps.specs.Steps.{Step, StepsMake, none, step}
use Rattle.meson_plan.specs.Performing.{KeepsUntouched, Performs}
use Rattle.meson_steps.specs.Keeping.{StepsKeep}
use Rattle.meson_steps.proofs.Keeping.{making_keeps}

-- splices one after another
pub joined : (files between last : List File) (here later : List Splice) → patched_all files here ≡ Ok between → patched_all between later ≡ Ok last → patched_all files (here ++ later) ≡ Ok last
joined files between last here later first second = patched_all-append files here later ∙ ap (λ r. then_ok r (λ gs. patched_all gs later)) first ∙ second

pub steps-patch : (files : List File) (steps : List Step) (splices : List Splice) (after : List File) (bytes : ℕ) → StepsMake files steps splices after bytes → patched_all files splices ≡ Ok after
steps-patch files steps splices after bytes (none fs) = refl
steps-patch files steps splices after bytes (step fs between last s more here later read laid done rest) = joined fs between last here later done (steps-patch between more later last read rest)

pub texts-append : (here later : List Splice) → AreTexts here → AreTexts later → AreTexts (here ++ later)
texts-append [] later a b = b
texts-append (s ∷ here) later a b = (a.0, texts-append here later a.1 b)

steps-text : (files : List File) (steps : List Step) (splices : List Splice) (after : List File) (bytes : ℕ) → StepsMake files steps splices after bytes → AreTexts splices
steps-text files steps splices after bytes (none fs) = tt
steps-text files steps splices after bytes (step fs between last s more here later read laid done rest) = texts-append here later laid.texts (steps-text between more later last read rest)

module _ (old : Loaded) (c : Command) (done : Done) (new : Loaded) (p : Performs old c done new) where
  pub performs-patch : patched_all old.files done.change.splices ≡ Ok new.files
  performs-patch = ap (patched_all old.files) p.is_change ∙ steps-patch old.files p.made.steps p.made.splices p.made.files p.made.bytes p.made.are_done ∙ ap Ok (sym p.are_files)

  pub performs-text : AreTexts done.change.splices
  performs-text = subst AreTexts (sym p.is_change) (steps-text old.files p.made.steps p.made.splices p.made.files p.made.bytes p.made.are_done)

  pub performs-keep : KeepsUntouched old c new
  performs-keep = record {
    steps = p.made.steps;
    are_planned = p.made.are_planned;
    keep = subst (StepsKeep old.files p.made.steps) (sym p.are_files) (making_keeps old.files p.made.steps p.made.splices p.made.files p.made.bytes p.made.are_done);
  }
