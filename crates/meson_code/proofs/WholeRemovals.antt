-- The whole removal of code: its first step, and what follows.
use Rattle.std.proofs.Common.{◌≡◌, ℕ, List, [], ◌∷◌, ◌++◌, length, Option, Some, None, Ok, sym, ap, ap₂, ◌∙◌, subst}
use Rattle.std.specs.Prelude.{true, unwrap_or, option_and_then}
use Rattle.meson_splice.specs.declared.file_set.File.{File}
use Rattle.meson_splice.specs.Patch.{then_ok}
use Rattle.meson_syntax.specs.Tree.{Plain}
use Rattle.meson_calls.specs.Loading.{Loaded, project}
use Rattle.meson_calls.specs.Notes.{notes}
use Rattle.meson_steps.specs.declared.step.ListStep.{ListStep}
use Rattle.meson_steps.specs.declared.work.Work.{Work}
use Rattle.meson_steps.specs.Plans.{ArePlanned}
use Rattle.meson_steps.specs.ResultLimits.{plain_trees}
use Rattle.meson_steps.specs.Steps.{Step, all_stepped, stepped}
use Rattle.meson_steps.specs.Working.{IsFresh, IsUnderWay, Reached, so_far}
use Rattle.meson_steps.proofs.UnderWay.{under_way_first}
use Rattle.meson_targets.specs.TargetEdits.{StatementPlace}
use Rattle.meson_code.specs.Removal.{first_needed, removal_step, removed_at}
use Rattle.meson_code.specs.Removing.{code_removed_at, steps_after}
use Rattle.meson_code.specs.Unused.{names_read, trees_without, unused_steps}
use Rattle.meson_code.specs.inside.Removing.{AreRemovals, HasRemoved}
use Rattle.meson_code.proofs.Removals.{unneeded}

module _ (w : Work) (fresh : IsFresh w) (a : StatementPlace) (code : List ListStep) (r : ArePlanned (so_far w) (removed_at (so_far w) a) code) where
  abbrev old : Loaded
  old = so_far w

  abbrev step : Step
  step = removal_step (project old) a

  -- there is one step
  only : step ∷ [] ≡ r.steps
  only = (unneeded old a (first_needed old a) step r.steps r.are_planned).1

  pub first_under_way : IsUnderWay old r.steps code w
  first_under_way = under_way_first w fresh r.steps code r.are_doable

  pub first_removed : (new : Work) → Reached old r.steps [] new → HasRemoved old r.steps new
  first_removed new reached = record { whole = fresh.project; removals = subst AreRemovals only (tt, tt); reached = reached }

  one_made : (o : Option (List Plain)) (after : List Plain) → option_and_then (all_stepped []) o ≡ Some after → o ≡ Some after
  one_made None after h = h
  one_made (Some ts) after h = h

  pub first_trees : (new : Work) → Reached old r.steps [] new → plain_trees (so_far new) ≡ trees_without a (plain_trees old)
  first_trees new reached =
      let made = ap (λ ss. all_stepped ss (plain_trees old)) only ∙ reached.made.are_trees in
      sym (ap (λ o. unwrap_or o (plain_trees old)) (one_made (stepped step (plain_trees old)) (plain_trees (so_far new)) made))

  pub all_removed : code_removed_at old true a ≡ Ok (r.steps ++ steps_after old a)
  all_removed = ap (λ m. then_ok m (λ ss. Ok (ss ++ steps_after old a))) r.are_planned

  pub after_is : (turns : ℕ) (files : List File) (names : List (List ℕ)) (new : Work) → Reached old r.steps [] new → turns ≡ length (notes (project old)) → files ≡ old.files
      → names ≡ names_read (project old) a → unused_steps turns files names (plain_trees (so_far new)) ≡ steps_after old a
  after_is turns files names new reached many same read =
      ap (λ n. unused_steps n files names (plain_trees (so_far new))) many
      ∙ ap (λ fs. unused_steps (length (notes (project old))) fs names (plain_trees (so_far new))) same
      ∙ ap₂ (λ ns ts. unused_steps (length (notes (project old))) old.files ns ts) read (first_trees new reached)
