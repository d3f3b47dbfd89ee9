-- What a command makes of a project, and why it is refused, from what is done of the steps that it means.
use Rattle.std.proofs.Common.{◌≡◌, [], refl, ◌∙◌, subst}
use Rattle.std.specs.Prelude.{List, Ok}
use Rattle.meson_steps.specs.declared.command.Command.{Command}
use Rattle.meson_steps.specs.declared.command.Done.{Done}
use Rattle.meson_calls.specs.declared.refusal.Refusal.{Refusal}
use Rattle.meson_steps.specs.declared.work.Work.{Work}
use Rattle.meson_steps.specs.Done.{IsDone, MayNotBeDone, Meaning, unmeant, deep, large}
use Rattle.meson_calls.specs.Loading.{Loaded}
use Rattle.meson_steps.specs.ResultLimits.{plain_trees}
use Rattle.meson_plan.specs.Performing.{Makes, MayRefuse, Performs}
use Rattle.meson_plan.specs.Performing as performing
use Rattle.meson_plan.specs.Planning.{Means}
use Rattle.meson_plan.specs.inside.Orders.{Ends}
use Rattle.meson_steps.specs.Working.{IsMade, so_far}
use Rattle.meson_steps.specs.Steps.{Step}

module _ (old : Loaded) (k : Command) where
  abbrev makes : (steps : List Step) (w : Work) → Means old k (Ok steps) → IsMade old steps w → Makes old k
  makes steps w is made = record {
    steps = steps;
    are_planned = is;
    trees = plain_trees (so_far w);
    are_trees = made.are_trees;
    splices = w.splices.items;
    files = w.files;
    bytes = made.bytes;
    are_done = made.are_done;
  }

  by_meaning : (meant : Meaning) → Means old k meant → (e : Refusal) → MayNotBeDone old meant e → MayRefuse old k e
  by_meaning meant means e (unmeant refusal is) = performing.unplanned refusal (subst (Means old k) is means)
  by_meaning meant means e (deep steps w is made far) = performing.deep steps (plain_trees (so_far w)) (subst (Means old k) is means) made.are_trees far
  by_meaning meant means e (large steps w is made shallow big) = performing.large (makes steps w (subst (Means old k) is means) made) shallow big

  pub may_refuse : (e : Refusal) → Ends old k (λ meant. MayNotBeDone old meant e) → MayRefuse old k e
  may_refuse e ends = by_meaning ends.0 ends.1 e ends.2

  pub performed : (w : Work) → Ends old k (λ meant. IsDone old meant w) → (d : Done) → d.change.splices ≡ w.splices.items → d.change.title ≡ [] → d.relexed ≡ w.relexed → Performs old k d (so_far w)
  performed w ends d is_change is_untitled is_relexed = let out = ends.2 in record {
    made = makes out.steps w (subst (Means old k) out.is ends.1) out.made;
    shallow = out.shallow;
    small = out.small;
    is_change = is_change;
    is_untitled = is_untitled;
    is_relexed = is_relexed ∙ out.made.is_relexed;
    are_files = refl;
    are_trees = refl;
  }
