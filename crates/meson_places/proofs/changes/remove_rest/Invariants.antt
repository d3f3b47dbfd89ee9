use Rattle.std.proofs.Common.{◌≡◌, ◌≤◌, ◌++◌, map}
use Rattle.std.specs.Prelude.{Some}
use Rattle.meson_steps.specs.ListSteps.{bare}
use Rattle.meson_places.specs.Changes.{rest_removed}
use Rattle.meson_places.proofs.changes.remove_rest.Given as goal

abbrev pub decreases-loop-left : goal.decreases-loop-left
decreases-loop-left l = l.left

abbrev pub invariant-loop-left : goal.invariant-loop-left
invariant-loop-left l = record {
  few : l.left ≤ l.many;
  rest : map Some l.steps.items ++ map bare (rest_removed l.list l.from l.left) ≡ map Some l.initial.steps.items ++ map bare (rest_removed l.list l.from l.many);
}
