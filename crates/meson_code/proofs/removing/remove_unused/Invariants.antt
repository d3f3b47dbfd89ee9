use Rattle.std.proofs.Common.{List}
use Rattle.meson_calls.specs.Loading.{Loaded}
use Rattle.meson_steps.specs.ResultLimits.{plain_trees}
use Rattle.meson_steps.specs.Steps.{Step}
use Rattle.meson_steps.specs.Working.{Restores, so_far}
use Rattle.meson_code.specs.inside.Removing.{HasRemoved}
use Rattle.meson_code.proofs.Turns.{TurnsLeft}
use Rattle.meson_code.proofs.removing.remove_unused.Given as goal

abbrev pub invariant-loop-turn : goal.invariant-loop-turn
invariant-loop-turn l = record {
  left : (old : Loaded) (before : List Step) → HasRemoved old before l.fn.work → TurnsLeft l.files l.turns l.fn.names.items (plain_trees (so_far l.fn.work)) old before l._turn l.sought.items l.work;
  restores : (first : Loaded) → Restores l.fn.work first → Restores l.work first;
}
