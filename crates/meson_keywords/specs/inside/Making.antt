-- Tasks made so far.
use Rattle.std.specs.Prelude.{◌≡◌, List, ◌++◌, Result, Ok}
use Rattle.meson_splice.specs.Patch.{then_ok}
use Rattle.meson_calls.specs.declared.refusal.Refusal.{Refusal}
use Rattle.meson_keywords.specs.declared.tasks.Task as code
use Rattle.meson_keywords.specs.inside.Tasking.{TasksAre}
use Rattle.meson_keywords.specs.Tasks.{Task}

-- Those that are meant are these of the code, and then the rest.
pub record TasksSoFar (whole rest : Result (List Task) Refusal) (cs : List code.Task) : Type 0 where
  pub so_far : List Task
  pub are : TasksAre cs so_far
  pub joined : whole ≡ then_ok rest (λ later. Ok (so_far ++ later))
