-- Steps for which a list has room are those that are made.
use Rattle.std.proofs.Common.{◌≡◌, true, false, List, Ok, Err}
use Rattle.std.specs.Prelude.{Bool, if◌then◌else◌}
use Rattle.meson_syntax.specs.Tree.{Expression, Nowhere}
use Rattle.meson_calls.specs.declared.call.CallRef.{CallRef}
use Rattle.meson_calls.specs.declared.refusal.Refusal.TheVariants.{TooDeep}
use Rattle.meson_calls.specs.Loading.{Loaded}
use Rattle.meson_steps.specs.ResultLimits.{plain_trees}
use Rattle.meson_steps.specs.Steps.{Step}
use Rattle.meson_places.specs.Room.{has_room, if_room, list_in_trees}

pub with_room : (l : Loaded) (list : CallRef) (e : Expression Nowhere) (some steps : List Step) → if_room l list e some ≡ Ok steps → some ≡ steps
with_room l list e some steps is = go (has_room e (list_in_trees (plain_trees l) list)) is
  where
    go : (b : Bool) → (if b then Ok some else Err TooDeep) ≡ Ok steps → some ≡ steps
    go true h = cc
    go false h = absurd (let no : ⊥ = cc in no)
