use Rattle.std.proofs.Common.{◌≡◌, ℕ, List, drop}
use Rattle.meson_steps.specs.GivenWords.{MayBeGiven}
use Rattle.meson_places.specs.Names.{loaded_in}
use Rattle.meson_places.specs.Replacements.{have_room}
use Rattle.meson_places.specs.Values.{given_node}
use Rattle.meson_places.specs.inside.Found.{found_lists}
use Rattle.meson_places.proofs.replacements.have_room.Given as goal

abbrev pub invariant-loop-i : goal.invariant-loop-i
invariant-loop-i l = (source : List ℕ) (may : MayBeGiven l.given)
    → have_room (loaded_in l.sources) (given_node l.given may) (found_lists source (drop l.i l.lists)) ≡ have_room (loaded_in l.sources) (given_node l.given may) (found_lists source l.lists)
