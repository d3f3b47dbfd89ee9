use Rattle.std.proofs.Common.{◌≡◌, take}
use Rattle.meson_inventory.specs.Holdings.{held_calls}
use Rattle.meson_inventory.proofs.holdings.held_calls.Given as goal

abbrev pub invariant-loop-place : goal.invariant-loop-place
invariant-loop-place l = l.calls.items ≡ held_calls l.project (take l.place-index l.places)
