use Rattle.std.proofs.Common.{◌≡◌, map, take}
use Rattle.meson_inventory.specs.inside.Assignments.{held_at}
use Rattle.meson_inventory.proofs.assignments.all_held_at.Given as goal

abbrev pub invariant-loop-place : goal.invariant-loop-place
invariant-loop-place l = l.held.items ≡ map (held_at l.file l.source l.parsed) (take l.place-index l.places)
