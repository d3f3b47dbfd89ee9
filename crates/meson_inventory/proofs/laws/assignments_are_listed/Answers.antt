use Rattle.meson_inventory.proofs.AssignmentsStand.{assignments_are_listed}
use Rattle.meson_inventory.proofs.laws.assignments_are_listed.Goals as goal

pub returns : goal.returns
returns c = assignments_are_listed
