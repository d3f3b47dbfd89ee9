use Rattle.meson_layout.proofs.AssignmentLaws.{assignment-law}
use Rattle.meson_layout.proofs.laws.assigned_values.Goals as goal

pub returns : goal.returns
returns c = assignment-law
