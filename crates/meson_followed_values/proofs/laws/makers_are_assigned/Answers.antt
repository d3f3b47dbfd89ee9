use Rattle.meson_places.proofs.Found.{contained}
use Rattle.meson_calls.specs.Notes.{notes}
use Rattle.meson_followed_values.specs.Makers.{assigned_values}
use Rattle.meson_followed_values.proofs.AssignedMakers.{maker_among}
use Rattle.meson_followed_values.proofs.Places.{within}
use Rattle.meson_followed_values.proofs.laws.makers_are_assigned.Goals as goal

pub returns : goal.returns
returns c = λ p x at_ k is m there. contained (assigned_values x (notes p)) m.value.place (maker_among p x at_ k is m (within k.makers m there))
