use Rattle.meson_followed_values.proofs.Changed.{followed_steps_leave}
use Rattle.meson_followed_values.proofs.laws.steps_leave.Goals as goal

pub returns : goal.returns
returns c = followed_steps_leave
