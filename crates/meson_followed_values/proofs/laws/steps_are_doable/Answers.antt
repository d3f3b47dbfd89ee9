use Rattle.meson_followed_values.proofs.Changed.{followed_steps_are_doable}
use Rattle.meson_followed_values.proofs.laws.steps_are_doable.Goals as goal

pub returns : goal.returns
returns c = followed_steps_are_doable
