use Rattle.meson_places.proofs.ArgumentsDoable as arguments
use Rattle.meson_places.proofs.laws.argument_steps_are_doable.Goals as goal

pub returns : goal.returns
returns c = arguments.argument_steps_are_doable
