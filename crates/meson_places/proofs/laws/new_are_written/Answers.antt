use Rattle.meson_places.proofs.FreshValues.{new_are_written}
use Rattle.meson_places.proofs.laws.new_are_written.Goals as goal

pub returns : goal.returns
returns c = new_are_written
