use Rattle.meson_calls.proofs.PartsContained.{parts-are-all}
use Rattle.meson_calls.proofs.laws.parts_are_all.Goals as goal

pub returns : goal.returns
returns c = parts-are-all
