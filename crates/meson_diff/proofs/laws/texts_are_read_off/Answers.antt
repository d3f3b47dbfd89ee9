use Rattle.meson_diff.proofs.Files.{texts_are_read_off}
use Rattle.meson_diff.proofs.laws.texts_are_read_off.Goals as goal

pub returns : goal.returns
returns c = texts_are_read_off
