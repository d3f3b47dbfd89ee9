use Rattle.meson_command.proofs.FitTexts.{texts-law}
use Rattle.meson_command.proofs.laws.texts_write_nothing.Goals as goal

pub returns : goal.returns
returns c = texts-law
