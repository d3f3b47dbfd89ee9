use Rattle.meson_diff.proofs.Cuts.{lines_are_the_text}
use Rattle.meson_diff.proofs.laws.lines_are_the_text.Goals as goal

pub returns : goal.returns
returns c = lines_are_the_text
