use Rattle.meson_diff.proofs.Files.{empty_means_equal}
use Rattle.meson_diff.proofs.laws.empty_means_equal.Goals as goal

pub returns : goal.returns
returns c = empty_means_equal
