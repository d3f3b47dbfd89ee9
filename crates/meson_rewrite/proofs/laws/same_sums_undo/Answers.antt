use Rattle.meson_rewrite.proofs.CheckedUndos.{same-sums-undo}
use Rattle.meson_rewrite.proofs.laws.same_sums_undo.Goals as goal

pub returns : goal.returns
returns c = same-sums-undo c.sums_tell.ensures
