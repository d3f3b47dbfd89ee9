use Rattle.meson_rewrite.proofs.CheckedUndos.{checked-undos-restore}
use Rattle.meson_rewrite.proofs.laws.checked_undos_restore.Goals as goal

pub returns : goal.returns
returns c = checked-undos-restore c.sums_tell.ensures
