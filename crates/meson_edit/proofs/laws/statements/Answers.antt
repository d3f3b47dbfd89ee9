use Rattle.meson_edit.proofs.statements.Removed.{removals-spell}
use Rattle.meson_edit.proofs.statements.Appended.{appended-spell}
use Rattle.meson_edit.proofs.statements.Assigned.{assignments-spell}
use Rattle.meson_edit.proofs.statements.Lined.{lines-spell}
use Rattle.meson_edit.proofs.laws.statements.Goals as goal

pub returns : goal.returns
returns c = record { removals = removals-spell; appended = appended-spell; assigned = assignments-spell; lines = lines-spell }
