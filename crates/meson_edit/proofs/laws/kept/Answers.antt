use Rattle.meson_edit.proofs.Keeping.{edits-keep}
use Rattle.meson_edit.proofs.laws.kept.Goals as goal

pub returns : goal.returns
returns c = record { edits = edits-keep }
