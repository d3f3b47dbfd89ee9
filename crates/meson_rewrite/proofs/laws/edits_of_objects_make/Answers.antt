use Rattle.meson_rewrite.proofs.ObjectEdits.{edits-of-objects-make}
use Rattle.meson_rewrite.proofs.laws.edits_of_objects_make.Goals as goal

pub returns : goal.returns
returns c = edits-of-objects-make
