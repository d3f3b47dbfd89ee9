use Rattle.meson_edit.proofs.kept.PutLists.{found-lists-look, put-lists-look}
use Rattle.meson_edit.proofs.trees.putting.Goals as goal

pub returns : goal.returns
returns c = record { put_lists_look = put-lists-look; found_lists_look = found-lists-look }
