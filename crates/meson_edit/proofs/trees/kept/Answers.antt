use Rattle.meson_edit.proofs.kept.Kept.{lists-kept}
use Rattle.meson_edit.proofs.kept.EachNothing.{lists-put-erase}
use Rattle.meson_edit.proofs.kept.ListsAlone.{lists-alone}
use Rattle.meson_edit.proofs.trees.kept.Goals as goal

pub returns : goal.returns
returns c = record { lists_kept = lists-kept; lists_put_erase = lists-put-erase; lists_alone = lists-alone }
