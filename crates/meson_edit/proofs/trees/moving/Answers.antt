use Rattle.meson_edit.proofs.kept.Moved.{files-move, lists-move}
use Rattle.meson_edit.proofs.kept.Views.{views-move, list-views-move}
use Rattle.meson_edit.proofs.trees.moving.Goals as goal

pub returns : goal.returns
returns c = record { files_move = files-move; lists_move = lists-move; views_move = views-move; list_views_move = list-views-move }
