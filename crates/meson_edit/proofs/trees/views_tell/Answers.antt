use Rattle.meson_edit.proofs.kept.Views.{views-tell, list-views-tell, views-text, list-views-text}
use Rattle.meson_edit.proofs.trees.views_tell.Goals as goal

pub returns : goal.returns
returns c = record { views_tell = views-tell; list_views_tell = list-views-tell; views_text = views-text; list_views_text = list-views-text }
