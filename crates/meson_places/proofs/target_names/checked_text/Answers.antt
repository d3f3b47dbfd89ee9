use Rattle.meson_calls.proofs.Loads.{as_many}
use Rattle.meson_places.proofs.target_names.checked_text.Goals as goal

pub is_target-requires : goal.is_target-requires
is_target-requires c = as_many c.args.sources.files.now c.args.sources.trees.now c.requires
