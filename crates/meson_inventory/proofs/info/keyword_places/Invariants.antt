use Rattle.std.proofs.Common.{◌≡◌, ◌++◌, drop}
use Rattle.std.specs.List.{filter_map}
use Rattle.meson_syntax.specs.View.{args_view}
use Rattle.meson_inventory.specs.Info.{keyword_place}
use Rattle.meson_inventory.proofs.info.keyword_places.Given as goal

abbrev pub invariant-loop-i : goal.invariant-loop-i
invariant-loop-i l = l.places.items ++ filter_map (keyword_place l.role) (args_view l.source (drop l.i l.args)) ≡ filter_map (keyword_place l.role) (args_view l.source l.args)
