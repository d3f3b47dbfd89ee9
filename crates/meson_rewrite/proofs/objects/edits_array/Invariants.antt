use Rattle.std.proofs.Common.{◌≡◌, map, take}
use Rattle.serde_json.specs.View.{view}
use Rattle.meson_rewrite.specs.Objects.{edit_data}
use Rattle.meson_rewrite.proofs.objects.edits_array.Given as goal

abbrev pub invariant-loop-edit : goal.invariant-loop-edit
invariant-loop-edit l = map view l.list.items ≡ map edit_data (take l.edit-index l.edits)
