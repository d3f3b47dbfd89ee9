use Rattle.std.proofs.Common.{◌≡◌, map, take}
use Rattle.serde_json.specs.View.{view}
use Rattle.meson_rewrite.specs.Objects.{file_edits_data}
use Rattle.meson_rewrite.proofs.objects.files_array.Given as goal

abbrev pub invariant-loop-change : goal.invariant-loop-change
invariant-loop-change l = map view l.list.items ≡ map file_edits_data (take l.change-index l.changes)
