use Rattle.std.proofs.Common.{◌≡◌, ◌++◌}
use Rattle.std.specs.Vec.Iter.{into_iter_items}
use Rattle.serde_json.specs.Data.{no_members}
use Rattle.serde_json.specs.View.{members_view}
use Rattle.meson_inventory.specs.Info.{put_places}
use Rattle.meson_inventory.proofs.info.places_value.Given as goal

abbrev pub invariant-loop-place : goal.invariant-loop-place
invariant-loop-place l = record {
  files : l.positions.files.now ≡ l.files;
  joined : l.fn.places.items ≡ l.yielded ++ into_iter_items l.place-iterator;
  put : members_view l.members.entries ≡ put_places l.files l.file no_members l.yielded;
}
