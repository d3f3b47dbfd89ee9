use Rattle.std.proofs.Common.{◌≡◌, ◌++◌}
use Rattle.std.specs.Vec.Iter.{into_iter_items}
use Rattle.serde_json.specs.Data.{no_members}
use Rattle.serde_json.specs.View.{members_view}
use Rattle.meson_listing.specs.Entries.{put_each}
use Rattle.meson_listing.proofs.entries.keywords_value.Given as goal

abbrev pub invariant-loop-key : goal.invariant-loop-key
invariant-loop-key l = record {
  joined : l.fn.pairs.items ≡ l.yielded ++ into_iter_items l.key-iterator;
  put : members_view l.members.entries ≡ put_each no_members l.yielded;
}
