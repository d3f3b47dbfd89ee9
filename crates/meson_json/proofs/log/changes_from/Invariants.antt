use Rattle.std.proofs.Common.{◌≡◌, drop, true}
use Rattle.serde_json.specs.View.{items_view}
use Rattle.meson_json.specs.Each.{each_of}
use Rattle.meson_json.specs.Log.{are_text, change_of}
use Rattle.meson_json.proofs.EachFacts.{after}
use Rattle.meson_json.proofs.log.changes_from.Given as goal

abbrev pub invariant-loop-value : goal.invariant-loop-value
invariant-loop-value l = record {
  read : each_of (change_of l.version) (items_view l.list) ≡ after l.changes.items (each_of (change_of l.version) (items_view (drop l.value-index l.list)));
  text : are_text l.changes.items ≡ true;
}
