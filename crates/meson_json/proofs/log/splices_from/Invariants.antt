use Rattle.std.proofs.Common.{◌≡◌, drop, true}
use Rattle.std.specs.List.{list_all}
use Rattle.serde_json.specs.View.{items_view}
use Rattle.meson_json.specs.Each.{each_of}
use Rattle.meson_json.specs.Log.{is_text, splice_of_data}
use Rattle.meson_json.proofs.EachFacts.{after}
use Rattle.meson_json.proofs.log.splices_from.Given as goal

abbrev pub invariant-loop-value : goal.invariant-loop-value
invariant-loop-value l = record {
  read : each_of splice_of_data (items_view l.list) ≡ after l.splices.items (each_of splice_of_data (items_view (drop l.value-index l.list)));
  text : list_all is_text l.splices.items ≡ true;
}
