use Rattle.std.proofs.Common.{◌≡◌, map, take, true}
use Rattle.std.specs.List.{list_all}
use Rattle.serde_json.specs.View.{view}
use Rattle.meson_json.specs.Log.{is_placed, is_text, splice_data}
use Rattle.meson_json.proofs.log.splices_value.Given as goal

abbrev pub invariant-loop-splice : goal.invariant-loop-splice
invariant-loop-splice l = record {
  seen : map view l.list.items ≡ map splice_data (take l.splice-index l.splices);
  text : list_all is_text (take l.splice-index l.splices) ≡ true;
  placed : list_all is_placed (take l.splice-index l.splices) ≡ true;
}
