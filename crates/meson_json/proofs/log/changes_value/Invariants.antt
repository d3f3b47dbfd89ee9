use Rattle.std.proofs.Common.{◌≡◌, map, take, true}
use Rattle.std.specs.List.{list_all}
use Rattle.serde_json.specs.View.{view}
use Rattle.meson_json.specs.Log.{are_text, change_data, is_placed}
use Rattle.meson_json.proofs.log.changes_value.Given as goal

abbrev pub invariant-loop-change : goal.invariant-loop-change
invariant-loop-change l = record {
  seen : map view l.list.items ≡ map change_data (take l.change-index l.changes);
  text : are_text (take l.change-index l.changes) ≡ true;
  placed : list_all (λ c. list_all is_placed c.splices) (take l.change-index l.changes) ≡ true;
}
