use Rattle.std.proofs.Common.{◌≡◌, drop}
use Rattle.meson_json.specs.Settings.{given_value}
use Rattle.serde_json.specs.View.{items_view}
use Rattle.meson_json.specs.Each.{each_of}
use Rattle.meson_json.proofs.EachFacts.{after}
use Rattle.meson_json.proofs.members.given_values.Given as goal

abbrev pub invariant-loop-value : goal.invariant-loop-value
invariant-loop-value l = each_of given_value (items_view l.list) ≡ after l.all.items (each_of given_value (items_view (drop l.value-index l.list)))
