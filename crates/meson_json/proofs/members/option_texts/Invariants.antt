use Rattle.std.proofs.Common.{◌≡◌}
use Rattle.serde_json.specs.View.{members_view}
use Rattle.meson_json.specs.Each.{each_member}
use Rattle.meson_json.specs.Settings.{option_value}
use Rattle.meson_json.proofs.EachFacts.{after}
use Rattle.meson_json.proofs.members.option_texts.Given as goal

abbrev pub invariant-loop-name : goal.invariant-loop-name
invariant-loop-name l = each_member option_value (members_view l.members.entries) ≡ after l.pairs.items (each_member option_value (members_view l.name-iterator))
