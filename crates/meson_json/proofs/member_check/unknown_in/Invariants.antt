use Rattle.std.proofs.Common.{◌≡◌}
use Rattle.std.specs.Prelude.{option_and_then}
use Rattle.serde_json.specs.Find.{as_object}
use Rattle.serde_json.specs.View.{members_view, view}
use Rattle.meson_json.specs.Known.{unknown_in}
use Rattle.meson_json.proofs.member_check.unknown_in.Given as goal

abbrev pub invariant-loop-name : goal.invariant-loop-name
invariant-loop-name l = option_and_then (unknown_in l.command) (as_object (view l.entry)) ≡ unknown_in l.command (members_view l.name-iterator)
