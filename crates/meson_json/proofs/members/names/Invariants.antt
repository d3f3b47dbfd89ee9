use Rattle.std.proofs.Common.{◌≡◌, ◌++◌}
use Rattle.serde_json.specs.View.{members_view}
use Rattle.meson_json.specs.Each.{names_of_members}
use Rattle.meson_json.proofs.members.names.Given as goal

abbrev pub invariant-loop-name : goal.invariant-loop-name
invariant-loop-name l = names_of_members (members_view l.members.entries) ≡ l.names.items ++ names_of_members (members_view l.name-iterator)
