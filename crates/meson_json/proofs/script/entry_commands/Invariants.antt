use Rattle.std.proofs.Common.{◌≡◌, drop}
use Rattle.serde_json.specs.View.{items_view}
use Rattle.meson_json.specs.Scripts.{entries_of}
use Rattle.meson_json.proofs.ScriptFacts.{after_done}
use Rattle.meson_json.proofs.script.entry_commands.Given as goal

abbrev pub invariant-loop-index : goal.invariant-loop-index
invariant-loop-index l = entries_of l.unknown 0 (items_view l.list) ≡ after_done l.commands.items (entries_of l.unknown l.index (items_view (drop l.index l.list)))
