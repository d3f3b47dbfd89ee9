use Rattle.std.proofs.Common.{◌≡◌, drop}
use Rattle.meson_command.specs.Actions.{is_json}
use Rattle.meson_command.proofs.script.is_json.Given as goal

abbrev pub invariant-loop-b : goal.invariant-loop-b
invariant-loop-b l = is_json l.fn.word ≡ is_json (drop l.b-index l.fn.word)
