use Rattle.std.proofs.Common.{◌≡◌, ◌≤◌, [], drop, take}
use Rattle.meson_following.specs.Names.{after_placeholders}
use Rattle.meson_following.proofs.names.after_placeholders.Given as goal

abbrev pub invariant-loop-i : goal.invariant-loop-i
invariant-loop-i l = record {
  begun : l.from ≤ l.i;
  rest : after_placeholders (drop l.from (take l.i l.text)) (drop l.i l.text) ≡ after_placeholders [] l.text;
}
