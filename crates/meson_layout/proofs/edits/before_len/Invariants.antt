use Rattle.std.proofs.Common.{◌≡◌, ◌+◌, drop}
use Rattle.meson_layout.specs.Layout.{before_len}
use Rattle.meson_layout.proofs.edits.before_len.Given as goal

abbrev pub invariant-loop-x : goal.invariant-loop-x
invariant-loop-x l = record {
  counted : l.n ≡ l.x-index;
  rest : l.n + before_len l.left (drop l.x-index l.items) ≡ before_len l.offset l.items;
}
