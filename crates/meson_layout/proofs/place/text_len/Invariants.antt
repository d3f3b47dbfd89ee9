use Rattle.std.proofs.Common.{◌≡◌, ◌+◌, drop, length}
use Rattle.meson_lex.specs.Items.{joined}
use Rattle.meson_layout.proofs.place.text_len.Given as goal

abbrev pub invariant-loop-x : goal.invariant-loop-x
invariant-loop-x l = l.n + length (joined (drop l.x-index l.items)) ≡ length (joined l.items)
