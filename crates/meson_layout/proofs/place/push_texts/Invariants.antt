use Rattle.std.proofs.Common.{◌≡◌, ◌++◌, drop}
use Rattle.meson_lex.specs.Items.{joined}
use Rattle.meson_layout.proofs.place.push_texts.Given as goal

abbrev pub invariant-loop-x : goal.invariant-loop-x
invariant-loop-x l = l.to.items ++ joined (drop l.x-index l.items) ≡ l.initial.to.items ++ joined l.items
