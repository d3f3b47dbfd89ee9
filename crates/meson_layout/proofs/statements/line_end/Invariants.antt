use Rattle.std.proofs.Common.{◌≡◌, drop}
use Rattle.meson_layout.specs.Statements.{line_end_of}
use Rattle.meson_layout.proofs.statements.line_end.Given as goal

abbrev pub invariant-loop-x : goal.invariant-loop-x
invariant-loop-x l = line_end_of (drop l.x-index l.items) ≡ line_end_of l.items
