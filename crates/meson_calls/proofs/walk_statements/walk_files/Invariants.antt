use Rattle.meson_calls.proofs.Words.{◌≡◌, drop, keeper_view, with_parts}
use Rattle.meson_calls.proofs.FileTurns.{left}
use Rattle.meson_calls.proofs.walk_statements.walk_files.Given as goal

abbrev pub invariant-loop-i : goal.invariant-loop-i
invariant-loop-i l = with_parts (keeper_view l.keeper) (left l.i (drop l.i l.files) (drop l.i l.trees)) ≡ with_parts (keeper_view l.fn.keeper) (left 0 l.files l.trees)
