use Rattle.std.proofs.Common.{◌≡◌, drop}
use Rattle.meson_places.specs.Insertions.{find_mark}
use Rattle.meson_places.specs.inside.Found.{found_lists}
use Rattle.meson_places.proofs.insertions.find_mark.Given as goal

abbrev pub invariant-loop-i : goal.invariant-loop-i
invariant-loop-i l = find_mark l.source l.given (found_lists l.source (drop l.i l.lists)) ≡ find_mark l.source l.given (found_lists l.source l.lists)
