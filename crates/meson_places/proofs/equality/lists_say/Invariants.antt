use Rattle.std.proofs.Common.{◌≡◌, drop}
use Rattle.meson_places.specs.Equality.{lists_say}
use Rattle.meson_places.specs.inside.Found.{found_lists}
use Rattle.meson_places.proofs.equality.lists_say.Given as goal

abbrev pub invariant-loop-i : goal.invariant-loop-i
invariant-loop-i l = lists_say l.source (found_lists l.source (drop l.i l.lists)) l.given ≡ lists_say l.source (found_lists l.source l.lists) l.given
