use Rattle.std.proofs.Common.{◌≡◌, drop}
use Rattle.std.specs.Prelude.{find}
use Rattle.meson_warnings.specs.SharedLists.{is_in_list}
use Rattle.meson_warnings.proofs.shared_lists.first_in_list.Given as goal

abbrev pub invariant-loop-i : goal.invariant-loop-i
invariant-loop-i l = find is_in_list (drop l.i l.items) ≡ find is_in_list l.items
