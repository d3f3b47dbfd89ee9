use Rattle.std.proofs.Common.{◌≡◌}
use Rattle.std.specs.List.{list_any}
use Rattle.meson_places.specs.Uses.{item_holds}
use Rattle.meson_places.proofs.uses.source_holds.Given as goal

abbrev pub invariant-loop-item : goal.invariant-loop-item
invariant-loop-item l = list_any (item_holds l.source l.part) l.item-iterator ≡ list_any (item_holds l.source l.part) l.initial.item-iterator
