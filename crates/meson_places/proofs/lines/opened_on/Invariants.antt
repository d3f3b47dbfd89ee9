use Rattle.std.proofs.Common.{◌≡◌, ◌++◌}
use Rattle.std.specs.List.{filter_map}
use Rattle.std.specs.Vec.Iter.{into_iter_items}
use Rattle.meson_places.specs.Names.{opens_on}
use Rattle.meson_places.proofs.lines.opened_on.Given as goal

abbrev pub invariant-loop-list : goal.invariant-loop-list
invariant-loop-list l =
    l.found.items ++ filter_map (opens_on l.line.source.now l.line.number) (into_iter_items l.list-iterator) ≡ filter_map (opens_on l.line.source.now l.line.number) l.fn.lists.items
