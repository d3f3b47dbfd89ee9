use Rattle.std.proofs.Common.{◌≡◌, drop}
use Rattle.std.specs.Prelude.{Bool}
use Rattle.std.specs.List.{list_all}
use Rattle.meson_syntax.specs.Tree.{Expression, Nowhere}
use Rattle.meson_edit.specs.Edits.{Written}
use Rattle.meson_steps.specs.ResultLimits.{plain_trees}
use Rattle.meson_places.specs.Names.{loaded_in}
use Rattle.meson_places.specs.Room.{has_room, list_in_trees}
use Rattle.meson_places.specs.Several.{AllMayBeGiven, all_written}
use Rattle.meson_places.proofs.several.has_room_for_all.Given as goal

abbrev pub invariant-loop-i : goal.invariant-loop-i
invariant-loop-i l =
    let fits : Written (Expression Nowhere) → Bool = λ w. has_room w.node (list_in_trees (plain_trees (loaded_in l.sources)) l.list) in
    (may : AllMayBeGiven l.values) → list_all fits (drop l.i (all_written l.values may)) ≡ list_all fits (all_written l.values may)
