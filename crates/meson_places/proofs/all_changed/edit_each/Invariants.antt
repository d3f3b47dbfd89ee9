use Rattle.std.proofs.Common.{◌≡◌, ◌++◌, drop, map}
use Rattle.std.specs.Prelude.{Some}
use Rattle.meson_steps.specs.ListSteps.{bare}
use Rattle.meson_places.specs.AllAssigned.{each_edited}
use Rattle.meson_places.specs.Names.{loaded_in}
use Rattle.meson_places.proofs.all_changed.edit_each.Given as goal

abbrev pub invariant-loop-i : goal.invariant-loop-i
invariant-loop-i l =
    let edited = each_edited (loaded_in l.fn.sources) l.values in
    map Some l.steps.items ++ map bare (edited (drop l.i l.places)) ≡ map bare (edited l.places)
