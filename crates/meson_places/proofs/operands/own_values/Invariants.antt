use Rattle.std.proofs.Common.{◌≡◌, ◌++◌, drop}
use Rattle.std.specs.List.{filter_map}
use Rattle.meson_calls.specs.Loading.{project}
use Rattle.meson_places.specs.Names.{loaded_in}
use Rattle.meson_places.specs.Operands.{own_value}
use Rattle.meson_places.proofs.operands.own_values.Given as goal

abbrev pub invariant-loop-i : goal.invariant-loop-i
invariant-loop-i l =
    let value = own_value l.fn.sources.files.now (project (loaded_in l.fn.sources)) l.values in
    l.found.items ++ filter_map value (drop l.i l.places) ≡ filter_map value l.places
