use Rattle.std.proofs.Common.{◌≡◌, drop}
use Rattle.std.specs.List.{list_all}
use Rattle.meson_calls.specs.Loading.{project}
use Rattle.meson_places.specs.AllAssigned.{said_among}
use Rattle.meson_places.specs.Names.{loaded_in}
use Rattle.meson_places.proofs.all_assigned.all_said.Given as goal

abbrev pub invariant-loop-i : goal.invariant-loop-i
invariant-loop-i l =
    let test = said_among l.fn.sources.files.now (project (loaded_in l.fn.sources)) l.places in
    list_all test (drop l.i l.values) ≡ list_all test l.values
