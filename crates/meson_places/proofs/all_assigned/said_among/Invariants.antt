use Rattle.std.proofs.Common.{◌≡◌, drop}
use Rattle.std.specs.List.{list_any}
use Rattle.meson_calls.specs.Loading.{project}
use Rattle.meson_places.specs.AllAssigned.{said_at}
use Rattle.meson_places.specs.Names.{loaded_in}
use Rattle.meson_places.proofs.all_assigned.said_among.Given as goal

abbrev pub invariant-loop-i : goal.invariant-loop-i
invariant-loop-i l =
    let test = said_at l.fn.sources.files.now (project (loaded_in l.fn.sources)) l.given in
    list_any test (drop l.i l.places) ≡ list_any test l.places
