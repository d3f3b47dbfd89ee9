use Rattle.std.proofs.Common.{◌≡◌, drop}
use Rattle.meson_calls.specs.Loading.{project}
use Rattle.meson_places.specs.Behind.{first_that, says_all_at}
use Rattle.meson_places.specs.Names.{loaded_in}
use Rattle.meson_places.proofs.list_search.first_with_all.Given as goal

abbrev pub invariant-loop-i : goal.invariant-loop-i
invariant-loop-i l =
    let test = says_all_at l.fn.sources.files.now (project (loaded_in l.fn.sources)) l.values in
    first_that test (drop l.i l.places) ≡ first_that test l.places
