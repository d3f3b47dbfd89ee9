use Rattle.std.proofs.Common.{◌≡◌, drop}
use Rattle.std.specs.List.{filter_map}
use Rattle.meson_calls.specs.Loading.{project}
use Rattle.meson_places.specs.Behind.{first_that}
use Rattle.meson_places.specs.Names.{loaded_in}
use Rattle.meson_places.specs.Operands.{behind_at, says_behind}
use Rattle.meson_places.proofs.operands.first_behind.Given as goal

abbrev pub invariant-loop-i : goal.invariant-loop-i
invariant-loop-i l =
    let files = l.fn.sources.files.now in
    let p = project (loaded_in l.fn.sources) in
    let test = says_behind files p l.values in
    first_that test (filter_map (behind_at files p l.values) (drop l.i l.places)) ≡ first_that test (filter_map (behind_at files p l.values) l.places)
