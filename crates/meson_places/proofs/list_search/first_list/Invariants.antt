use Rattle.std.proofs.Common.{◌≡◌, drop}
use Rattle.meson_calls.specs.Loading.{project}
use Rattle.meson_places.specs.Behind.{first_that, has_lists}
use Rattle.meson_places.specs.Names.{loaded_in}
use Rattle.meson_places.proofs.list_search.first_list.Given as goal

abbrev pub invariant-loop-i : goal.invariant-loop-i
invariant-loop-i l = first_that (has_lists (project (loaded_in l.fn.sources))) (drop l.i l.places) ≡ first_that (has_lists (project (loaded_in l.fn.sources))) l.places
