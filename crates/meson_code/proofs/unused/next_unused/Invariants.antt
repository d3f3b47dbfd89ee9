use Rattle.std.proofs.Common.{◌≡◌, drop}
use Rattle.meson_calls.specs.Loading.{project}
use Rattle.meson_places.specs.Names.{loaded_in}
use Rattle.meson_code.specs.Unused.{next_unused}
use Rattle.meson_code.proofs.unused.next_unused.Given as goal

-- that of the names that are left is that of all
abbrev pub invariant-loop-i : goal.invariant-loop-i
invariant-loop-i l = next_unused l.files (project (loaded_in l.sources)) (drop l.i l.names) ≡ next_unused l.files (project (loaded_in l.sources)) l.names
