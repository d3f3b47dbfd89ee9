use Rattle.std.proofs.Common.{◌≡◌, ◌++◌, drop, map}
use Rattle.std.specs.Prelude.{flat_map}
use Rattle.meson_warnings.specs.Reads.{reads}
use Rattle.meson_warnings.proofs.shared_lists.all_reads.Given as goal

abbrev pub invariant-loop-i : goal.invariant-loop-i
invariant-loop-i l = l.spots.items ++ flat_map (reads l.project) (map (λ x. x.now) (drop l.i l.names)) ≡ flat_map (reads l.project) (map (λ x. x.now) l.names)
