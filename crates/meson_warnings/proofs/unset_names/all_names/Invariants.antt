use Rattle.std.proofs.Common.{◌≡◌, ◌++◌, drop}
use Rattle.std.specs.Prelude.{flat_map}
use Rattle.meson_warnings.specs.UnsetNames.{names_in}
use Rattle.meson_warnings.proofs.unset_names.all_names.Given as goal

abbrev pub invariant-loop-key : goal.invariant-loop-key
invariant-loop-key l = l.names.items ++ flat_map (names_in l.fn.role) (drop l.key-index l.pairs) ≡ flat_map (names_in l.fn.role) l.pairs
