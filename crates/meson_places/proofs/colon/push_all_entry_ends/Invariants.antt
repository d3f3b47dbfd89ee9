use Rattle.std.proofs.Common.{◌≡◌, ℕ, List, ◌++◌, drop}
use Rattle.std.specs.Prelude.{flat_map}
use Rattle.meson_syntax.specs.View.{view}
use Rattle.meson_places.specs.Colons.{entry_ends}
use Rattle.meson_places.proofs.colon.push_all_entry_ends.Given as goal

abbrev pub invariant-loop-i : goal.invariant-loop-i
invariant-loop-i l = (source : List ℕ)
    → l.ends.items ++ flat_map (entry_ends (view source l.parsed)) (drop l.i l.lists) ≡ l.initial.ends.items ++ flat_map (entry_ends (view source l.parsed)) l.lists
