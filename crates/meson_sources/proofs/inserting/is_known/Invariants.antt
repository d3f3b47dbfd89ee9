use Rattle.meson_sources.proofs.inserting.is_known.Given as goal
use Rattle.meson_sources.proofs.Words.{list_any, drop, ◌≡◌, has_value}

abbrev pub invariant-loop-i : goal.invariant-loop-i
invariant-loop-i l = list_any (has_value l.name) (drop l.i l.items) ≡ list_any (has_value l.name) l.items
