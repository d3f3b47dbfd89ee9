use Rattle.std.proofs.Common.{◌≡◌, ℕ, List, drop}
use Rattle.std.specs.List.{list_all}
use Rattle.meson_syntax.specs.View.{args_view}
use Rattle.meson_places.specs.Slots.{has_no_name}
use Rattle.meson_places.proofs.value_lists.are_plain.Given as goal

abbrev pub invariant-loop-i : goal.invariant-loop-i
invariant-loop-i l = (source : List ℕ) → list_all has_no_name (args_view source (drop l.i l.elements)) ≡ list_all has_no_name (args_view source l.elements)
