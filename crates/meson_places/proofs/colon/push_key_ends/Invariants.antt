use Rattle.std.proofs.Common.{◌≡◌, ℕ, List, ◌++◌, drop}
use Rattle.meson_syntax.specs.View.{args_view}
use Rattle.meson_places.specs.Colons.{key_ends}
use Rattle.meson_places.proofs.colon.push_key_ends.Given as goal

abbrev pub invariant-loop-i : goal.invariant-loop-i
invariant-loop-i l = (source : List ℕ) → l.ends.items ++ key_ends (args_view source (drop l.i l.elements)) ≡ l.initial.ends.items ++ key_ends (args_view source l.elements)
