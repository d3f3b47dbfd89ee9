use Rattle.std.proofs.Common.{◌≡◌, ◌++◌}
use Rattle.meson_places.specs.Equality.{tokens_in}
use Rattle.meson_places.proofs.equality.tokens.Given as goal

abbrev pub invariant-loop-item : goal.invariant-loop-item
invariant-loop-item l = l.all.items ++ tokens_in l.text l.item-iterator ≡ tokens_in l.text l.initial.item-iterator
