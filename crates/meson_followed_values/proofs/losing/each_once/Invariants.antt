use Rattle.std.proofs.Common.{◌≡◌, ◌++◌, [], drop}
use Rattle.meson_followed_values.specs.Choices.{each_once}
use Rattle.meson_followed_values.proofs.losing.each_once.Given as goal

abbrev pub invariant-loop-i : goal.invariant-loop-i
invariant-loop-i l = l.once.items ++ each_once l.once.items (drop l.i l.places) ≡ each_once [] l.places
