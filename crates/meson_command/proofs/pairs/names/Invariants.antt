use Rattle.std.proofs.Common.{◌≡◌, ◌++◌}
use Rattle.meson_command.specs.Pairs.{pair_names}
use Rattle.meson_command.proofs.pairs.names.Given as goal

abbrev pub invariant-loop-name : goal.invariant-loop-name
invariant-loop-name l = pair_names l.fn.pairs.items ≡ l.all.items ++ pair_names l.name-iterator.rest.items
