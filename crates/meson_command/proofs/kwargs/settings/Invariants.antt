use Rattle.std.proofs.Common.{◌≡◌, ◌++◌}
use Rattle.meson_command.specs.Actions.{settings}
use Rattle.meson_command.proofs.kwargs.settings.Given as goal

abbrev pub invariant-loop-name : goal.invariant-loop-name
invariant-loop-name l = settings l.fn.pairs.items ≡ l.all.items ++ settings l.name-iterator.rest.items
