use Rattle.std.proofs.Common.{◌≡◌, ◌++◌}
use Rattle.meson_code.proofs.removing.append.Given as goal

abbrev pub invariant-loop-name : goal.invariant-loop-name
invariant-loop-name l = l.names.items ≡ l.fn.names.items ++ l.yielded
