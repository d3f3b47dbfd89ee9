use Rattle.meson_steps.proofs.Words.{◌≡◌, ◌++◌}
use Rattle.meson_steps.proofs.work.push_all.Given as goal

abbrev pub invariant-loop-splice : goal.invariant-loop-splice
invariant-loop-splice l = l.to.items ≡ l.fn.to.items ++ l.yielded
