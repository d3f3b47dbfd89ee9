use Rattle.std.proofs.Common.{◌≡◌, ◌++◌, drop}
use Rattle.meson_syntax.specs.View.{args_view}
use Rattle.meson_steps.specs.OrderedLists.{sort_keys}
use Rattle.meson_steps.proofs.ordered_list.sort_keys.Given as goal

abbrev pub invariant-loop-i : goal.invariant-loop-i
invariant-loop-i l = l.keys.items ++ sort_keys (args_view l.source (drop l.i l.args)) ≡ sort_keys (args_view l.source (drop l.from l.args))
