use Rattle.meson_calls.proofs.Words.{◌≡◌, ◌+◌, ◌≤◌, length, drop, value_with_name, kept_args}
use Rattle.meson_calls.proofs.arguments.count_named.Given as goal

abbrev pub invariant-loop-i : goal.invariant-loop-i
invariant-loop-i l = (l.count ≤ l.i) × (l.count + length (kept_args l.source (value_with_name l.key) l.i (drop l.i l.args)) ≡ length (kept_args l.source (value_with_name l.key) 0 l.args))
