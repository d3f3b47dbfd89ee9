use Rattle.meson_calls.proofs.Words.{◌≡◌, drop, value_with_name, kept_args}
use Rattle.meson_calls.proofs.arguments.first_named.Given as goal

abbrev pub invariant-loop-i : goal.invariant-loop-i
invariant-loop-i l = kept_args l.source (value_with_name l.key) 0 l.args ≡ kept_args l.source (value_with_name l.key) l.i (drop l.i l.args)
