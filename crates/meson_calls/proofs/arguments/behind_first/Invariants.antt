use Rattle.meson_calls.proofs.Words.{◌≡◌, ℕ, List, drop, value_without_name, kept_args}
use Rattle.meson_calls.proofs.arguments.behind_first.Given as goal

abbrev pub invariant-loop-i : goal.invariant-loop-i
invariant-loop-i l = (source : List ℕ) → kept_args source value_without_name 0 l.args ≡ kept_args source value_without_name l.i (drop l.i l.args)
