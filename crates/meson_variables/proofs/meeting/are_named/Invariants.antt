use Rattle.meson_variables.proofs.Words.{◌≡◌, ℕ, List, drop, arguments_of, args_view, has_names}
use Rattle.meson_variables.proofs.meeting.are_named.Given as goal

abbrev pub invariant-loop-i : goal.invariant-loop-i
invariant-loop-i l = (source : List ℕ) → has_names (arguments_of (args_view source (drop l.i l.args))) ≡ has_names (arguments_of (args_view source l.args))
