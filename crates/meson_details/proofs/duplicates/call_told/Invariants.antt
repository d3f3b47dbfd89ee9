-- What is told of the call is what is told of the arguments that are left.
use Rattle.std.proofs.Common.{◌≡◌, ℕ, List, drop}
use Rattle.meson_syntax.specs.View.{list_view}
use Rattle.meson_calls.specs.ChosenNotes.{call_with}
use Rattle.meson_details.specs.Once.{call_told}
use Rattle.meson_details.proofs.Told.{left_told}
use Rattle.meson_details.proofs.duplicates.call_told.Given as goal

abbrev pub invariant-loop-i : goal.invariant-loop-i
invariant-loop-i l = (function : List ℕ) → call_told l.role (call_with function (list_view l.source l.arguments)) ≡ left_told l.source l.arguments function l.role (drop l.i l.args)
