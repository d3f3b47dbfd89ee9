use Rattle.std.proofs.Common.{◌≡◌, ◌≤◌, ◌++◌, drop, length, map}
use Rattle.std.specs.Prelude.{Option, Some, option_map}
use Rattle.meson_edit.specs.Edits.{Written}
use Rattle.meson_syntax.specs.Tree.{Expression, Nowhere}
use Rattle.meson_syntax.specs.View.{args_view}
use Rattle.meson_steps.specs.ListSteps.{bare}
use Rattle.meson_places.specs.SaidElements.{passing_edited, says_one}
use Rattle.meson_places.specs.Values.{given_bytes}
use Rattle.meson_places.proofs.said_elements.edit_elements.Given as goal

abbrev pub decreases-loop-left : goal.decreases-loop-left
decreases-loop-left l = l.left

abbrev pub invariant-loop-left : goal.invariant-loop-left
invariant-loop-left l = record {
  few : l.left ≤ length l.elements;
  rest : (w : Option (Written (Expression Nowhere))) → option_map (λ v. v.bytes) w ≡ option_map (λ g. given_bytes g.now) l.said.new
      → map Some l.steps.items ≡ map Some l.initial.steps.items
      ++ map bare (passing_edited l.place w (says_one l.source l.said.values.now) l.left (args_view l.source (drop l.left l.elements)));
}
