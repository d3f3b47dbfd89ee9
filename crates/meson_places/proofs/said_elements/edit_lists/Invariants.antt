use Rattle.std.proofs.Common.{◌≡◌, ◌++◌, drop, map}
use Rattle.std.specs.Prelude.{Option, Some, option_map}
use Rattle.meson_edit.specs.Edits.{Written}
use Rattle.meson_syntax.specs.Tree.{Expression, Nowhere}
use Rattle.meson_steps.specs.ListSteps.{bare}
use Rattle.meson_places.specs.SaidElements.{lists_edited, says_one}
use Rattle.meson_places.specs.Values.{given_bytes}
use Rattle.meson_places.specs.inside.Found.{found_lists}
use Rattle.meson_places.proofs.said_elements.edit_lists.Given as goal

abbrev pub invariant-loop-i : goal.invariant-loop-i
invariant-loop-i l = (w : Option (Written (Expression Nowhere))) → option_map (λ v. v.bytes) w ≡ option_map (λ g. given_bytes g.now) l.said.new
    → map Some l.steps.items ++ map bare (lists_edited w (says_one l.source l.said.values.now) (found_lists l.source (drop l.i l.lists)))
    ≡ map bare (lists_edited w (says_one l.source l.said.values.now) (found_lists l.source l.lists))
