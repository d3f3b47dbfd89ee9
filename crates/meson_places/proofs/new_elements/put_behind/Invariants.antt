use Rattle.std.proofs.Common.{◌≡◌, ◌+◌, ◌++◌, List, drop, map}
use Rattle.std.specs.Prelude.{Some}
use Rattle.meson_syntax.specs.Tree.{Expression, Nowhere}
use Rattle.meson_edit.specs.Edits.{Written}
use Rattle.meson_steps.specs.ListSteps.{bare}
use Rattle.meson_places.specs.Several.{put_each}
use Rattle.meson_places.specs.Values.{given_bytes}
use Rattle.meson_places.proofs.new_elements.put_behind.Given as goal

abbrev pub invariant-loop-i : goal.invariant-loop-i
invariant-loop-i l = (ws : List (Written (Expression Nowhere))) → map (λ w. w.bytes) ws ≡ map given_bytes (map (λ x. x.now) l.values)
    → map Some l.steps.items ++ map bare (put_each l.list (l.many) (l.many + l.i) (drop l.i ws)) ≡ map bare (put_each l.list (l.many) (l.many) ws)
