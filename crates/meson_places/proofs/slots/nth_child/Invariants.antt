use Rattle.std.proofs.Common.{◌≡◌, ℕ, ◌-◌, ◌*◌, ◌≤◌, List, drop}
use Rattle.meson_syntax.specs.View.{args_view}
use Rattle.meson_places.specs.Slots.{nth_child}
use Rattle.meson_places.proofs.slots.nth_child.Given as goal

abbrev pub invariant-loop-i : goal.invariant-loop-i
invariant-loop-i l = record {
  few : l.before ≤ 2 * l.i;
  left : l.i ≤ l.n;
  rest : (source : List ℕ) → nth_child l.before (args_view source (drop l.i l.elements)) (l.n - l.i) ≡ nth_child 0 (args_view source l.elements) l.n;
}
