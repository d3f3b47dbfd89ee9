use Rattle.std.proofs.Common.{◌≡◌, ℕ, ◌+◌, ◌<◌, ◌≤◌}
use Rattle.meson_places.specs.Names.{line_of}
use Rattle.meson_places.proofs.lines.find_line.Given as goal

abbrev pub invariant-loop-i : goal.invariant-loop-i
invariant-loop-i l = record {
  here : line_of l.source l.i ≡ l.current;
  first : line_of l.source l.from ≡ l.current;
  before : (at_ : ℕ) → at_ < l.from → line_of l.source at_ < l.current;
  passed : l.number < l.current → l.number ≡ 0;
  within : l.from ≤ l.i;
  few : l.current ≤ l.i + 1;
}
