use Rattle.std.proofs.Common.{◌≡◌, ◌-◌, ◌≤◌, length}
use Rattle.std.specs.Prelude.{reverse}
use Rattle.meson_layout.specs.LineSpots.{comment_line_len, comment_lines_len}
use Rattle.meson_layout.proofs.line_spots.before_comment_lines.Given as goal

abbrev pub invariant-loop-n : goal.invariant-loop-n
invariant-loop-n l = record {
  line : l.n ≡ comment_line_len (reverse l.rest);
  within : l.n ≤ length l.rest;
  fewer : length l.rest ≤ length l.items;
  same : length l.items - comment_lines_len (reverse l.items) ≡ length l.rest - comment_lines_len (reverse l.rest);
}

abbrev pub decreases-loop-n : goal.decreases-loop-n
decreases-loop-n l = length l.rest
