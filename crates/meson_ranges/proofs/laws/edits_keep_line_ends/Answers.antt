use Rattle.meson_ranges.proofs.LineEnds.{edits_keep_line_ends}
use Rattle.meson_ranges.proofs.laws.edits_keep_line_ends.Goals as goal

pub returns : goal.returns
returns c = edits_keep_line_ends
