use Rattle.meson_ranges.proofs.Counted.{ranges_are_offsets}
use Rattle.meson_ranges.proofs.laws.ranges_are_offsets.Goals as goal

pub returns : goal.returns
returns c = ranges_are_offsets
