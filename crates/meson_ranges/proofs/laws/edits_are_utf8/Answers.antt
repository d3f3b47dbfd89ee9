use Rattle.meson_ranges.proofs.Characters.{edits_are_utf8}
use Rattle.meson_ranges.proofs.laws.edits_are_utf8.Goals as goal

pub returns : goal.returns
returns c = edits_are_utf8
