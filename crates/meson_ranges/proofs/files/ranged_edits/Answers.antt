use Rattle.meson_ranges.proofs.Making.{edits_make}
use Rattle.meson_ranges.proofs.files.ranged_edits.Goals as goal

pub with_ranges-requires-clause-apart : goal.with_ranges-requires-clause-apart
with_ranges-requires-clause-apart c = (edits_make c.args.old.now c.args.new.now c.in_ok-edits.edits.items c.in_ok-edits.ensures).apart

pub with_ranges-requires-clause-there : goal.with_ranges-requires-clause-there
with_ranges-requires-clause-there c = (edits_make c.args.old.now c.args.new.now c.in_ok-edits.edits.items c.in_ok-edits.ensures).there
