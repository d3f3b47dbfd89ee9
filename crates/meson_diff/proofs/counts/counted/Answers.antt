use Rattle.std.proofs.Common.{take, arith}
use Rattle.std.proofs.lemmas.List.{length-take}
use Rattle.meson_diff.proofs.Counting.{new_within, old_within}
use Rattle.meson_diff.proofs.counts.counted.Goals as goal

pub add-requires-clause-old_fits : goal.add-requires-clause-old_fits
add-requires-clause-old_fits c =
    let front = take c.loop-entry.entry-index c.args.entries.now in
    omega (arith, old_within front, length-take c.loop-entry.entry-index c.args.entries.now, c.loop-entry.invariant.of_old)

pub add-requires-clause-new_fits : goal.add-requires-clause-new_fits
add-requires-clause-new_fits c =
    let front = take c.loop-entry.entry-index c.args.entries.now in
    omega (arith, new_within front, length-take c.loop-entry.entry-index c.args.entries.now, c.loop-entry.invariant.of_new)
