use Rattle.meson_calls.proofs.Words.{arith}
use Rattle.std.proofs.lemmas.Grind.{common_steps}
use Rattle.meson_calls.proofs.SlashParts.{past_other, past_slash}
use Rattle.meson_calls.proofs.folders.has_bad_part.Goals as goal
use Rattle.meson_calls.proofs.folders.has_bad_part.Goals.{then-folder-i-eq47+else-goes_nowhere, else-folder-i-eq47}

pub loop-i-preserved : goal.loop-i-preserved
loop-i-preserved c = elim c.if-folder-i-eq47.branch [
  | then-folder-i-eq47+else-goes_nowhere w ↦ (let seen = past_slash c.args.folder.now c.loop-i.from c.loop-i.i c.loop-i.invariant.0 c.loop-i-test.true w.if-folder-i-eq47.true in grind (arith, common_steps))
  | else-folder-i-eq47 w ↦ (let seen = past_other c.args.folder.now c.loop-i.from c.loop-i.i c.loop-i.invariant.0 c.loop-i-test.true w.if-folder-i-eq47.false in grind (arith, common_steps))
]
