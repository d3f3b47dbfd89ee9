use Rattle.std.proofs.Common.{arith}
use Rattle.meson_diff.proofs.Meetings.{tail_more}
use Rattle.meson_diff.proofs.aligning.common_tail.Goals as goal

pub loop-n-preserved : goal.loop-n-preserved
loop-n-preserved c =
    tail_more c.args.old.now c.args.new.now c.loop-n.n (omega arith) (omega arith) (c.is_meeting.ensures.found c.if-not-is_meeting.false) c.loop-n.invariant
