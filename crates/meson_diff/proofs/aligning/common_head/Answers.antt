use Rattle.std.proofs.Common.{[], arith}
use Rattle.std.proofs.lemmas.List.{take_more_same}
use Rattle.meson_diff.proofs.aligning.common_head.Goals as goal

pub loop-n-preserved : goal.loop-n-preserved
loop-n-preserved c =
    let meets = c.is_meeting.ensures.found c.if-not-is_meeting.false in
    take_more_same c.args.old.now c.args.new.now c.loop-n.n [] meets.in_old meets.in_new c.loop-n.invariant (meets.one_line [])

pub returns-clause-apart : goal.returns-clause-apart
returns-clause-apart c = λ meets. omega (arith, meets.in_old, meets.in_new, c.loop-n-test.false)
