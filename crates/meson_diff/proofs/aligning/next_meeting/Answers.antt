use Rattle.std.proofs.Common.{◌≤◌, ◌+◌, min, arith}
use Rattle.meson_diff.proofs.Meetings.{none_at_all, none_farther, none_more, none_till}
use Rattle.meson_diff.proofs.aligning.next_meeting.Goals as goal

pub returns-then-is_meeting-clause-nearest : goal.returns-then-is_meeting-clause-nearest
returns-then-is_meeting-clause-nearest c =
    let within : c.loop-gone.gone ≤ c.loop-distance.distance = omega (arith, c.min-gone-end.ensures, c.loop-gone-test.true) in
    none_till c.args.old.now c.args.new.now c.loop-distance.distance c.loop-gone.gone within c.loop-distance.invariant

pub loop-gone-preserved : goal.loop-gone-preserved
loop-gone-preserved c =
    none_more c.args.old.now c.args.new.now c.loop-distance.distance c.loop-gone.gone (c.is_meeting.ensures.apart c.if-is_meeting.false) c.loop-gone.invariant

pub loop-distance-preserved : goal.loop-distance-preserved
loop-distance-preserved c =
    let all : min c.loop-distance.distance 64 + 1 ≤ c.loop-gone.gone = omega (arith, c.min-gone-end.ensures, c.loop-gone-test.false) in
    none_farther c.args.old.now c.args.new.now c.loop-distance.distance c.loop-gone.gone all c.loop-gone.invariant c.loop-distance.invariant

pub returns-clause-none : goal.returns-clause-none
returns-clause-none c =
    let all : 129 ≤ c.loop-distance.distance = omega (arith, c.loop-distance-test.false) in
    none_at_all c.args.old.now c.args.new.now c.loop-distance.distance all c.loop-distance.invariant
