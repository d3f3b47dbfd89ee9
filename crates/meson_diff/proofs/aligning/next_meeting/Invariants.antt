use Rattle.meson_diff.specs.Alignment.{NoneNearer}
use Rattle.meson_diff.proofs.Meetings.{NoneYet}
use Rattle.meson_diff.proofs.aligning.next_meeting.Given as goal

abbrev pub invariant-loop-distance : goal.invariant-loop-distance
invariant-loop-distance l = NoneNearer l.old l.new l.distance

abbrev pub invariant-loop-gone : goal.invariant-loop-gone
invariant-loop-gone l = NoneYet l.old l.new l.distance l.gone
