use Rattle.std.proofs.Common.{◌-◌, arith, length, length-take}
use Rattle.meson_layout.proofs.LineSpots.{one-line-less}
use Rattle.meson_layout.proofs.line_spots.before_comment_lines.Goals as goal

pub loop-n-preserved : goal.loop-n-preserved
loop-n-preserved c =
    let i = c.loop-n.invariant in
    let rest = c.loop-n.rest.now in
    let size = length-take (length rest - c.loop-n.n) rest in
    record {
      line = c.comment_line_len-n-in-loop-n.ensures.value;
      within = c.comment_line_len-n-in-loop-n.ensures.within;
      fewer = omega arith;
      same = one-line-less c.args.items.now rest c.loop-n.n i.line (omega arith) i.within i.same;
    }
