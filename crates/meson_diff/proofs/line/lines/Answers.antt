use Rattle.std.proofs.Common.{◌<◌, ◌∙◌, length, sym, arith}
use Rattle.std.proofs.lemmas.Bool.{eqb-false}
use Rattle.meson_diff.proofs.Cuts.{lines_more}
use Rattle.meson_diff.proofs.line.lines.Goals as goal

pub loop-rest-preserved : goal.loop-rest-preserved
loop-rest-preserved c =
    let rest = c.loop-rest.rest.now in
    let more : 0 < length rest = omega (arith, eqb-false (length rest) 0 (sym c.is_empty.ensures ∙ c.loop-rest-test.true)) in
    lines_more c.loop-rest.all.items c.push.new.self.items rest c.split_at.result.0.now c.split_at.result.1.now c.line_len.result
    c.line_len.ensures.value more c.in_ok-push.ensures.items c.split_at.ensures.front c.split_at.ensures.back
    ∙ c.loop-rest.invariant
