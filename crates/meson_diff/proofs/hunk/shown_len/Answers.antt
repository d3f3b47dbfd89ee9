use Rattle.std.proofs.Common.{◌∙◌, length, sym, arith}
use Rattle.meson_diff.proofs.Runs.{shown_more}
use Rattle.meson_diff.proofs.hunk.shown_len.Goals as goal

pub loop-i-preserved : goal.loop-i-preserved
loop-i-preserved c =
    let entries = c.args.entries.now in
    let more = shown_more entries c.loop-i.i (length entries) c.loop-i-test.true (sym c.is_shown.ensures ∙ c.if-not-is_shown.false) in
    omega (arith, more, c.loop-i.invariant)
