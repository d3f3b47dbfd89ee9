use Rattle.std.proofs.Common.{◌+◌, ◌<◌, ◌++◌, length, drop, sym, ap, ◌∙◌, arith, append_assoc}
use Rattle.meson_sums.specs.Sums.{sums}
use Rattle.meson_sums.proofs.Listing.{one-more}
use Rattle.meson_sums.proofs.digests.sums.Goals as goal

pub loop-i-preserved : goal.loop-i-preserved
loop-i-preserved c =
    let files = c.args.files.now in
    let text = c.loop-i.text.items in
    let rest = sums (drop (c.loop-i.i + 1) files) in
    let in_files : c.loop-i.i < length files = omega (arith, c.len-i-end.ensures, c.loop-i-test.true) in
    let more = one-more files c.loop-i.i c.name.result.now c.bytes.result.now in_files c.name.ensures c.bytes.ensures in
    ap (λ t. t ++ rest) (c.in_ok-extend_from_slice.ensures.items ∙ ap (λ l. text ++ l) (c.as_slice.ensures.value ∙ c.in_ok-line.ensures))
    ∙ append_assoc text _ rest
    ∙ ap (λ l. text ++ l) (sym more)
    ∙ c.loop-i.invariant
