use Rattle.std.proofs.Common.{[], refl}
use Rattle.std.proofs.Output.{has_written_append, has_written_of_eq}
use Rattle.serde_json.specs.Data.{string}
use Rattle.meson_rewrite.proofs.TextArrays.{one-more, written_whole}
use Rattle.meson_rewrite.proofs.refused.TextsDisplay.fmt.Goals as goal

pub loop-text-init : goal.loop-text-init
loop-text-init g c = λ plain. record { wrote = record { parts = []; calls = refl; whole = refl }; plain = plain }

pub loop-text-preserved : goal.loop-text-preserved
loop-text-preserved g c = λ plain.
    let so_far = c.loop-text.invariant plain in
    has_written_of_eq _ _ _ _ _ (one-more string _ c.loop-text.text-index c.text-item.result c.loop-text-test.true c.text-item.is)
    (has_written_append _ _ _ _ _ _ so_far (c.in_ok-write-2.ensures.writes so_far.plain refl))

pub returns-clause-writes : goal.returns-clause-writes
returns-clause-writes g c = λ plain ok.
    let begun = c.in_ok-write.ensures.writes plain refl in
    let so_far = c.loop-text.invariant begun.plain in
    has_written_of_eq _ _ _ _ _ (written_whole string c.args.self.now.0.now c.first-item.result c.loop-text.text-index c.in-len1-up.len_at_least c.first-item.is c.loop-text-test.false)
    (has_written_append _ _ _ _ _ _ (has_written_append _ _ _ _ _ _ begun so_far) (c.write_str-2.ensures.writes so_far.plain ok))
