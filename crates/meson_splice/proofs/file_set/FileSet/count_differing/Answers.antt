use Rattle.std.proofs.Common.{◌≡◌, ◌<◌, ◌≤◌, ◌+◌, length, drop, ap, sym, ◌∙◌, arith}
use Rattle.std.proofs.lemmas.List.{length-map}
use Rattle.meson_splice.specs.Files.{differing}
use Rattle.meson_splice.proofs.Counts.{count_more, count_kept, count_ended}
use Rattle.meson_splice.proofs.file_set.FileSet.count_differing.Goals.{then-ne, else-ne}
use Rattle.meson_splice.proofs.file_set.FileSet.count_differing.Goals as goal

pub loop-i-init : goal.loop-i-init
loop-i-init c = record { fits = omega arith; counted = omega arith }

pub loop-i-preserved : goal.loop-i-preserved
loop-i-preserved c =
    let l = c.loop-i in
    let before = c.args.self.now in
    let after = c.args.after.now in
    let after_has : l.i < length after = omega (arith, c.loop-i-test.true, c.len-i-end.ensures) in
    let as_many : length before ≡ length after = sym (length-map before (λ f. f.name)) ∙ ap length c.requires ∙ length-map after (λ f. f.name) in
    let before_has : l.i < length before = omega (arith, after_has, as_many) in
    let rest = differing (drop (l.i + 1) before) (drop (l.i + 1) after) in
    elim c.if-ne.branch [
      | then-ne w ↦
          record {
            fits = let is : c.if-ne.count ≡ l.count + 1 = w.count-is in omega (arith, is, l.invariant.fits);
            counted = ap (λ n. n + rest) w.count-is
                ∙ count_more before after l.i c.bytes.result.now c.bytes-in-loop-i.result.now c.ne.result before_has after_has c.bytes.ensures c.bytes-in-loop-i.ensures c.ne.ensures l.count (differing before after) l.invariant.counted w.if-ne.true;
          }
      | else-ne w ↦
          record {
            fits = let is : c.if-ne.count ≡ l.count = w.count-is in omega (arith, is, l.invariant.fits);
            counted = ap (λ n. n + rest) w.count-is
                ∙ count_kept before after l.i c.bytes.result.now c.bytes-in-loop-i.result.now c.ne.result before_has after_has c.bytes.ensures c.bytes-in-loop-i.ensures c.ne.ensures l.count (differing before after) l.invariant.counted w.if-ne.false;
          }
    ]

pub returns : goal.returns
returns c =
    let l = c.loop-i in
    let before = c.args.self.now in
    let after = c.args.after.now in
    let past : length after ≤ l.i = omega arith in
    let as_many : length before ≡ length after = sym (length-map before (λ f. f.name)) ∙ ap length c.requires ∙ length-map after (λ f. f.name) in
    let before_past : length before ≤ l.i = omega (arith, past, as_many) in
    count_ended before after l.i l.count (differing before after) before_past past l.invariant.counted
