use Rattle.std.proofs.Common.{◌+◌, ◌∙◌, ap, cond, sym, take, arith}
use Rattle.std.proofs.lemmas.List.{length-take}
use Rattle.meson_diff.specs.Alignment.{is_new, is_old}
use Rattle.meson_diff.proofs.Counting.{new_counted, new_within, old_counted, old_within}
use Rattle.meson_diff.proofs.Written.{hunk_written, nothing_written}
use Rattle.meson_diff.proofs.hunk.push_hunks.Goals.{then-begins_hunk+in_ok-push_hunk, else-begins_hunk}
use Rattle.meson_diff.proofs.hunk.push_hunks.Goals as goal

pub add-requires-clause-old_fits : goal.add-requires-clause-old_fits
add-requires-clause-old_fits c =
    omega (arith, old_within (take c.loop-i.i c.args.entries.now), length-take c.loop-i.i c.args.entries.now, c.loop-i.invariant.of_old)

pub add-requires-clause-new_fits : goal.add-requires-clause-new_fits
add-requires-clause-new_fits c =
    omega (arith, new_within (take c.loop-i.i c.args.entries.now), length-take c.loop-i.i c.args.entries.now, c.loop-i.invariant.of_new)

pub loop-i-preserved : goal.loop-i-preserved
loop-i-preserved c =
    let entries = c.args.entries.now in
    let start = c.args.to.now.items in
    let i = c.loop-i.i in
    let e = c.index-entries-i.result in
    record {
      written = elim c.if-begins_hunk.branch [
        | then-begins_hunk+in_ok-push_hunk w ↦
            hunk_written entries i start c.loop-i.to.items c.if-begins_hunk.to.items (sym c.begins_hunk.ensures ∙ w.if-begins_hunk.true) c.loop-i.invariant.written
            (ap (λ v. v.items) w.to-is ∙ w.in_ok-push_hunk.ensures)
        | else-begins_hunk w ↦
            ap (λ v. v.items) w.to-is
            ∙ nothing_written entries i start c.loop-i.to.items (sym c.begins_hunk.ensures ∙ w.if-begins_hunk.false) c.loop-i.invariant.written
      ];
      of_old = c.add.ensures.of_old ∙ ap (λ n. n + cond (is_old e.mark) 1 0) c.loop-i.invariant.of_old ∙ sym (old_counted entries i e c.loop-i-test.true c.index-entries-i.is);
      of_new = c.add.ensures.of_new ∙ ap (λ n. n + cond (is_new e.mark) 1 0) c.loop-i.invariant.of_new ∙ sym (new_counted entries i e c.loop-i-test.true c.index-entries-i.is);
    }
