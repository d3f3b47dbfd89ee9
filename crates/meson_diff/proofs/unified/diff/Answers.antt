use Rattle.std.proofs.Common.{◌+◌, ◌<◌, ◌≤◌, ◌++◌, [], length, sym, subst, subst₂, ◌∙◌, ap, arith}
use Rattle.std.proofs.lemmas.List.{append-nil, drop_all}
use Rattle.meson_diff.specs.Diff.{IsDiff, no_files}
use Rattle.meson_diff.proofs.Files.{IsUnderWay, as_many, file_more}
use Rattle.meson_diff.proofs.unified.diff.Goals as goal

pub loop-i-preserved : goal.loop-i-preserved
loop-i-preserved c =
    let old = c.args.old.now in
    let new = c.args.new.now in
    let many = as_many old new c.requires.same_files in
    let in_old : c.loop-i.i < length old = omega (arith, c.len-i-end.ensures, c.loop-i-test.true) in
    let in_new : c.loop-i.i < length new = omega (arith, in_old, many) in
    let more = file_more old new c.loop-i.i c.loop-i.text.items c.name.result.now c.bytes.result.now c.bytes-in-loop-i.result.now c.in_ok-of_file.of_file.items
    in_old in_new c.name.ensures c.bytes.ensures c.bytes-in-loop-i.ensures c.in_ok-of_file.ensures c.loop-i.invariant in
    subst (IsUnderWay old new (c.loop-i.i + 1)) (sym (c.in_ok-extend_from_slice.ensures.items ∙ ap (λ l. c.loop-i.text.items ++ l) c.as_slice.ensures.value)) more

pub returns : goal.returns
returns c =
    let old = c.args.old.now in
    let new = c.args.new.now in
    let many = as_many old new c.requires.same_files in
    let old_done : length old ≤ c.loop-i.i = omega (arith, c.len-i-end.ensures, c.loop-i-test.false) in
    let new_done : length new ≤ c.loop-i.i = omega (arith, old_done, many) in
    subst (IsDiff old new) (append-nil c.loop-i.text.items)
    (c.loop-i.invariant [] (subst₂ (λ os ns. IsDiff os ns []) (sym (drop_all c.loop-i.i old old_done)) (sym (drop_all c.loop-i.i new new_done)) no_files))
