use Rattle.std.proofs.Common.{◌+◌, ◌<◌, ◌≤◌, [], ap, length, subst, subst₂, sym, ◌∙◌, arith}
use Rattle.std.proofs.lemmas.List.{append-nil, drop_all}
use Rattle.meson_diff.proofs.Files.{as_many}
use Rattle.meson_ranges.specs.Files.{AreFileEdits, no_files}
use Rattle.meson_ranges.proofs.Compared.{IsUnderWay, one_differs, one_equal, other_bytes, same_bytes}
use Rattle.meson_ranges.specs.declared.files.FileEdits.{FileEdits}
use Rattle.meson_ranges.proofs.files.compare.Goals as goal
use Rattle.meson_ranges.proofs.files.compare.Goals.{then-ne+in_ok-edits+in_ok-push, else-ne}

pub loop-i-preserved : goal.loop-i-preserved
loop-i-preserved c =
    let old = c.args.old.now in
    let new = c.args.new.now in
    let i = c.loop-i.i in
    let many = as_many old new c.requires.same_files in
    let in_old : i < length old = omega (arith, c.len-i-end.ensures, c.loop-i-test.true) in
    let in_new : i < length new = omega (arith, in_old, many) in
    let was = c.bytes-was.result.now in
    let now = c.bytes-now.result.now in
    elim c.if-ne.branch as (λ _. IsUnderWay old new (i + 1) c.if-ne.changes.items) [
      | then-ne+in_ok-edits+in_ok-push w ↦
          let change : FileEdits = record { name = w.name.result; edits = w.in_ok-edits.edits } in
          subst (IsUnderWay old new (i + 1)) (sym (ap (λ v. v.items) w.changes-is ∙ w.in_ok-push.ensures.items))
          (one_differs old new i c.loop-i.changes.items change was now in_old in_new c.bytes-was.ensures c.bytes-now.ensures
          (other_bytes was now (sym c.ne.ensures ∙ w.if-ne.true)) w.name.ensures w.in_ok-edits.ensures c.loop-i.invariant)
      | else-ne w ↦
          subst (IsUnderWay old new (i + 1)) (sym (ap (λ v. v.items) w.changes-is))
          (one_equal old new i c.loop-i.changes.items was now in_old in_new c.bytes-was.ensures c.bytes-now.ensures
          (same_bytes was now (sym c.ne.ensures ∙ w.if-ne.false)) c.loop-i.invariant)
    ]

pub returns : goal.returns
returns c =
    let old = c.args.old.now in
    let new = c.args.new.now in
    let i = c.loop-i.i in
    let many = as_many old new c.requires.same_files in
    let old_done : length old ≤ i = omega (arith, c.len-i-end.ensures, c.loop-i-test.false) in
    let new_done : length new ≤ i = omega (arith, old_done, many) in
    subst (AreFileEdits old new) (append-nil c.loop-i.changes.items)
    (c.loop-i.invariant [] (subst₂ (λ os ns. AreFileEdits os ns []) (sym (drop_all i old old_done)) (sym (drop_all i new new_done)) no_files))
