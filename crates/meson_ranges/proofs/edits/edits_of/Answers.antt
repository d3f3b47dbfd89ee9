use Rattle.std.proofs.Common.{ℕ, ◌+◌, List, ap, drop, length, subst, subst₂, sym, ◌∙◌, arith}
use Rattle.meson_ranges.specs.Trimming.{TextEdit}
use Rattle.meson_ranges.specs.declared.edits.Run.{Run}
use Rattle.meson_ranges.proofs.Runs.{IsUnderWay, begun, new_fits, next_entry, old_fits, one_changed, one_kept}
use Rattle.meson_ranges.proofs.edits.edits_of.Goals as goal
use Rattle.meson_ranges.proofs.edits.edits_of.Goals.{then-is_changed, else-is_changed+in_ok-push_run}

pub loop-entry-init : goal.loop-entry-init
loop-entry-init c =
    subst (IsUnderWay c.args.old.now c.args.new.now c.args.entries.now c.args.entries.now 0 0 0 0) (sym c.new-edits.ensures.items)
    (begun c.args.old.now c.args.new.now c.args.entries.now c.requires)

pub with-run-requires-clause-old_fits : goal.with-run-requires-clause-old_fits
with-run-requires-clause-old_fits c =
    let old = c.args.old.now in
    let new = c.args.new.now in
    let entries = c.args.entries.now in
    let run = c.loop-entry.run in
    let e = c.entry-item.result in
    let rest = drop (c.loop-entry.entry-index + 1) entries in
    let here = next_entry entries c.loop-entry.entry-index e c.loop-entry-test.true c.entry-item.is in
    let is = subst (λ es. IsUnderWay old new entries es run.old_at run.new_at run.removed run.added c.loop-entry.edits.items) here c.loop-entry.invariant in
    omega (arith, old_fits old new entries rest e run.old_at run.new_at run.removed run.added c.loop-entry.edits.items is)

pub with-run-requires-clause-new_fits : goal.with-run-requires-clause-new_fits
with-run-requires-clause-new_fits c =
    let old = c.args.old.now in
    let new = c.args.new.now in
    let entries = c.args.entries.now in
    let run = c.loop-entry.run in
    let e = c.entry-item.result in
    let rest = drop (c.loop-entry.entry-index + 1) entries in
    let here = next_entry entries c.loop-entry.entry-index e c.loop-entry-test.true c.entry-item.is in
    let is = subst (λ es. IsUnderWay old new entries es run.old_at run.new_at run.removed run.added c.loop-entry.edits.items) here c.loop-entry.invariant in
    omega (arith, new_fits old new entries rest e run.old_at run.new_at run.removed run.added c.loop-entry.edits.items is)

pub loop-entry-preserved : goal.loop-entry-preserved
loop-entry-preserved c =
    let old = c.args.old.now in
    let new = c.args.new.now in
    let entries = c.args.entries.now in
    let run = c.loop-entry.run in
    let e = c.entry-item.result in
    let rest = drop (c.loop-entry.entry-index + 1) entries in
    let here = next_entry entries c.loop-entry.entry-index e c.loop-entry-test.true c.entry-item.is in
    let is = subst (λ es. IsUnderWay old new entries es run.old_at run.new_at run.removed run.added c.loop-entry.edits.items) here c.loop-entry.invariant in
    let so_far : Run → List TextEdit → Type 0 =
    λ r es. IsUnderWay old new entries rest r.old_at r.new_at r.removed r.added es in
    elim c.if-is_changed.branch as (λ _. so_far c.if-is_changed.run c.if-is_changed.edits.items) [
      | then-is_changed w ↦
          subst₂ so_far (sym (w.run-is ∙ w.with-run.ensures)) (sym (ap (λ v. v.items) w.edits-is))
          (one_changed old new entries rest e run.old_at run.new_at run.removed run.added c.loop-entry.edits.items
          (sym c.is_changed.ensures ∙ w.if-is_changed.true) is)
      | else-is_changed+in_ok-push_run w ↦
          let next : ℕ → Run = λ n. record { old_at = run.old_at + run.removed + n; new_at = run.new_at + run.added + n; removed = 0; added = 0 } in
          subst₂ so_far (sym (w.run-is ∙ w.after-run.ensures ∙ ap (λ l. next (length l)) w.text.ensures)) (sym (ap (λ v. v.items) w.edits-is))
          (one_kept old new entries rest e run.old_at run.new_at run.removed run.added c.loop-entry.edits.items w.push_run.new.edits.items
          (sym c.is_changed.ensures ∙ w.if-is_changed.false) is w.in_ok-push_run.ensures)
    ]
