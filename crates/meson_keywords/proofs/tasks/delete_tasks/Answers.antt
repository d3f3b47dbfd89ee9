-- Each key becomes one task.
use Rattle.meson_keywords.proofs.Words.{◌+◌, drop, refl, sym, ap, ◌∙◌, subst, err_from_is_err_and, each_made, delete_entry, TasksSoFar}
use Rattle.meson_keywords.proofs.TasksSoFar.{none_so_far, not_made, one_is, one_made, delete_made, delete_no_kind}
use Rattle.meson_keywords.proofs.tasks.delete_tasks.Goals as goal

pub loop-i-init : goal.loop-i-init
loop-i-init c = let whole = each_made (delete_entry c.args.role) c.args.keys.now in subst (TasksSoFar whole whole) (sym c.new-tasks.ensures.items) (none_so_far whole)

pub loop-i-preserved : goal.loop-i-preserved
loop-i-preserved c =
    let whole = each_made (delete_entry c.args.role) c.args.keys.now in
    let here = delete_made c.args.role c.index-keys-i.result c.in_ok-kind_of.field-0 c.in_ok-kind_of.ensures.found in
    subst (TasksSoFar whole (each_made (delete_entry c.args.role) (drop (c.loop-i.i + 1) c.args.keys.now))) (sym c.in_ok-push_task.ensures)
    (one_made (delete_entry c.args.role) c.args.keys.now whole c.loop-i.tasks.items c.loop-i.i c.loop-i.invariant c.index-keys-i.result c.loop-i-test.true _ _ (ap (delete_entry c.args.role) (sym c.index-keys-i.is) ∙ here) (one_is _ _ refl tt))

pub returns-in_err-kind_of-clause-refused : goal.returns-in_err-kind_of-clause-refused
returns-in_err-kind_of-clause-refused c =
    let error = err_from_is_err_and c.from_residual.result c.from_residual.ensures.1 in
    let make = delete_entry c.args.role in
    rw (error.1, error.2) (λ other.
    not_made make c.args.keys.now (each_made make c.args.keys.now) c.loop-i.tasks.items c.loop-i.i c.loop-i.invariant c.index-keys-i.result c.loop-i-test.true c.in_err-kind_of.field-0.0
    (ap make (sym c.index-keys-i.is) ∙ delete_no_kind c.args.role c.index-keys-i.result c.in_err-kind_of.field-0.0 (c.in_err-kind_of.ensures.refused other)))
