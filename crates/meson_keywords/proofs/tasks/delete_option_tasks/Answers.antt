-- Each option becomes one task.
use Rattle.meson_keywords.proofs.Words.{◌+◌, drop, refl, sym, ap, ◌∙◌, subst, err_from_is_err_and, each_made, delete_option_entry, TasksSoFar}
use Rattle.meson_keywords.proofs.TasksSoFar.{none_so_far, not_made, one_is, one_made, delete_no_option, delete_option_made}
use Rattle.meson_keywords.proofs.tasks.delete_option_tasks.Goals as goal

pub loop-i-init : goal.loop-i-init
loop-i-init c = let whole = each_made delete_option_entry c.args.names.now in subst (TasksSoFar whole whole) (sym c.new-tasks.ensures.items) (none_so_far whole)

pub loop-i-preserved : goal.loop-i-preserved
loop-i-preserved c =
    let whole = each_made delete_option_entry c.args.names.now in
    let here = delete_option_made c.index-names-i.result (sym c.checked_option.ensures.checked ∙ c.in_ok-checked_option.was) in
    subst (TasksSoFar whole (each_made delete_option_entry (drop (c.loop-i.i + 1) c.args.names.now))) (sym c.in_ok-push_task.ensures)
    (one_made delete_option_entry c.args.names.now whole c.loop-i.tasks.items c.loop-i.i c.loop-i.invariant c.index-names-i.result c.loop-i-test.true _ _ (ap delete_option_entry (sym c.index-names-i.is) ∙ here) (one_is _ _ refl tt))

pub returns-in_err-checked_option-clause-refused : goal.returns-in_err-checked_option-clause-refused
returns-in_err-checked_option-clause-refused c =
    let error = err_from_is_err_and c.from_residual.result c.from_residual.ensures.1 in
    let make = delete_option_entry in
    rw (error.1, error.2) (λ other.
    not_made make c.args.names.now (each_made make c.args.names.now) c.loop-i.tasks.items c.loop-i.i c.loop-i.invariant c.index-names-i.result c.loop-i-test.true c.in_err-checked_option.field-0.0
    (ap make (sym c.index-names-i.is) ∙ delete_no_option c.index-names-i.result c.in_err-checked_option.field-0.0 (sym c.checked_option.ensures.checked ∙ c.in_err-checked_option.was)))
