-- Each key and its new value become one task.
use Rattle.meson_keywords.proofs.Words.{◌+◌, drop, refl, sym, ap, ◌∙◌, subst, err_from_is_err_and, each_made, set_entry, TasksSoFar}
use Rattle.meson_keywords.proofs.TasksSoFar.{none_so_far, not_made, one_is, one_made, set_made, set_no_kind, set_no_value, value_may}
use Rattle.meson_keywords.proofs.tasks.set_tasks.Goals as goal

pub returns-in_err-kind-clause-refused : goal.returns-in_err-kind-clause-refused
returns-in_err-kind-clause-refused c =
    let error = err_from_is_err_and c.from_residual.result c.from_residual.ensures.1 in
    let make = set_entry c.args.role in
    rw (error.1, error.2) (λ other.
    not_made make c.args.pairs.now (each_made make c.args.pairs.now) c.loop-i.tasks.items c.loop-i.i c.loop-i.invariant c.index-pairs-i.result c.loop-i-test.true c.in_err-kind.field-0.0
    (ap make (sym c.index-pairs-i.is) ∙ set_no_kind c.args.role c.index-pairs-i.result c.in_err-kind.field-0.0 (c.in_err-kind.ensures.refused other)))

pub returns-in_err-new-clause-refused : goal.returns-in_err-new-clause-refused
returns-in_err-new-clause-refused c =
    let error = err_from_is_err_and c.from_residual-in_err-new.result c.from_residual-in_err-new.ensures.1 in
    let make = set_entry c.args.role in
    rw (error.1, error.2) (λ other.
    not_made make c.args.pairs.now (each_made make c.args.pairs.now) c.loop-i.tasks.items c.loop-i.i c.loop-i.invariant c.index-pairs-i.result c.loop-i-test.true c.in_err-new.field-0.0
    (ap make (sym c.index-pairs-i.is) ∙ set_no_value c.args.role c.index-pairs-i.result c.in_ok-kind.kind c.in_ok-kind.ensures.found c.in_err-new.field-0.0 (c.in_err-new.ensures.refused other)))

pub loop-i-init : goal.loop-i-init
loop-i-init c = let whole = each_made (set_entry c.args.role) c.args.pairs.now in subst (TasksSoFar whole whole) (sym c.new-tasks.ensures.items) (none_so_far whole)

pub loop-i-preserved : goal.loop-i-preserved
loop-i-preserved c =
    let whole = each_made (set_entry c.args.role) c.args.pairs.now in
    let here = set_made c.args.role c.index-pairs-i.result c.in_ok-kind.kind c.in_ok-kind.ensures.found _ c.in_ok-new.ensures.done.is in
    subst (TasksSoFar whole (each_made (set_entry c.args.role) (drop (c.loop-i.i + 1) c.args.pairs.now))) (sym c.in_ok-push_task.ensures)
    (one_made (set_entry c.args.role) c.args.pairs.now whole c.loop-i.tasks.items c.loop-i.i c.loop-i.invariant c.index-pairs-i.result c.loop-i-test.true _ _ (ap (set_entry c.args.role) (sym c.index-pairs-i.is) ∙ here) (one_is _ _ (c.in_ok-new.ensures.done.new, refl) (c.in_ok-kind.ensures.key, value_may _ c.in_ok-new.ensures.done.new)))
