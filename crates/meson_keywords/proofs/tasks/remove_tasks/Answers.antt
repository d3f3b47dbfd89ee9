-- Each entry is taken apart into tasks, one entry after another.
use Rattle.meson_keywords.proofs.Words.{◌+◌, drop, sym, ap, ◌∙◌, subst, err_from_is_err_and, each_made, remove_entry, TasksSoFar}
use Rattle.meson_keywords.proofs.TasksSoFar.{none_so_far, not_made, one_made}
use Rattle.meson_keywords.proofs.tasks.remove_tasks.Goals as goal

pub loop-i-init : goal.loop-i-init
loop-i-init c = let whole = each_made (remove_entry c.args.role) c.args.pairs.now in subst (TasksSoFar whole whole) (sym c.new-tasks.ensures.items) (none_so_far whole)

pub returns-in_err-remove_one-clause-refused : goal.returns-in_err-remove_one-clause-refused
returns-in_err-remove_one-clause-refused c =
    let error = err_from_is_err_and c.from_residual.result c.from_residual.ensures.1 in
    rw (error.1, error.2) (λ other.
    let make = remove_entry c.args.role in
    not_made make c.args.pairs.now (each_made make c.args.pairs.now) c.loop-i.tasks.items c.loop-i.i c.loop-i.invariant c.index-pairs-i.result c.loop-i-test.true c.in_err-remove_one.field-0.0
    (ap make (sym c.index-pairs-i.is) ∙ c.in_err-remove_one.ensures.refused other))

pub loop-i-preserved : goal.loop-i-preserved
loop-i-preserved c =
    let make = remove_entry c.args.role in
    let whole = each_made make c.args.pairs.now in
    let b = c.in_ok-remove_one.ensures.made in
    subst (TasksSoFar whole (each_made make (drop (c.loop-i.i + 1) c.args.pairs.now))) (sym b.joined)
    (one_made make c.args.pairs.now whole c.loop-i.tasks.items c.loop-i.i c.loop-i.invariant c.index-pairs-i.result c.loop-i-test.true b.are.tasks b.more (ap make (sym c.index-pairs-i.is) ∙ b.are.is) b.are.are)
