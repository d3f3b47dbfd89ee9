use Rattle.meson_keywords.proofs.Words.{map, sym, subst, IfOk, args_view, RefusedAs, AreMeant, task_steps, TaskIs, add}
use Rattle.meson_keywords.proofs.changing.task_steps.Goals as goal

pub returns-in-Set-clause-meant : goal.returns-in-Set-clause-meant
returns-in-Set-clause-meant c = λ t is.
    let s = c.args.subject in
    let it = subst (λ k. TaskIs k t) c.in-Set.is is in
    subst (λ u. IfOk c.set_steps.result (λ steps. AreMeant (task_steps u s.call.now (args_view s.source.now s.args.now)) steps.items)) (sym it.1) (c.set_steps.ensures.meant it.0)

pub returns-in-Set-clause-refused : goal.returns-in-Set-clause-refused
returns-in-Set-clause-refused c = λ t is.
    let s = c.args.subject in
    let it = subst (λ k. TaskIs k t) c.in-Set.is is in
    subst (λ u. RefusedAs c.set_steps.result (task_steps u s.call.now (args_view s.source.now s.args.now))) (sym it.1) (c.set_steps.ensures.refused it.0)

pub returns-in-Add-clause-refused : goal.returns-in-Add-clause-refused
returns-in-Add-clause-refused c = λ t is.
    let s = c.args.subject in
    let it = subst (λ k. TaskIs k t) c.in-Add.is is in
    let xs = args_view s.source.now s.args.now in
    subst (λ u. RefusedAs c.add_steps.result (task_steps u s.call.now xs)) (sym it)
    (subst (λ vs. RefusedAs c.add_steps.result (task_steps (add c.in-Add.key.now c.in-Add.kind (map (λ x. x.now) vs)) s.call.now xs)) c.as_slice.ensures.value c.add_steps.ensures.refused)
