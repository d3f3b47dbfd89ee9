-- One entry: the key once, and then a task for each value.
use Rattle.meson_keywords.proofs.Words.{◌≡◌, ◌<◌, ◌≤◌, ◌∷◌, List, ℕ, length, get_or, map, refl, sym, ap, ◌∙◌, subst, arith, Ok, get_or-map, length-map}
use Rattle.meson_keywords.proofs.Words.{take_all, err_from_is_err_and, once, remove, AreTasksBehind}
use Rattle.meson_keywords.proofs.TasksSoFar.{behind_one, behind_more, more_removed, remove_made, remove_no_list, remove_no_values}
use Rattle.meson_keywords.proofs.tasks.remove_one.Goals as goal

pub returns-in_err-kind-clause-refused : goal.returns-in_err-kind-clause-refused
returns-in_err-kind-clause-refused c =
    let error = err_from_is_err_and c.from_residual.result c.from_residual.ensures.1 in
    rw (error.1, error.2) (λ other. remove_no_list c.args.role c.args.pair.now c.in_err-kind.field-0.0 (c.in_err-kind.ensures.refused other))

pub returns-in_err-values-clause-refused : goal.returns-in_err-values-clause-refused
returns-in_err-values-clause-refused c =
    let error = err_from_is_err_and c.from_residual-in_err-values.result c.from_residual-in_err-values.ensures.1 in
    rw (error.1, error.2) (λ other. remove_no_values c.args.role c.args.pair.now c.in_ok-kind.kind c.in_ok-kind.ensures.found c.in_err-values.field-0.0 (c.in_err-values.ensures.refused other))

pub loop-i-init : goal.loop-i-init
loop-i-init c = behind_one c.args.tasks.now.items c.push_task.new.tasks.items _ (once c.args.pair.now.0) c.in_ok-push_task.ensures refl tt

pub loop-i-preserved : goal.loop-i-preserved
loop-i-preserved c =
    let vs : List (List ℕ) = map (λ x. x.now) c.in_ok-values.values.items in
    let x = c.index.result.now.now in
    let i = c.loop-i.i in
    let test : i < length c.in_ok-values.values.items = omega (arith, c.loop-i-test.true, c.len-i-end.ensures) in
    let within : i < length vs = omega (arith, test, length-map c.in_ok-values.values.items (λ v. v.now)) in
    let read : get_or vs i x ≡ x = get_or-map (λ v. v.now) c.in_ok-values.values.items i c.index.result.now x test ∙ ap (λ v. v.now) (sym c.index.ensures) in
    behind_more c.args.tasks.now.items c.loop-i.tasks.items c.push_task-in-loop-i.new.tasks.items _ _ _ (remove c.args.pair.now.0 c.in_ok-kind.kind x) c.loop-i.invariant c.in_ok-push_task-2.ensures refl tt
    (more_removed c.args.pair.now.0 c.in_ok-kind.kind vs i x within read)

pub returns-clause-made : goal.returns-clause-made
returns-clause-made c =
    let vs : List (List ℕ) = map (λ x. x.now) c.in_ok-values.values.items in
    let key = c.args.pair.now.0 in
    let k = c.in_ok-kind.kind in
    let past : length vs ≤ c.loop-i.i = omega (arith, c.loop-i-test.false, c.len-i-end.ensures, length-map c.in_ok-values.values.items (λ v. v.now)) in
    subst (λ r. AreTasksBehind r c.args.tasks.now.items c.loop-i.tasks.items)
    (ap (λ ys. Ok (once key ∷ map (remove key k) ys)) (take_all c.loop-i.i vs past) ∙ sym (remove_made c.args.role c.args.pair.now k c.in_ok-kind.ensures.found vs c.in_ok-values.ensures.found))
    c.loop-i.invariant
