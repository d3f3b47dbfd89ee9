use Rattle.meson_steps.specs.declared.step.ListEdit.TheVariants as code
use Rattle.meson_sources.proofs.extra_edits.into_new_list.Goals as goal
use Rattle.meson_sources.proofs.Words.{OnOk, [], ap, append_assoc, arith, drop, length, map, Option, Some, subst, sym, take, ◌++◌, ◌-◌, ◌∙◌, ◌∷◌, ◌≡◌}
use Rattle.meson_sources.proofs.Words.{drop-cons, length-drop, map-append, take_all, After, bare, step_in, ListStep, insertion_steps, written_keyword}
use Rattle.meson_sources.proofs.Words.{new_list_steps}

pub returns-clause-done : goal.returns-clause-done
returns-clause-done c =
    let names = c.args.names.now in
    let call = c.args.call.now in
    let n = c.args.arguments in
    let x = c.index-names-0.result in
    let old = c.args.steps.now.items in
    let step : ListStep = record { list = c.in_ok-list.list; edit = code.After c.saturating_sub.result c.in_ok-new.new } in
    let rest = take (length names - 1) (drop 1 names) in
    let rest_is : rest ≡ drop 1 names = take_all (length names - 1) (drop 1 names) (omega (arith, length-drop 1 names)) in
    let some_step : ListStep → Option ListStep = λ s. Some s in
    let later = map bare (insertion_steps c.in_ok-list-2.list 1 (map (λ x. x.now) rest)) in
    let whole : names ≡ x ∷ drop 1 names = drop-cons names 0 x c.requires ∙ ap (λ y. y ∷ drop 1 names) (sym c.index-names-0.is) in
    let done : OnOk c.insert.result (map Some c.insert.new.steps.items ≡ map Some c.push_step.new.steps.items ++ later) = c.insert.ensures.done in
    let first =
    ap (λ l. some_step (record { list = l; edit = code.After c.saturating_sub.result c.in_ok-new.new })) c.in_ok-list.ensures
    ∙ ap (λ k. some_step (record { list = call; edit = code.After k c.in_ok-new.new })) c.saturating_sub.ensures
    ∙ ap (λ b. some_step (record { list = call; edit = code.After (n - 1) b })) c.in_ok-new.ensures.done in
    let all =
    ap (λ xs. map Some xs ++ later) c.in_ok-push_step.ensures.added ∙ ap (λ xs. xs ++ later) (map-append Some old (step ∷ [])) ∙ append_assoc (map Some old) (Some step ∷ []) later
    ∙ ap (λ o. map Some old ++ (o ∷ later)) first
    ∙ ap (λ l. map Some old ++ (bare (step_in call (After call.path.steps (n - 1) (written_keyword x.now))) ∷ map bare (insertion_steps l 1 (map (λ x. x.now) rest)))) c.in_ok-list-2.ensures
    ∙ ap (λ r. map Some old ++ map bare (new_list_steps call n (x.now ∷ map (λ x. x.now) r))) rest_is
    ∙ ap (λ xs. map Some old ++ map bare (new_list_steps call n (map (λ x. x.now) xs))) (sym whole) in
    subst (λ xs. OnOk c.insert.result (map Some c.insert.new.steps.items ≡ xs)) all done
