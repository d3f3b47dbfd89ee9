use Rattle.meson_keywords.proofs.Words.{◌++◌, ◌∷◌, [], map, refl, sym, ap, ◌∙◌, Some, Argument, Nowhere, Wrap, Written, bare, step_in, behind_all, set_in_lone}
use Rattle.meson_keywords.proofs.Words.{written_element}
use Rattle.meson_keywords.specs.declared.value_kinds.ElementKind.TheVariants as element
use Rattle.meson_keywords.proofs.StepsBehind.{then_more}
use Rattle.meson_keywords.proofs.option_steps.set_in_lone.Goals as goal

pub returns-clause-done : goal.returns-clause-done
returns-clause-done c =
    let call = c.args.subject.call.now in
    let n = c.args.found.number in
    let old = c.args.steps.now.items in
    let it : Written (Argument Nowhere) = written_element element.Text c.args.entry.now in
    let l = c.in_ok-list.list in
    then_more old c.push_edit-2.new.steps.items c.put_behind.new.steps.items _ (step_in call (Wrap call.path.steps n)) (behind_all l 1 it ∷ []) c.in_ok-push_edit-2.ensures refl (c.in_ok-put_behind.ensures it (sym c.in_ok-new.ensures.done))
    ∙ ap (λ p. map Some old ++ map bare (step_in call (Wrap call.path.steps n) ∷ behind_all p 1 it ∷ [])) c.in_ok-list.ensures
    ∙ ap (λ b. map Some old ++ map bare (set_in_lone call n c.args.entry.now b)) (sym (sym c.in_ok-is_entry.ensures ∙ c.if-branch.false))
