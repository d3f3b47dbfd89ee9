use Rattle.meson_keywords.proofs.Words.{◌≡◌, ◌∷◌, List, ℕ, map, refl, sym, ap, ◌∙◌, Err, Ok, expr_view, Wrap, child, step_in, add_to_lone, all_behind, text_in}
use Rattle.meson_keywords.proofs.Words.{written_element}
use Rattle.meson_keywords.proofs.StepsBehind.{add_none, behind_result, some_there, then_result}
use Rattle.meson_keywords.proofs.keyword_steps.add_to_lone.Goals as goal

pub returns-then-not-branch-clause-refused : goal.returns-then-not-branch-clause-refused
returns-then-not-branch-clause-refused c = λ other.
    let o = text_in c.args.kind (expr_view c.args.subject.source.now c.args.found.value.now) in
    let values : List (List ℕ) = map (λ x. x.now) c.args.values.now in
    add_none c.args.subject.call.now c.args.found.number c.args.key.now c.args.kind values o (sym c.in_ok-is_element.ensures ∙ c.if-not-branch.true)
    ∙ ap Err (sym c.in_ok-not_literal.ensures)

pub returns-clause-done : goal.returns-clause-done
returns-clause-done c =
    let call = c.args.subject.call.now in
    let n = c.args.found.number in
    let k = c.args.kind in
    let o = text_in k (expr_view c.args.subject.source.now c.args.found.value.now) in
    let values : List (List ℕ) = map (λ x. x.now) c.args.values.now in
    let given : List (List ℕ) = map (λ x. x.now) c.as_slice.result.now in
    let text = some_there o (sym c.in_ok-is_element.ensures ∙ c.if-not-branch.false) in
    let same : given ≡ map (λ x. x.now) c.in_ok-new.new.items = ap (λ xs. map (λ x. x.now) xs) c.as_slice.ensures.value in
    let l = c.in_ok-list.list in
    let w = step_in call (Wrap call.path.steps n) in
    behind_result c.put_all_behind.result _ (w ∷ all_behind l 1 (map (written_element k) given)) c.args.steps.now.items c.put_all_behind.new.steps.items
    (ap (add_to_lone call n c.args.key.now k values) text.1
    ∙ ap (λ ts. Ok (w ∷ all_behind (child call n) 1 (map (written_element k) ts))) (sym (same ∙ c.in_ok-new.ensures text.0 text.1))
    ∙ ap (λ p. Ok (w ∷ all_behind p 1 (map (written_element k) given))) (sym c.in_ok-list.ensures))
    (then_result c.put_all_behind.result c.args.steps.now.items c.push_edit.new.steps.items c.put_all_behind.new.steps.items _ w (all_behind l 1 (map (written_element k) given)) c.in_ok-push_edit.ensures refl
    c.put_all_behind.ensures.done)
