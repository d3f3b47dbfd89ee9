use Rattle.meson_keywords.proofs.Words.{◌≡◌, List, ℕ, length, map, sym, ap, ◌∙◌, subst, Ok, OnOk, length-map, arg_view, args_view, expr_view, child, RefusedAs}
use Rattle.meson_keywords.proofs.Words.{AreBehind, add_by_shape, all_behind, text_in, written_element}
use Rattle.meson_keywords.proofs.StepsBehind.{behind_result}
use Rattle.meson_keywords.proofs.keyword_steps.add_to_value.Goals as goal

pub new_values-requires : goal.new_values-requires
new_values-requires c = c.in-Some.ensures.good c.args.subject.source.now c.requires.good

pub returns-in_ok-list-in-Some-clause-done : goal.returns-in_ok-list-in-Some-clause-done
returns-in_ok-list-in-Some-clause-done c =
    let source = c.args.subject.source.now in
    let call = c.args.subject.call.now in
    let k = c.args.kind in
    let o = text_in k (expr_view source c.args.found.value.now) in
    let values : List (List ℕ) = map (λ x. x.now) c.args.values.now in
    let given : List (List ℕ) = map (λ x. x.now) c.as_slice.result.now in
    let same : given ≡ map (λ x. x.now) c.in_ok-new-in-Some.new.items = ap (λ xs. map (λ x. x.now) xs) c.as_slice.ensures.value in
    let many = length-map c.in-Some.elements.now (arg_view source) in
    let l = c.in_ok-list-in-Some.list in
    behind_result c.put_all_behind.result _ (all_behind l (length c.in-Some.elements.now) (map (written_element k) given)) c.args.steps.now.items c.put_all_behind.new.steps.items
    (ap (add_by_shape call c.args.found.number c.args.key.now k values o) (c.in-Some.ensures.shape source)
    ∙ ap (λ ts. Ok (all_behind (child call c.args.found.number) (length (args_view source c.in-Some.elements.now)) (map (written_element k) ts))) (sym (same ∙ c.in_ok-new-in-Some.ensures))
    ∙ ap (λ m. Ok (all_behind (child call c.args.found.number) m (map (written_element k) given))) many
    ∙ ap (λ p. Ok (all_behind p (length c.in-Some.elements.now) (map (written_element k) given))) (sym c.in_ok-list-in-Some.ensures))
    c.put_all_behind.ensures.done

pub returns-in-None-clause-done : goal.returns-in-None-clause-done
returns-in-None-clause-done c =
    let source = c.args.subject.source.now in
    let k = c.args.kind in
    let values : List (List ℕ) = map (λ x. x.now) c.args.values.now in
    let is = ap (add_by_shape c.args.subject.call.now c.args.found.number c.args.key.now k values (text_in k (expr_view source c.args.found.value.now))) (sym (c.in-None.ensures.shape source)) in
    subst (λ m. OnOk c.add_to_lone.result (AreBehind m c.args.steps.now.items c.add_to_lone.new.steps.items)) is c.add_to_lone.ensures.done

pub returns-in-None-clause-refused : goal.returns-in-None-clause-refused
returns-in-None-clause-refused c =
    let source = c.args.subject.source.now in
    let k = c.args.kind in
    let values : List (List ℕ) = map (λ x. x.now) c.args.values.now in
    let is = ap (add_by_shape c.args.subject.call.now c.args.found.number c.args.key.now k values (text_in k (expr_view source c.args.found.value.now))) (sym (c.in-None.ensures.shape source)) in
    subst (λ m. RefusedAs c.add_to_lone.result m) is c.add_to_lone.ensures.refused
