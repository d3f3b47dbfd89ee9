use Rattle.meson_keywords.proofs.Words.{◌++◌, ◌∷◌, [], List, ℕ, length, map, refl, sym, ap, ap₂, ◌∙◌, subst, rules, Ok, codes, length-map, err_from_is_err_and}
use Rattle.meson_keywords.proofs.Words.{Argument, Nowhere, arg_view, args_view, expr_view, Written, AreBehind, add_by_shape, add_there, behind_all, value_shape}
use Rattle.meson_keywords.proofs.Words.{text_in, written_list, written_named}
use Rattle.meson_keywords.proofs.StepsBehind.{all_meant, behind_is, by_none, by_some}
use Rattle.meson_keywords.proofs.keyword_steps.add_steps.Goals as goal
use Rattle.meson_keywords.proofs.keyword_steps.add_steps.Goals.{in-Some+in_ok-add_to_value-in-Some}
use Rattle.meson_keywords.proofs.keyword_steps.add_steps.Goals.{in-None+in_ok-list-in-None+in_ok-new-in-None+in_ok-put_behind-in-None}

pub returns-in_err-found-clause-refused : goal.returns-in_err-found-clause-refused
returns-in_err-found-clause-refused c =
    let error = err_from_is_err_and c.from_residual.result c.from_residual.ensures.1 in
    rw (error.1, error.2) (search rules)

pub returns-in_err-add_to_value-in-Some-clause-refused : goal.returns-in_err-add_to_value-in-Some-clause-refused
returns-in_err-add_to_value-in-Some-clause-refused c =
    let error = err_from_is_err_and c.from_residual-in_err-add_to_value-in-Some.result c.from_residual-in_err-add_to_value-in-Some.ensures.1 in
    rw (error.1, error.2) (λ other.
    let s = c.args.subject in
    let v = expr_view s.source.now c.in-Some.found.value.now in
    let k = c.args.kind in
    let values : List (List ℕ) = map (λ x. x.now) c.args.values.now in
    let key_is = c.as_bytes-key.ensures.value ∙ c.get.ensures in
    by_some (add_there s.call.now (length (args_view s.source.now s.args.now)) c.args.key.now k values) c.args.key.now c.as_bytes-key.result.now s.source.now key_is s.args.now c.in_ok-found.found c.in_ok-found.ensures.found
    c.in-Some.found c.in-Some.is
    ∙ ap (λ key. add_by_shape s.call.now c.in-Some.found.number key k values (text_in k v) (value_shape v)) (sym key_is)
    ∙ c.in_err-add_to_value-in-Some.ensures.refused other)

pub returns-clause-meant : goal.returns-clause-meant
returns-clause-meant c =
    let s = c.args.subject in
    let k = c.args.kind in
    let values : List (List ℕ) = map (λ x. x.now) c.args.values.now in
    let key_is = c.as_bytes-key.ensures.value ∙ c.get.ensures in
    let xs = args_view s.source.now s.args.now in
    let f = add_there s.call.now (length xs) c.args.key.now k values in
    elim c.match-found.branch [
      | in-Some+in_ok-add_to_value-in-Some w ↦
          (let v = expr_view s.source.now w.in-Some.found.value.now in
          let meant = add_by_shape s.call.now w.in-Some.found.number c.as_bytes-key.result.now k values (text_in k v) (value_shape v) in
          all_meant _ meant c.new-steps.result.items c.match-found.steps.items
          (by_some f c.args.key.now c.as_bytes-key.result.now s.source.now key_is s.args.now c.in_ok-found.found c.in_ok-found.ensures.found w.in-Some.found w.in-Some.is
          ∙ ap (λ key. add_by_shape s.call.now w.in-Some.found.number key k values (text_in k v) (value_shape v)) (sym key_is))
          c.new-steps.ensures.items
          (subst (λ x. AreBehind meant c.new-steps.result.items x.items) (sym w.steps-is) w.in_ok-add_to_value-in-Some.ensures.done))
      | in-None+in_ok-list-in-None+in_ok-new-in-None+in_ok-put_behind-in-None w ↦
          (let new : Written (Argument Nowhere) = written_named c.args.key.now (written_list k values) in
          let bytes = w.in_ok-new-in-None.ensures ∙ ap₂ (λ key l. key ++ (codes ": " ++ l)) key_is w.in_ok-list-in-None.ensures.done in
          let steps = behind_all s.call.now (length s.args.now) new ∷ [] in
          all_meant _ (Ok steps) c.new-steps.result.items c.match-found.steps.items
          (by_none f c.args.key.now c.as_bytes-key.result.now s.source.now key_is s.args.now c.in_ok-found.found c.in_ok-found.ensures.found w.in-None.is
          ∙ ap (λ m. Ok (behind_all s.call.now m new ∷ [])) (length-map s.args.now (arg_view s.source.now)))
          c.new-steps.ensures.items
          (subst (λ x. AreBehind (Ok steps) c.new-steps.result.items x.items) (sym w.steps-is)
          (behind_is (Ok steps) steps c.new-steps.result.items w.put_behind.new.steps.items refl (w.in_ok-put_behind-in-None.ensures new (sym bytes)))))
    ]
