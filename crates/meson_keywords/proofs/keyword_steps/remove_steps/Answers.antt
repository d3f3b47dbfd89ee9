use Rattle.meson_keywords.proofs.Words.{[], refl, sym, ap, ◌∙◌, subst, rules, Ok, err_from_is_err_and, expr_view, AreBehind, remove_by_shape, remove_there}
use Rattle.meson_keywords.proofs.Words.{value_shape, text_in}
use Rattle.meson_keywords.proofs.StepsBehind.{all_meant, behind_is, by_none, by_some, none_more}
use Rattle.meson_keywords.proofs.keyword_steps.remove_steps.Goals as goal
use Rattle.meson_keywords.proofs.keyword_steps.remove_steps.Goals.{in-Some+in_ok-remove_from_value, in_default}

pub returns-in_err-found-clause-refused : goal.returns-in_err-found-clause-refused
returns-in_err-found-clause-refused c =
    let error = err_from_is_err_and c.from_residual.result c.from_residual.ensures.1 in
    rw (error.1, error.2) (search rules)

pub returns-in_err-remove_from_value-clause-refused : goal.returns-in_err-remove_from_value-clause-refused
returns-in_err-remove_from_value-clause-refused c =
    let error = err_from_is_err_and c.from_residual-in_err-remove_from_value.result c.from_residual-in_err-remove_from_value.ensures.1 in
    rw (error.1, error.2) (λ other.
    let s = c.args.subject in
    let v = expr_view s.source.now c.in-Some.found.value.now in
    let k = c.args.kind in
    let key_is = c.as_bytes-key.ensures.value ∙ c.get.ensures in
    by_some (remove_there s.call.now c.args.key.now k c.args.value.now) c.args.key.now c.as_bytes-key.result.now s.source.now key_is s.args.now c.in_ok-found.found c.in_ok-found.ensures.found c.in-Some.found c.in-Some.is
    ∙ ap (λ key. remove_by_shape s.call.now c.in-Some.found.number key k c.args.value.now (text_in k v) (value_shape v)) (sym key_is)
    ∙ c.in_err-remove_from_value.ensures.refused other)

pub returns-clause-meant : goal.returns-clause-meant
returns-clause-meant c =
    let s = c.args.subject in
    let k = c.args.kind in
    let key_is = c.as_bytes-key.ensures.value ∙ c.get.ensures in
    let f = remove_there s.call.now c.args.key.now k c.args.value.now in
    elim c.match-found.branch [
      | in-Some+in_ok-remove_from_value w ↦
          (let v = expr_view s.source.now w.in-Some.found.value.now in
          let meant = remove_by_shape s.call.now w.in-Some.found.number c.as_bytes-key.result.now k c.args.value.now (text_in k v) (value_shape v) in
          all_meant _ meant c.new-steps.result.items c.match-found.steps.items
          (by_some f c.args.key.now c.as_bytes-key.result.now s.source.now key_is s.args.now c.in_ok-found.found c.in_ok-found.ensures.found w.in-Some.found w.in-Some.is
          ∙ ap (λ key. remove_by_shape s.call.now w.in-Some.found.number key k c.args.value.now (text_in k v) (value_shape v)) (sym key_is))
          c.new-steps.ensures.items
          (subst (λ x. AreBehind meant c.new-steps.result.items x.items) (sym w.steps-is) w.in_ok-remove_from_value.ensures.done))
      | in_default w ↦
          all_meant _ (Ok []) c.new-steps.result.items c.match-found.steps.items
          (by_none f c.args.key.now c.as_bytes-key.result.now s.source.now key_is s.args.now c.in_ok-found.found c.in_ok-found.ensures.found w.in_default.is)
          c.new-steps.ensures.items
          (behind_is (Ok []) [] c.new-steps.result.items c.match-found.steps.items refl (none_more c.new-steps.result.items c.match-found.steps.items (ap (λ x. x.items) w.steps-is)))
    ]
