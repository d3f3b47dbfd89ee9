use Rattle.meson_keywords.proofs.Words.{[], refl, sym, ap, ◌∙◌, subst, rules, Ok, err_from_is_err_and, expr_view, AreBehind, delete_by_value}
use Rattle.meson_keywords.proofs.Words.{delete_option_there, entries, options_key}
use Rattle.meson_keywords.proofs.StepsBehind.{all_meant, behind_is, by_none, by_some, none_more}
use Rattle.meson_keywords.proofs.option_steps.delete_option_steps.Goals as goal
use Rattle.meson_keywords.proofs.option_steps.delete_option_steps.Goals.{in-Some+in_ok-delete_by_value, in_default}

pub returns-in_err-found-clause-refused : goal.returns-in_err-found-clause-refused
returns-in_err-found-clause-refused c =
    let error = err_from_is_err_and c.from_residual.result c.from_residual.ensures.1 in
    rw (error.1, error.2) (search rules)

pub returns-in_err-delete_by_value-clause-refused : goal.returns-in_err-delete_by_value-clause-refused
returns-in_err-delete_by_value-clause-refused c =
    let error = err_from_is_err_and c.from_residual-in_err-delete_by_value.result c.from_residual-in_err-delete_by_value.ensures.1 in
    rw (error.1, error.2) (λ other.
    let s = c.args.subject in
    by_some (delete_option_there s.call.now c.args.name.now) options_key c.as_bytes.result.now s.source.now c.as_bytes.ensures.value s.args.now c.in_ok-found.found c.in_ok-found.ensures.found c.in-Some.found c.in-Some.is
    ∙ c.in_err-delete_by_value.ensures.refused other)

pub returns-clause-meant : goal.returns-clause-meant
returns-clause-meant c =
    let s = c.args.subject in
    let f = delete_option_there s.call.now c.args.name.now in
    let start = c.new-steps.result.items in
    let after = c.match-found.steps.items in
    elim c.match-found.branch [
      | in-Some+in_ok-delete_by_value w ↦
          (let v = expr_view s.source.now w.in-Some.found.value.now in
          let meant = delete_by_value s.call.now w.in-Some.found.number c.args.name.now v (entries v) in
          all_meant _ meant start after
          (by_some f options_key c.as_bytes.result.now s.source.now c.as_bytes.ensures.value s.args.now c.in_ok-found.found c.in_ok-found.ensures.found w.in-Some.found w.in-Some.is)
          c.new-steps.ensures.items
          (subst (λ x. AreBehind meant start x.items) (sym w.steps-is) w.in_ok-delete_by_value.ensures.done))
      | in_default w ↦
          all_meant _ (Ok []) start after
          (by_none f options_key c.as_bytes.result.now s.source.now c.as_bytes.ensures.value s.args.now c.in_ok-found.found c.in_ok-found.ensures.found w.in_default.is)
          c.new-steps.ensures.items
          (behind_is (Ok []) [] start after refl (none_more start after (ap (λ x. x.items) w.steps-is)))
    ]
