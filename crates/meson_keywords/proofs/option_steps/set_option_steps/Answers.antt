use Rattle.meson_keywords.proofs.Words.{◌∷◌, [], length, refl, sym, ap, ◌∙◌, subst, Ok, length-map, err_from_is_err_and, then_ok, Argument, Nowhere, arg_view}
use Rattle.meson_keywords.proofs.Words.{args_view, expr_view, Written, AreBehind, behind_all, entries, option_text, options_key, set_by_value, set_option_there}
use Rattle.meson_keywords.proofs.Words.{written_list, written_named}
use Rattle.meson_keywords.specs.declared.value_kinds.ElementKind.TheVariants as element
use Rattle.meson_keywords.specs.KeywordEdits.{the_value}
use Rattle.meson_keywords.proofs.StepsBehind.{all_meant, behind_is, by_none, by_some}
use Rattle.meson_keywords.proofs.option_steps.set_option_steps.Goals as goal
use Rattle.meson_keywords.proofs.option_steps.set_option_steps.Goals.{in-Some+in_ok-set_by_value-in-Some, in-None+in_ok-new-in-None+in_ok-put_behind-in-None}

pub returns-in_err-found-clause-refused : goal.returns-in_err-found-clause-refused
returns-in_err-found-clause-refused c =
    let error = err_from_is_err_and c.from_residual.result c.from_residual.ensures.1 in
    rw (error.1, error.2) (λ other.
    let s = c.args.subject in
    let xs = args_view s.source.now s.args.now in
    ap (λ r. then_ok r (set_option_there s.call.now (length xs) c.args.name.now c.args.value.now))
    (ap (λ key. the_value key xs) (sym c.as_bytes.ensures.value) ∙ c.in_err-found.ensures.refused other))

pub returns-in_err-set_by_value-in-Some-clause-refused : goal.returns-in_err-set_by_value-in-Some-clause-refused
returns-in_err-set_by_value-in-Some-clause-refused c =
    let error = err_from_is_err_and c.from_residual-in_err-set_by_value-in-Some.result c.from_residual-in_err-set_by_value-in-Some.ensures.1 in
    rw (error.1, error.2) (λ other.
    let s = c.args.subject in
    by_some (set_option_there s.call.now (length (args_view s.source.now s.args.now)) c.args.name.now c.args.value.now) options_key c.as_bytes.result.now s.source.now c.as_bytes.ensures.value s.args.now
    c.in_ok-found.found c.in_ok-found.ensures.found c.in-Some.found c.in-Some.is
    ∙ c.in_err-set_by_value-in-Some.ensures.refused other)

pub returns-clause-meant : goal.returns-clause-meant
returns-clause-meant c =
    let s = c.args.subject in
    let name = c.args.name.now in
    let entry = option_text name c.args.value.now in
    let f = set_option_there s.call.now (length (args_view s.source.now s.args.now)) name c.args.value.now in
    let start = c.new-steps.result.items in
    let after = c.match-found.steps.items in
    elim c.match-found.branch [
      | in-Some+in_ok-set_by_value-in-Some w ↦
          (let v = expr_view s.source.now w.in-Some.found.value.now in
          let meant = set_by_value s.call.now w.in-Some.found.number name c.args.value.now v (entries v) in
          all_meant _ meant start after
          (by_some f options_key c.as_bytes.result.now s.source.now c.as_bytes.ensures.value s.args.now c.in_ok-found.found c.in_ok-found.ensures.found w.in-Some.found w.in-Some.is)
          c.new-steps.ensures.items
          (subst (λ x. AreBehind meant start x.items) (sym w.steps-is) w.in_ok-set_by_value-in-Some.ensures.done))
      | in-None+in_ok-new-in-None+in_ok-put_behind-in-None w ↦
          (let new : Written (Argument Nowhere) = written_named options_key (written_list element.Text (entry ∷ [])) in
          let steps = behind_all s.call.now (length s.args.now) new ∷ [] in
          all_meant _ (Ok steps) start after
          (by_none f options_key c.as_bytes.result.now s.source.now c.as_bytes.ensures.value s.args.now c.in_ok-found.found c.in_ok-found.ensures.found w.in-None.is
          ∙ ap (λ m. Ok (behind_all s.call.now m new ∷ [])) (length-map s.args.now (arg_view s.source.now)))
          c.new-steps.ensures.items
          (subst (λ x. AreBehind (Ok steps) start x.items) (sym w.steps-is)
          (behind_is (Ok steps) steps start w.put_behind.new.steps.items refl (w.in_ok-put_behind-in-None.ensures new (sym w.in_ok-new-in-None.ensures.done)))))
    ]
