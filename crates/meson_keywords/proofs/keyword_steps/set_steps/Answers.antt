use Rattle.meson_keywords.proofs.Words.{◌++◌, ◌∷◌, [], List, length, refl, sym, ap, ◌∙◌, subst, rules, Option, Result, Ok, codes, length-map}
use Rattle.meson_keywords.proofs.Words.{err_from_is_err_and, Span, Argument, Expression, Nowhere, arg_view, args_view, Replace, Written, Numbered, Refusal}
use Rattle.meson_keywords.proofs.Words.{AreBehind, Step, step_in, value_written, behind_all, set_there, written_named}
use Rattle.meson_keywords.proofs.StepsBehind.{all_meant, behind_is, by_none, by_some, one_more}
use Rattle.meson_keywords.proofs.keyword_steps.set_steps.Goals as goal
use Rattle.meson_keywords.proofs.keyword_steps.set_steps.Goals.{in-Some+in_ok-push_edit-in-Some, in-None+in_ok-new-in-None+in_ok-put_behind-in-None}

pub returns-in_err-found-clause-refused : goal.returns-in_err-found-clause-refused
returns-in_err-found-clause-refused c =
    let error = err_from_is_err_and c.from_residual.result c.from_residual.ensures.1 in
    rw (error.1, error.2) (search rules)

pub returns-clause-meant : goal.returns-clause-meant
returns-clause-meant c = λ good.
    let s = c.args.subject in
    let it : Written (Expression Nowhere) = value_written c.args.new good in
    let key_is = c.as_bytes-key.ensures.value ∙ c.get.ensures in
    let xs = args_view s.source.now s.args.now in
    let f : Option (Numbered (Expression Span)) → Result (List Step) Refusal = λ v. Ok (set_there s.call.now (length xs) c.args.key.now it v ∷ []) in
    elim c.match-found.branch [
      | in-Some+in_ok-push_edit-in-Some w ↦
          (let step = step_in s.call.now (Replace s.call.now.path.steps w.in-Some.found.number it) in
          all_meant _ (Ok (step ∷ [])) c.new-steps.result.items c.match-found.steps.items
          (by_some f c.args.key.now c.as_bytes-key.result.now s.source.now key_is s.args.now c.in_ok-found.found c.in_ok-found.ensures.found w.in-Some.found w.in-Some.is)
          c.new-steps.ensures.items
          (subst (λ x. AreBehind (Ok (step ∷ [])) c.new-steps.result.items x.items) (sym w.steps-is)
          (behind_is (Ok (step ∷ [])) (step ∷ []) c.new-steps.result.items w.push_edit.new.steps.items refl (one_more c.new-steps.result.items w.push_edit.new.steps.items _ step w.in_ok-push_edit-in-Some.ensures refl))))
      | in-None+in_ok-new-in-None+in_ok-put_behind-in-None w ↦
          (let new : Written (Argument Nowhere) = written_named c.args.key.now it in
          let bytes = w.in_ok-new-in-None.ensures ∙ ap (λ key. key ++ (codes ": " ++ c.args.new)) key_is in
          let steps = behind_all s.call.now (length s.args.now) new ∷ [] in
          all_meant _ (Ok steps) c.new-steps.result.items c.match-found.steps.items
          (by_none f c.args.key.now c.as_bytes-key.result.now s.source.now key_is s.args.now c.in_ok-found.found c.in_ok-found.ensures.found w.in-None.is
          ∙ ap (λ m. Ok (behind_all s.call.now m new ∷ [])) (length-map s.args.now (arg_view s.source.now)))
          c.new-steps.ensures.items
          (subst (λ x. AreBehind (Ok steps) c.new-steps.result.items x.items) (sym w.steps-is)
          (behind_is (Ok steps) steps c.new-steps.result.items w.put_behind.new.steps.items refl (w.in_ok-put_behind-in-None.ensures new (sym bytes)))))
    ]
