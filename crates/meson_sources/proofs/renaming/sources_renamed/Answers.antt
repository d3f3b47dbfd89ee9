use Rattle.meson_sources.proofs.renaming.sources_renamed.Goals as goal
use Rattle.meson_sources.proofs.Words.{Err, IfErr, IfOk, Ok, [], ap, IsUtf8, length, subst, sym, ◌<◌, ◌∙◌, ◌∷◌, ◌≡◌, ◌≢◌, ◌≤◌, err_from_is_err_and, value_with_name}
use Rattle.meson_sources.proofs.Words.{kept_args, DuplicateKeyword, OutOfMemory, project_of, all_gathered, max_followed, gathered, checked_names, AreMeant}
use Rattle.meson_sources.proofs.KeyTexts.{sources_text}
use Rattle.meson_sources.proofs.commands.Meant.{as_many_numbers, ms, fields}
use Rattle.meson_sources.proofs.commands.Renamed.{names_bad, of_any, renamed_after, renamed_twice}

pub at_most_once-requires : goal.at_most_once-requires
at_most_once-requires c = subst IsUtf8 (sym c.as_slice.ensures) sources_text

pub returns-in_err-at_most_once-clause-refused : goal.returns-in_err-at_most_once-clause-refused
returns-in_err-at_most_once-clause-refused c =
    let error = err_from_is_err_and c.from_residual-in_err-at_most_once.result c.from_residual-in_err-at_most_once.ensures.1 in
    rw (error.1, error.2) (λ function other.
    let p = project_of c.args.variables.now in
    let source = c.args.source.now in
    let l = c.args.arguments.now in
    let old = c.args.names.old.now in
    let new = c.args.names.new.now in
    let checked : checked_names (old ∷ new ∷ []) ≡ Ok tt = sym c.check.ensures.checked ∙ c.in_ok-check.was in
    let twice = c.in_err-at_most_once.ensures.twice other in
    let many = subst (λ k. 1 < length (kept_args source (value_with_name k) 0 l.items)) c.as_slice.ensures twice.1 in
    renamed_twice p c.args.call.now source l function old new checked many ∙ ap (λ k. Err (DuplicateKeyword k)) (sym c.as_slice.ensures) ∙ ap Err (sym twice.0))

pub names_renamed-requires : goal.names_renamed-requires
names_renamed-requires c =
    let p = project_of c.args.variables.now in
    let source = c.args.source.now in
    let l = c.args.arguments.now in
    let t = (gathered c.in_ok-marks.marks).tally in
    let is = ap (λ g. g.tally) (c.in_ok-marks.ensures ∙ ap (all_gathered p max_followed c.args.call.now source) c.get.ensures) in
    as_many_numbers t (ms p c.args.call.now source l [] []) (fields p c.args.call.now source l [] [] t is)

pub returns-clause-meant : goal.returns-clause-meant
returns-clause-meant c = λ function.
    let p = project_of c.args.variables.now in
    let source = c.args.source.now in
    let l = c.args.arguments.now in
    let old = c.args.names.old.now in
    let new = c.args.names.new.now in
    let checked : checked_names (old ∷ new ∷ []) ≡ Ok tt = sym c.check.ensures.checked ∙ c.in_ok-check.was in
    let few = subst (λ k. length (kept_args source (value_with_name k) 0 l.items) ≤ 1) c.as_slice.ensures c.in_ok-at_most_once.ensures.few in
    let is = ap (λ g. g.tally) (c.in_ok-marks.ensures ∙ ap (all_gathered p max_followed c.args.call.now source) c.get.ensures) in
    let t = (gathered c.in_ok-marks.marks).tally in
    subst (λ m. IfOk c.names_renamed.result (λ steps. AreMeant m steps.items)) (sym (renamed_after p c.args.call.now source l function old new checked few t is)) c.names_renamed.ensures.meant

pub returns-clause-refused : goal.returns-clause-refused
returns-clause-refused c = λ function.
    let p = project_of c.args.variables.now in
    let source = c.args.source.now in
    let l = c.args.arguments.now in
    let old = c.args.names.old.now in
    let new = c.args.names.new.now in
    let checked : checked_names (old ∷ new ∷ []) ≡ Ok tt = sym c.check.ensures.checked ∙ c.in_ok-check.was in
    let few = subst (λ k. length (kept_args source (value_with_name k) 0 l.items) ≤ 1) c.as_slice.ensures c.in_ok-at_most_once.ensures.few in
    let is = ap (λ g. g.tally) (c.in_ok-marks.ensures ∙ ap (all_gathered p max_followed c.args.call.now source) c.get.ensures) in
    let t = (gathered c.in_ok-marks.marks).tally in
    subst (λ m. IfErr c.names_renamed.result (λ x. x ≢ OutOfMemory → m ≡ Err x)) (sym (renamed_after p c.args.call.now source l function old new checked few t is)) c.names_renamed.ensures.refused

pub returns-clause-utf8 : goal.returns-clause-utf8
returns-clause-utf8 c = of_any c.names_renamed.result c.in_ok-check.ensures.utf8
