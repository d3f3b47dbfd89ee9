use Rattle.meson_sources.proofs.editing.sources_removed.Goals as goal
use Rattle.meson_sources.proofs.Words.{Err, Ok, [], ap, IsUtf8, length, subst, sym, ◌<◌, ◌∙◌, ◌≡◌, ◌≤◌, err_from_is_err_and, value_with_name, kept_args}
use Rattle.meson_sources.proofs.Words.{DuplicateKeyword, project_of, all_gathered, max_followed, gathered, checked_names}
use Rattle.meson_sources.proofs.KeyTexts.{sources_text}
use Rattle.meson_sources.proofs.commands.Meant.{as_many_numbers, ms, fields, removed_twice, gone, not_gone}

pub at_most_once-requires : goal.at_most_once-requires
at_most_once-requires c = subst IsUtf8 (sym c.as_slice.ensures) sources_text

pub returns-in_err-at_most_once-clause-refused : goal.returns-in_err-at_most_once-clause-refused
returns-in_err-at_most_once-clause-refused c =
    let error = err_from_is_err_and c.from_residual-in_err-at_most_once.result c.from_residual-in_err-at_most_once.ensures.1 in
    rw (error.1, error.2) (λ function other.
    let p = project_of c.args.variables.now in
    let source = c.args.source.now in
    let l = c.args.arguments.now in
    let checked : checked_names c.args.names.now ≡ Ok tt = sym c.checked_names.ensures.checked ∙ c.in_ok-checked_names.was in
    let twice = c.in_err-at_most_once.ensures.twice other in
    let many = subst (λ k. 1 < length (kept_args source (value_with_name k) 0 l.items)) c.as_slice.ensures twice.1 in
    removed_twice p c.args.call.now source l function c.args.names.now checked many ∙ ap (λ k. Err (DuplicateKeyword k)) (sym c.as_slice.ensures) ∙ ap Err (sym twice.0))

pub names_removed-requires : goal.names_removed-requires
names_removed-requires c =
    let p = project_of c.args.variables.now in
    let source = c.args.source.now in
    let l = c.args.arguments.now in
    let t = (gathered c.in_ok-marks.marks).tally in
    let is = ap (λ g. g.tally) (c.in_ok-marks.ensures ∙ ap (all_gathered p max_followed c.args.call.now source) c.get.ensures) in
    as_many_numbers t (ms p c.args.call.now source l [] c.args.names.now) (fields p c.args.call.now source l [] c.args.names.now t is)

pub returns-in_err-steps-clause-refused : goal.returns-in_err-steps-clause-refused
returns-in_err-steps-clause-refused c =
    let error = err_from_is_err_and c.from_residual-in_err-steps.result c.from_residual-in_err-steps.ensures.1 in
    rw (error.1, error.2) (λ function other.
    let p = project_of c.args.variables.now in
    let source = c.args.source.now in
    let l = c.args.arguments.now in
    let names = c.args.names.now in
    let checked : checked_names names ≡ Ok tt = sym c.checked_names.ensures.checked ∙ c.in_ok-checked_names.was in
    let few = subst (λ k. length (kept_args source (value_with_name k) 0 l.items) ≤ 1) c.as_slice.ensures c.in_ok-at_most_once.ensures.few in
    let is = ap (λ g. g.tally) (c.in_ok-marks.ensures ∙ ap (all_gathered p max_followed c.args.call.now source) c.get.ensures) in
    let t = (gathered c.in_ok-marks.marks).tally in
    not_gone p c.args.call.now source l function names checked few t is c.in_err-steps.field-0.0 (c.in_err-steps.ensures.refused other))

pub returns-clause-meant : goal.returns-clause-meant
returns-clause-meant c = λ function.
    let p = project_of c.args.variables.now in
    let source = c.args.source.now in
    let l = c.args.arguments.now in
    let names = c.args.names.now in
    let checked : checked_names names ≡ Ok tt = sym c.checked_names.ensures.checked ∙ c.in_ok-checked_names.was in
    let few = subst (λ k. length (kept_args source (value_with_name k) 0 l.items) ≤ 1) c.as_slice.ensures c.in_ok-at_most_once.ensures.few in
    let is = ap (λ g. g.tally) (c.in_ok-marks.ensures ∙ ap (all_gathered p max_followed c.args.call.now source) c.get.ensures) in
    let t = (gathered c.in_ok-marks.marks).tally in
    gone p c.args.call.now source l function names checked few t is c.in_ok-steps.steps.items c.in_ok-steps.ensures.meant
