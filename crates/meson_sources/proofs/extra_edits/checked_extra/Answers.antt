use Rattle.meson_sources.proofs.extra_edits.checked_extra.Goals as goal
use Rattle.meson_sources.proofs.Words.{Err, Ok, ap, IsUtf8, length, subst, sym, ◌<◌, ◌∙◌, ◌≡◌, ◌≤◌, err_from_is_err_and, value_with_name, kept_args, kwargs_key}
use Rattle.meson_sources.proofs.Words.{DuplicateKeyword, project_of, checked_names}
use Rattle.meson_sources.proofs.KeyTexts.{extra_text}
use Rattle.meson_sources.proofs.commands.Meant.{extra_once, extra_twice}

pub at_most_once-requires : goal.at_most_once-requires
at_most_once-requires c = subst IsUtf8 (sym c.as_slice-2.ensures) extra_text

pub returns-in_err-at_most_once-clause-refused : goal.returns-in_err-at_most_once-clause-refused
returns-in_err-at_most_once-clause-refused c =
    let error = err_from_is_err_and c.from_residual-in_err-at_most_once.result c.from_residual-in_err-at_most_once.ensures.1 in
    rw (error.1, error.2) (λ function other.
    let p = project_of c.args.variables.now in
    let source = c.args.source.now in
    let l = c.args.arguments.now in
    let checked : checked_names c.args.names.now ≡ Ok tt = sym c.checked_names.ensures.checked ∙ c.in_ok-checked_names.was in
    let hidden = c.count_named.ensures ∙ ap (λ k. length (kept_args source (value_with_name k) 0 c.get-args.result.now)) c.as_slice.ensures ∙ ap (λ xs. length (kept_args source (value_with_name kwargs_key) 0 xs)) c.get-args.ensures in
    let none = subst (λ n. n ≤ 0) hidden c.if-count_named-gt0.false in
    let twice = c.in_err-at_most_once.ensures.twice other in
    let many = subst (λ k. 1 < length (kept_args source (value_with_name k) 0 l.items)) c.as_slice-2.ensures twice.1 in
    extra_twice p c.args.call.now source l function c.args.names.now checked none many ∙ ap (λ k. Err (DuplicateKeyword k)) (sym c.as_slice-2.ensures) ∙ ap Err (sym twice.0))

pub returns-clause-checked : goal.returns-clause-checked
returns-clause-checked c = λ function.
    let p = project_of c.args.variables.now in
    let source = c.args.source.now in
    let l = c.args.arguments.now in
    let checked : checked_names c.args.names.now ≡ Ok tt = sym c.checked_names.ensures.checked ∙ c.in_ok-checked_names.was in
    let hidden = c.count_named.ensures ∙ ap (λ k. length (kept_args source (value_with_name k) 0 c.get-args.result.now)) c.as_slice.ensures ∙ ap (λ xs. length (kept_args source (value_with_name kwargs_key) 0 xs)) c.get-args.ensures in
    let none = subst (λ n. n ≤ 0) hidden c.if-count_named-gt0.false in
    let few = subst (λ k. length (kept_args source (value_with_name k) 0 l.items) ≤ 1) c.as_slice-2.ensures c.in_ok-at_most_once.ensures.few in
    extra_once p c.args.call.now source l function c.args.names.now checked none few
