-- The extra files of a call are those that its marks tell of, where the keyword is there once.
use Rattle.meson_sources.proofs.extra_files.extra_files_of.Goals as goal
use Rattle.meson_sources.proofs.Words.{Err, Ok, ap, IsUtf8, length, rules, subst, sym, ◌<◌, ◌∙◌, ◌≤◌, err_from_is_err_and, value_with_name, kept_args}
use Rattle.meson_sources.proofs.Words.{DuplicateKeyword, project_of, max_followed, gathered, or_call, or_option, extra_gathered}
use Rattle.meson_sources.proofs.KeyTexts.{extra_text}
use Rattle.meson_sources.proofs.commands.Meant.{told_once, told_twice}

pub at_most_once-requires : goal.at_most_once-requires
at_most_once-requires c = subst IsUtf8 (sym c.as_slice.ensures) extra_text

pub returns-in_err-at_most_once-clause-refused : goal.returns-in_err-at_most_once-clause-refused
returns-in_err-at_most_once-clause-refused c =
    let error = err_from_is_err_and c.from_residual.result c.from_residual.ensures.1 in
    rw (error.1, error.2) (λ function other.
    let source = c.args.source.now in
    let l = c.args.arguments.now in
    let twice = c.in_err-at_most_once.ensures.twice other in
    let many = subst (λ k. 1 < length (kept_args source (value_with_name k) 0 l.items)) c.as_slice.ensures twice.1 in
    told_twice (project_of c.args.variables.now) c.args.call.now source l function many ∙ ap (λ k. Err (DuplicateKeyword k)) (sym c.as_slice.ensures) ∙ ap Err (sym twice.0))

pub returns-clause-found : goal.returns-clause-found
returns-clause-found c = λ function.
    let p = project_of c.args.variables.now in
    let call = c.args.call.now in
    let source = c.args.source.now in
    let l = c.args.arguments.now in
    let marks = c.in_ok-marks.marks in
    let few = subst (λ k. length (kept_args source (value_with_name k) 0 l.items) ≤ 1) c.as_slice.ensures c.in_ok-at_most_once.ensures.few in
    let is = ap (λ g. g.tally) (c.in_ok-marks.ensures ∙ ap (extra_gathered p max_followed call source) c.get.ensures) in
    told_once p call source l function few (gathered marks).tally is
    ∙ ap (λ is. Ok (record { items = is; opaque = length marks.unknown.items; home = or_call call (or_option marks.list marks.vacant) })) (sym c.of.ensures)
    ∙ ap (λ n. Ok (record { items = c.of.result; opaque = n; home = or_call call (or_option marks.list marks.vacant) })) (sym (c.len.ensures ∙ marks.unknown.ok.0))
    ∙ ap (λ h. Ok (record { items = c.of.result; opaque = c.len.result; home = h })) (sym c.in_ok-home.ensures)

pub returns-in_err-marks-clause-refused : goal.returns-in_err-marks-clause-refused
returns-in_err-marks-clause-refused c = λ function. search rules

pub returns-in_err-home-clause-refused : goal.returns-in_err-home-clause-refused
returns-in_err-home-clause-refused c = λ function. search rules
