use Rattle.meson_sources.proofs.extra_edits.extra_added.Goals as goal
use Rattle.meson_sources.proofs.Words.{ap, length, map, refl, subst, sym, ◌∙◌, err_from_is_err_and, value_with_name, kept_args, project_of, gathered, or_option}
use Rattle.meson_sources.proofs.Words.{bare, AreBehind, extra_key, insertion_steps, plain_len, new_among, lone_or_new}
use Rattle.meson_sources.proofs.commands.Meant.{added_unchecked, home_meant, call_meant, call_refused}

pub returns-in_err-marks-clause-refused : goal.returns-in_err-marks-clause-refused
returns-in_err-marks-clause-refused c =
    let error = err_from_is_err_and c.from_residual.result c.from_residual.ensures.1 in
    rw (error.1, error.2) (λ function other.
    added_unchecked (project_of c.args.variables.now) c.args.call.now c.args.source.now c.args.arguments.now function c.args.names.now c.in_err-marks.field-0.0 (c.in_err-marks.ensures.refused function other))

pub returns-in-Some-clause-meant : goal.returns-in-Some-clause-meant
returns-in-Some-clause-meant c = λ function.
    let p = project_of c.args.variables.now in
    let names = c.args.names.now in
    let t = (gathered c.in_ok-marks.marks).tally in
    let is = ap (λ g. g.tally) c.in_ok-marks.ensures.met in
    let places = c.places_of-list.ensures in
    let is_first = c.first_of.ensures ∙ ap (λ o. or_option o c.places_of-list.result.1) places.list ∙ ap (or_option c.in_ok-marks.marks.list) places.vacant in
    let new_is = c.in_ok-new.ensures ∙ ap (λ xs. new_among xs names) c.as_slice.ensures.value in
    let home = c.in-Some.home in
    let are = c.in_ok-steps-in-Some.ensures.done ∙ ap (λ ns. map bare (insertion_steps home (plain_len p home) (map (λ x. x.now) ns))) c.as_slice-in-Some.ensures.value in
    home_meant p c.args.call.now c.args.source.now c.args.arguments.now function names (c.in_ok-marks.ensures.checked function) t is (map (λ x. x.now) c.in_ok-new.new.items) new_is c.first_of.result is_first
    home c.in-Some.is (plain_len p home) refl c.in_ok-steps-in-Some.steps.items are

pub returns-clause-meant : goal.returns-clause-meant
returns-clause-meant c = λ function.
    let p = project_of c.args.variables.now in
    let call = c.args.call.now in
    let source = c.args.source.now in
    let l = c.args.arguments.now in
    let names = c.args.names.now in
    let t = (gathered c.in_ok-marks.marks).tally in
    let is = ap (λ g. g.tally) c.in_ok-marks.ensures.met in
    let places = c.places_of-list.ensures in
    let is_first = c.first_of.ensures ∙ ap (λ o. or_option o c.places_of-list.result.1) places.list ∙ ap (or_option c.in_ok-marks.marks.list) places.vacant in
    let new_is = c.in_ok-new.ensures ∙ ap (λ xs. new_among xs names) c.as_slice.ensures.value in
    let new = c.without_home.new.steps.items in
    let old = c.new-steps.result.items in
    let kept = kept_args source (value_with_name extra_key) 0 l.items in
    let first =
    subst (λ xs. AreBehind (lone_or_new call (length xs) (kept_args source (value_with_name extra_key) 0 xs) (map (λ x. x.now) c.as_slice-in-None.result.now)) old new) c.get-args.ensures c.in_ok-without_home-in-None.ensures.done in
    let second = subst (λ ns. AreBehind (lone_or_new call (length l.items) kept (map (λ x. x.now) ns)) old new) c.as_slice-in-None.ensures.value first in
    let third = subst (λ o. AreBehind (lone_or_new call (length l.items) kept (map (λ x. x.now) c.in_ok-new.new.items)) o new) c.new-steps.ensures.items second in
    call_meant p call source l function names (c.in_ok-marks.ensures.checked function) t is (map (λ x. x.now) c.in_ok-new.new.items) new_is c.first_of.result is_first c.in-None.is c.requires.there new third

pub returns-in_err-without_home-in-None-clause-refused : goal.returns-in_err-without_home-in-None-clause-refused
returns-in_err-without_home-in-None-clause-refused c =
    let error = err_from_is_err_and c.from_residual-in_err-without_home-in-None.result c.from_residual-in_err-without_home-in-None.ensures.1 in
    rw (error.1, error.2) (λ function other.
    let p = project_of c.args.variables.now in
    let call = c.args.call.now in
    let source = c.args.source.now in
    let l = c.args.arguments.now in
    let names = c.args.names.now in
    let t = (gathered c.in_ok-marks.marks).tally in
    let is = ap (λ g. g.tally) c.in_ok-marks.ensures.met in
    let places = c.places_of-list.ensures in
    let is_first = c.first_of.ensures ∙ ap (λ o. or_option o c.places_of-list.result.1) places.list ∙ ap (or_option c.in_ok-marks.marks.list) places.vacant in
    let new_is = c.in_ok-new.ensures ∙ ap (λ xs. new_among xs names) c.as_slice.ensures.value in
    let kept = kept_args source (value_with_name extra_key) 0 l.items in
    let refused =
    ap (λ ns. lone_or_new call (length l.items) kept (map (λ x. x.now) ns)) (sym c.as_slice-in-None.ensures.value)
    ∙ ap (λ xs. lone_or_new call (length xs) (kept_args source (value_with_name extra_key) 0 xs) (map (λ x. x.now) c.as_slice-in-None.result.now)) (sym c.get-args.ensures)
    ∙ c.in_err-without_home-in-None.ensures.refused other in
    call_refused p call source l function names (c.in_ok-marks.ensures.checked function) t is (map (λ x. x.now) c.in_ok-new.new.items) new_is c.first_of.result is_first c.in-None.is c.requires.there c.in_err-without_home-in-None.field-0.0 refused)
