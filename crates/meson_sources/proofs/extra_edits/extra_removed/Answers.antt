use Rattle.meson_sources.proofs.extra_edits.extra_removed.Goals as goal
use Rattle.meson_sources.proofs.Words.{[], ap, err_from_is_err_and, project_of, gathered}
use Rattle.meson_sources.proofs.commands.Meant.{as_many_numbers, extras, extra_fields, extra_unchecked, extra_gone, extra_not_gone}

pub returns-in_err-marks-clause-refused : goal.returns-in_err-marks-clause-refused
returns-in_err-marks-clause-refused c =
    let error = err_from_is_err_and c.from_residual.result c.from_residual.ensures.1 in
    rw (error.1, error.2) (λ function other.
    extra_unchecked (project_of c.args.variables.now) c.args.call.now c.args.source.now c.args.arguments.now function c.args.names.now c.in_err-marks.field-0.0 (c.in_err-marks.ensures.refused function other))

pub names_removed-requires : goal.names_removed-requires
names_removed-requires c =
    let p = project_of c.args.variables.now in
    let source = c.args.source.now in
    let l = c.args.arguments.now in
    let t = (gathered c.in_ok-marks.marks).tally in
    let is = ap (λ g. g.tally) c.in_ok-marks.ensures.met in
    as_many_numbers t (extras p c.args.call.now source l [] c.args.names.now) (extra_fields p c.args.call.now source l [] c.args.names.now t is)

pub returns-in_err-steps-clause-refused : goal.returns-in_err-steps-clause-refused
returns-in_err-steps-clause-refused c =
    let error = err_from_is_err_and c.from_residual-in_err-steps.result c.from_residual-in_err-steps.ensures.1 in
    rw (error.1, error.2) (λ function other.
    let p = project_of c.args.variables.now in
    let source = c.args.source.now in
    let l = c.args.arguments.now in
    let names = c.args.names.now in
    let t = (gathered c.in_ok-marks.marks).tally in
    let is = ap (λ g. g.tally) c.in_ok-marks.ensures.met in
    extra_not_gone p c.args.call.now source l function names (c.in_ok-marks.ensures.checked function) t is c.in_err-steps.field-0.0 (c.in_err-steps.ensures.refused other))

pub returns-clause-meant : goal.returns-clause-meant
returns-clause-meant c = λ function.
    let p = project_of c.args.variables.now in
    let source = c.args.source.now in
    let l = c.args.arguments.now in
    let names = c.args.names.now in
    let t = (gathered c.in_ok-marks.marks).tally in
    let is = ap (λ g. g.tally) c.in_ok-marks.ensures.met in
    extra_gone p c.args.call.now source l function names (c.in_ok-marks.ensures.checked function) t is c.in_ok-steps.steps.items c.in_ok-steps.ensures.meant
