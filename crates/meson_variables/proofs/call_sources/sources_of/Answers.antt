use Rattle.meson_variables.proofs.Words.{◌≤◌, length, ◌∙◌, sym, ap, arith, Ok, value_with_name, sources_key, kept_args, project_of, all_gathered, max_followed}
use Rattle.meson_variables.proofs.Words.{gathered, or_option, or_call}
use Rattle.meson_variables.proofs.Answered.{answered_once}
use Rattle.meson_variables.proofs.call_sources.sources_of.Goals as goal

pub returns-clause-found : goal.returns-clause-found
returns-clause-found c = λ function.
    let p = project_of c.args.variables.now in
    let source = c.args.source.now in
    let count = c.count_named.ensures ∙ ap (λ k. length (kept_args source (value_with_name k) 0 c.get-args.result.now)) c.as_slice.ensures ∙ ap (λ xs. length (kept_args source (value_with_name sources_key) 0 xs)) c.get-args.ensures in
    let few : length (kept_args source (value_with_name sources_key) 0 c.args.arguments.now.items) ≤ 1 = omega arith in
    let is = ap (λ g. g.tally) (c.in_ok-marks.ensures ∙ ap (all_gathered p max_followed c.args.call.now source) c.get-args.ensures) in
    answered_once p c.args.call.now source c.args.arguments.now function (gathered c.in_ok-marks.marks).tally is few
    ∙ ap (λ xs. Ok (record { items = xs; opaque = length c.in_ok-marks.marks.unknown.items; home = or_call c.args.call.now (or_option c.in_ok-marks.marks.list c.in_ok-marks.marks.vacant) })) (sym c.of-2.ensures)
    ∙ ap (λ n. Ok (record { items = c.of-2.result; opaque = n; home = or_call c.args.call.now (or_option c.in_ok-marks.marks.list c.in_ok-marks.marks.vacant) })) (sym (c.len.ensures ∙ c.in_ok-marks.marks.unknown.ok.0))
    ∙ ap (λ h. Ok (record { items = c.of-2.result; opaque = c.len.result; home = h })) (sym c.in_ok-home.ensures)
