use Rattle.meson_sources.proofs.extra_edits.extra_met.Goals as goal
use Rattle.meson_sources.proofs.Words.{ap, ◌∙◌, value_with_name, kept_args, place, project_of, arguments_by, fixed, expanded, gathered, extra_key}

pub returns : goal.returns
returns c =
    let p = project_of c.args.variables.now in
    let call = c.args.call.now in
    let source = c.args.source.now in
    let args = c.args.args.now in
    let left = c.args.left in
    let none = gathered c.new-marks.result in
    c.in_ok-expand_nameds.ensures.all
    ∙ ap (λ q. expanded none (arguments_by p left (place call.file q) (λ n. fixed) (kept_args source (value_with_name c.as_slice.result.now) 0 args))) (c.in_ok-path.ensures.items ∙ c.get.ensures)
    ∙ ap (λ k. expanded none (arguments_by p left call (λ n. fixed) (kept_args source (value_with_name k) 0 args))) c.as_slice.ensures
    ∙ ap (λ g. expanded g (arguments_by p left call (λ n. fixed) (kept_args source (value_with_name extra_key) 0 args))) c.new-marks.ensures
