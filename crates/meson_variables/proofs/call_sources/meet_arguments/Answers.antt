use Rattle.meson_variables.proofs.Words.{◌≡◌, ◌<◌, ◌≤◌, length, ◌∙◌, sym, ap, arith, value_with_name, kwargs_key, kept_args, project_of, opaque, gathered}
use Rattle.meson_variables.proofs.Words.{with_mark}
use Rattle.meson_variables.proofs.MetAll.{both, met_both, hidden_some, hidden_none}
use Rattle.meson_variables.proofs.call_sources.meet_arguments.Goals as goal

pub returns-in_ok-miss : goal.returns-in_ok-miss
returns-in_ok-miss c =
    let p = project_of c.args.variables.now in
    let source = c.args.source.now in
    let args = c.args.args.now in
    let g = both p c.args.left c.args.call.now source args in
    let hidden = kept_args source (value_with_name kwargs_key) 0 args in
    let is_both : gathered c.expand_nameds.new.marks ≡ g =
    met_both p c.args.left c.args.call.now source args c.args.path.now.items c.expand_plains.new.path.items c.as_slice-named.result.now c.behind_first-from.result
    (gathered c.args.marks.now) (gathered c.expand_plains.new.marks) (gathered c.expand_nameds.new.marks) c.requires.none c.requires.path c.in_ok-expand_plains.ensures.back c.as_slice-named.ensures
    c.in_ok-expand_plains.ensures.all (c.behind_first-from.ensures.others source) c.in_ok-expand_nameds.ensures.all in
    let count = c.count_named.ensures ∙ ap (λ k. length (kept_args source (value_with_name k) 0 args)) c.as_slice.ensures in
    let some : 0 < length hidden = omega arith in
    c.in_ok-miss.ensures.done ∙ ap (λ h. with_mark h opaque) is_both ∙ sym (hidden_some g hidden some)

pub returns-else-count_named-gt0 : goal.returns-else-count_named-gt0
returns-else-count_named-gt0 c =
    let p = project_of c.args.variables.now in
    let source = c.args.source.now in
    let args = c.args.args.now in
    let g = both p c.args.left c.args.call.now source args in
    let hidden = kept_args source (value_with_name kwargs_key) 0 args in
    let is_both : gathered c.expand_nameds.new.marks ≡ g =
    met_both p c.args.left c.args.call.now source args c.args.path.now.items c.expand_plains.new.path.items c.as_slice-named.result.now c.behind_first-from.result
    (gathered c.args.marks.now) (gathered c.expand_plains.new.marks) (gathered c.expand_nameds.new.marks) c.requires.none c.requires.path c.in_ok-expand_plains.ensures.back c.as_slice-named.ensures
    c.in_ok-expand_plains.ensures.all (c.behind_first-from.ensures.others source) c.in_ok-expand_nameds.ensures.all in
    let count = c.count_named.ensures ∙ ap (λ k. length (kept_args source (value_with_name k) 0 args)) c.as_slice.ensures in
    let none : length hidden ≤ 0 = omega arith in
    is_both ∙ sym (hidden_none g hidden none)
