use Rattle.meson_variables.proofs.Words.{◌≤◌, length, take, take_all, ◌∙◌, sym, ap, arith, if◌then◌else◌, None, bytes_eq, name_at, names_at, value_in}
use Rattle.meson_variables.proofs.Words.{one_of_names}
use Rattle.meson_variables.proofs.Anys.{any_more}
use Rattle.meson_variables.proofs.Assignments.{forgotten}
use Rattle.meson_variables.proofs.values.Values.forget_each.Goals as goal

pub loop-i-preserved : goal.loop-i-preserved
loop-i-preserved c = λ x.
    let source = c.args.source.now in
    let names = c.args.names.now in
    let i = c.loop-i.i in
    let start = value_in c.args.self.now x in
    let before = value_in c.loop-i.self x in
    forgotten (one_of_names (names_at source (take i names)) x) _ start before (value_in c.forget.new.self x) (c.loop-i.invariant x)
    (c.forget.ensures x ∙ ap (λ t. if bytes_eq t x then None else before) c.text_of.ensures)
    ∙ ap (λ b. if b then None else start) (sym (any_more (λ y. bytes_eq y.text x) (name_at source) names i _ c.loop-i-test.true))

pub returns : goal.returns
returns c = λ x.
    let source = c.args.source.now in
    let names = c.args.names.now in
    let past : length names ≤ c.loop-i.i = omega arith in
    c.loop-i.invariant x ∙ ap (λ ns. if one_of_names (names_at source ns) x then None else value_in c.args.self.now x) (take_all c.loop-i.i names past)
