use Rattle.std.proofs.Common.{◌+◌, drop, sym, ap, ◌∙◌}
use Rattle.meson_calls.specs.Loading.{project}
use Rattle.meson_places.proofs.Refused.{passed}
use Rattle.meson_followed_values.specs.Choices.{all_owned}
use Rattle.meson_followed_values.specs.CodeFollower.{loaded_in}
use Rattle.meson_followed_values.proofs.OwnedSteps.{after_one, refused_at, with_more}
use Rattle.meson_followed_values.proofs.losing.all_owned.Goals as goal

pub returns-in_err-found-clause-refused : goal.returns-in_err-found-clause-refused
returns-in_err-found-clause-refused c =
    let l = loaded_in c.args.follower.now in
    let gs = c.args.values.now in
    let vs = c.args.variables.now in
    let v = c.index-variables-i.result in
    let e = c.in_err-found.field-0.0 in
    passed c.from_residual.result e (all_owned l.files (project l) gs vs) c.from_residual.ensures.1
    (λ other. sym c.loop-i.invariant
    ∙ refused_at l.files (project l) gs vs c.loop-i.i v c.loop-i-test.true (sym c.index-variables-i.is) c.loop-i.all.items e (c.in_err-found.ensures.refused other))

pub loop-i-preserved : goal.loop-i-preserved
loop-i-preserved c =
    let l = loaded_in c.args.follower.now in
    let gs = c.args.values.now in
    let vs = c.args.variables.now in
    let i = c.loop-i.i in
    let v = c.index-variables-i.result in
    let found = c.in_ok-found.found.items in
    ap (λ cs. with_more cs (all_owned l.files (project l) gs (drop (i + 1) vs))) c.in_ok-append.ensures.items
    ∙ after_one l.files (project l) gs vs i v c.loop-i-test.true (sym c.index-variables-i.is) c.loop-i.all.items found c.in_ok-found.ensures.found
    ∙ c.loop-i.invariant
