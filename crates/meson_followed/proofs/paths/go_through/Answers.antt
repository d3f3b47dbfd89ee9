use Rattle.std.proofs.Common.{◌<◌, ◌≤◌, length, map, ap, arith, ◌∙◌}
use Rattle.std.specs.List.{fold}
use Rattle.meson_followed.specs.Paths.{onward}
use Rattle.meson_followed.proofs.Turns.{fold_all, fold_turn}
use Rattle.meson_followed.proofs.paths.go_through.Goals as goal

pub loop-i-preserved : goal.loop-i-preserved
loop-i-preserved c =
    let within : c.loop-i.i < length c.in_ok-all.all.items = omega (arith, c.loop-i-test.true, c.len-i-end.ensures) in
    fold_turn onward (λ x. x.now) c.in_ok-all.all.items c.loop-i.i c.index.result.now c.index.result.now
    (map (λ x. x.now) c.loop-i.parts.items) (map (λ x. x.now) c.go_on.new.parts.items) _ within c.index.ensures c.in_ok-go_on.ensures c.loop-i.invariant

pub returns : goal.returns
returns c =
    let all = c.in_ok-all.all.items in
    let past : length all ≤ c.loop-i.i = let e = c.loop-i-test.false in omega (arith, e) in
    fold_all onward (λ x. x.now) all c.loop-i.i (map (λ x. x.now) c.loop-i.parts.items) _ past c.loop-i.invariant
    ∙ ap (fold onward (map (λ x. x.now) c.args.parts.now.items)) c.in_ok-all.ensures
