use Rattle.std.proofs.Common.{◌<◌, ◌≤◌, ◌++◌, flat_map, length, map, refl, ap, arith, ◌∙◌}
use Rattle.meson_following.specs.CodeFollowing.{followed_project}
use Rattle.meson_following.specs.Reads.{reads_of_variable}
use Rattle.meson_sharing.proofs.OwnMakers.{each_turn}
use Rattle.meson_following.proofs.TakenTurns.{taken_all}
use Rattle.meson_sharing.proofs.owning.reads_of.Goals as goal

pub loop-i-preserved : goal.loop-i-preserved
loop-i-preserved c =
    let p = followed_project c.args.follower.now in
    let before = c.loop-i.reads.items in
    let within : c.loop-i.i < length c.in_ok-names.names.items = omega (arith, c.loop-i-test.true, c.len-i-end.ensures) in
    each_turn (reads_of_variable p c.args.makers.now) (λ x. x.now) c.in_ok-names.names.items c.loop-i.i c.index.result.now c.index.result.now
    before c.append.new.self.items _ within c.index.ensures
    (c.in_ok-append.ensures.items ∙ ap (λ more. before ++ more) c.in_ok-more.ensures) c.loop-i.invariant

pub returns : goal.returns
returns c =
    let p = followed_project c.args.follower.now in
    let all = c.in_ok-names.names.items in
    let past : length all ≤ c.loop-i.i = let e = c.loop-i-test.false in omega (arith, e) in
    taken_all (λ ns. flat_map (reads_of_variable p c.args.makers.now) (map (λ x. x.now) ns)) all c.loop-i.i c.loop-i.reads.items _ refl past c.loop-i.invariant
    ∙ ap (flat_map (reads_of_variable p c.args.makers.now)) c.in_ok-names.ensures
