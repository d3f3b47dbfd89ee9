use Rattle.std.proofs.Common.{◌+◌, ◌≤◌, ◌++◌, length, drop, get_or, map, refl, sym, ap, arith, ◌∙◌}
use Rattle.std.specs.Prelude.{reverse}
use Rattle.std.specs.List.{filter_map}
use Rattle.std.proofs.lemmas.List.{at_drop_more}
use Rattle.meson_following.proofs.TakenTurns.{taken_all}
use Rattle.meson_following.specs.CodeFollowing.{followed_project}
use Rattle.meson_steps.specs.Names.{distinct_by}
use Rattle.meson_sharing.specs.CodeOwning.{with_name}
use Rattle.meson_sharing.specs.Sharing.{names_of, variable_of}
use Rattle.meson_sharing.proofs.OwnMakers.{kept_once}
use Rattle.meson_sharing.proofs.variable.names_of.Goals as goal

pub loop-i-preserved : goal.loop-i-preserved
loop-i-preserved c =
    let p = followed_project c.args.follower.now in
    let ms = c.args.makers.now in
    let i = c.loop-i.i in
    let d = c.index-makers-i.result in
    let names = map (λ x. x.now) c.loop-i.names.items in
    let rest = filter_map (variable_of p) (drop (i + 1) ms) in
    let turn = c.in_ok-take_name.ensures ∙ ap (λ m. with_name names (variable_of p m)) c.index-makers-i.is in
    ap (λ z. z ++ distinct_by (reverse z) rest) turn
    ∙ kept_once names (variable_of p (get_or ms i d)) rest
    ∙ ap (λ z. names ++ distinct_by (reverse names) z) (sym (at_drop_more (filter_map (variable_of p)) ms i d c.loop-i-test.true))
    ∙ c.loop-i.invariant

pub returns : goal.returns
returns c =
    let p = followed_project c.args.follower.now in
    let names = map (λ x. x.now) c.loop-i.names.items in
    let past : length c.args.makers.now ≤ c.loop-i.i = let e = c.loop-i-test.false in omega (arith, e) in
    taken_all (λ ms. distinct_by (reverse names) (filter_map (variable_of p) ms)) c.args.makers.now c.loop-i.i names (names_of p c.args.makers.now) refl past c.loop-i.invariant
