use Rattle.std.proofs.Common.{◌≤◌, [], ◌++◌, length, map, refl, ap, ◌∙◌}
use Rattle.std.specs.List.{cons_option, filter_map}
use Rattle.meson_following.specs.CodeFollowing.{mark_view}
use Rattle.meson_following.proofs.TakenTurns.{taken_all}
use Rattle.meson_sharing.proofs.OwnMakers.{chosen_turn}
use Rattle.meson_followed.specs.CodeEdits.{home_view}
use Rattle.meson_followed.specs.Homes.{empty_of}
use Rattle.meson_followed.proofs.homes.all_empty.Goals as goal

pub loop-i-preserved : goal.loop-i-preserved
loop-i-preserved c =
    let x = c.index-marks-i.result in
    let before = map home_view c.loop-i.homes.items in
    chosen_turn (empty_of c.args.number) mark_view c.args.marks.now c.loop-i.i x x before (map home_view c.take_home.new.homes.items) _
    c.loop-i-test.true c.index-marks-i.is (c.in_ok-take_home.ensures ∙ ap (λ home. before ++ cons_option home []) c.in_ok-home.ensures) c.loop-i.invariant

pub returns : goal.returns
returns c =
    let past : length c.args.marks.now ≤ c.loop-i.i = c.loop-i-test.false in
    taken_all (λ ms. filter_map (empty_of c.args.number) (map mark_view ms)) c.args.marks.now c.loop-i.i (map home_view c.loop-i.homes.items) _ refl past
    c.loop-i.invariant
