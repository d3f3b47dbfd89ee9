use Rattle.std.proofs.Common.{◌≤◌, length, map, refl}
use Rattle.std.specs.List.{filter_map}
use Rattle.meson_following.specs.CodeFollowing.{followed_project, mark_view}
use Rattle.meson_following.proofs.TakenTurns.{taken_all}
use Rattle.meson_sharing.proofs.OwnMakers.{chosen_turn}
use Rattle.meson_followed.specs.CodeEdits.{met_view}
use Rattle.meson_followed.specs.Sources.{source_of}
use Rattle.meson_followed.proofs.sources.sources_of.Goals as goal

pub loop-i-preserved : goal.loop-i-preserved
loop-i-preserved c =
    let p = followed_project c.args.follower.now in
    let x = c.index-marks-i.result in
    chosen_turn (source_of p c.args.number) mark_view c.args.marks.now c.loop-i.i x x
    (map met_view c.loop-i.sources.items) (map met_view c.take_source.new.sources.items) _ c.loop-i-test.true c.index-marks-i.is
    c.in_ok-take_source.ensures c.loop-i.invariant

pub returns : goal.returns
returns c =
    let p = followed_project c.args.follower.now in
    let past : length c.args.marks.now ≤ c.loop-i.i = c.loop-i-test.false in
    taken_all (λ ms. filter_map (source_of p c.args.number) (map mark_view ms)) c.args.marks.now c.loop-i.i (map met_view c.loop-i.sources.items) _ refl past
    c.loop-i.invariant
