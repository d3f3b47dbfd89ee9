use Rattle.std.proofs.Common.{◌<◌, ◌≤◌, flat_map, length, map, refl, sym, ap, arith, subst, ◌∙◌}
use Rattle.meson_calls.specs.Notes.{note_view, note_views}
use Rattle.meson_calls.specs.Parts.{parts}
use Rattle.meson_calls.specs.Strings.{AreGood, note_words}
use Rattle.meson_calls.proofs.GoodNotes.{good_at, taken_good}
use Rattle.meson_following.specs.CodeFollowing.{followed_project}
use Rattle.meson_following.proofs.TakenTurns.{taken_all}
use Rattle.meson_sharing.specs.CodeTargets.{target_view, targets_of_note}
use Rattle.meson_sharing.proofs.OwnMakers.{each_turn}
use Rattle.meson_sharing.proofs.ToldTargets.{notes_targets}
use Rattle.meson_sharing.proofs.targets.targets_of.Goals as goal

pub take_target-requires-clause-good : goal.take_target-requires-clause-good
take_target-requires-clause-good c =
    let f = c.args.follower.now in
    let ns = c.in_ok-notes.notes.items in
    let within : c.loop-i.i < length ns = omega (arith, c.loop-i-test.true, c.len-i-end.ensures) in
    let good = taken_good f.files.now f.trees.now c.requires.parsed (note_views ns) (c.in_ok-notes.ensures ∙ c.in_ok-taken.ensures) in
    subst (λ n. AreGood (note_words (note_view n).it)) (sym c.index.ensures) (good_at ns c.loop-i.i c.index.result.now within good)

pub loop-i-preserved : goal.loop-i-preserved
loop-i-preserved c =
    let p = followed_project c.args.follower.now in
    let within : c.loop-i.i < length c.in_ok-notes.notes.items = omega (arith, c.loop-i-test.true, c.len-i-end.ensures) in
    each_turn (targets_of_note p) note_view c.in_ok-notes.notes.items c.loop-i.i c.index.result.now c.index.result.now
    (map target_view c.loop-i.found.items) (map target_view c.take_target.new.found.items) _ within c.index.ensures c.in_ok-take_target.ensures c.loop-i.invariant

pub returns : goal.returns
returns c =
    let p = followed_project c.args.follower.now in
    let all = c.in_ok-notes.notes.items in
    let past : length all ≤ c.loop-i.i = let e = c.loop-i-test.false in omega (arith, e) in
    taken_all (λ ns. flat_map (targets_of_note p) (note_views ns)) all c.loop-i.i (map target_view c.loop-i.found.items) _ refl past c.loop-i.invariant
    ∙ ap (flat_map (targets_of_note p)) (c.in_ok-notes.ensures ∙ c.in_ok-taken.ensures) ∙ notes_targets p (parts p)
