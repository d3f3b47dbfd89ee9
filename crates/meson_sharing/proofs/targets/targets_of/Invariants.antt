use Rattle.std.proofs.Common.{◌≡◌, ◌++◌, drop, flat_map, map}
use Rattle.meson_calls.specs.Notes.{note_views}
use Rattle.meson_following.specs.CodeFollowing.{followed_project}
use Rattle.meson_sharing.specs.CodeTargets.{target_view, targets_of_note}
use Rattle.meson_sharing.proofs.targets.targets_of.Given as goal

abbrev pub invariant-loop-i : goal.invariant-loop-i
invariant-loop-i l =
    let p = followed_project l.follower in
    map target_view l.found.items ++ flat_map (targets_of_note p) (note_views (drop l.i l.notes.items)) ≡ flat_map (targets_of_note p) (note_views l.notes.items)
