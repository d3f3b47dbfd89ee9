use Rattle.std.proofs.Common.{◌≡◌, ◌++◌, drop, map}
use Rattle.std.specs.List.{filter_map}
use Rattle.meson_following.specs.CodeFollowing.{followed_project, mark_view}
use Rattle.meson_followed.specs.CodeEdits.{met_view}
use Rattle.meson_followed.specs.Sources.{source_of}
use Rattle.meson_followed.proofs.sources.sources_of.Given as goal

abbrev pub invariant-loop-i : goal.invariant-loop-i
invariant-loop-i l =
    let p = followed_project l.follower in
    map met_view l.sources.items ++ filter_map (source_of p l.number) (map mark_view (drop l.i l.marks)) ≡ filter_map (source_of p l.number) (map mark_view l.marks)
