use Rattle.std.proofs.Common.{◌≡◌, ◌++◌, drop, map}
use Rattle.meson_following.specs.CodeFollowing.{followed_project}
use Rattle.meson_followed.specs.CodeEdits.{name_now, path_now}
use Rattle.meson_followed.specs.Sources.{distinct_paths, distinct_paths_by, named_path}
use Rattle.meson_followed.proofs.named.distinct_paths.Given as goal

abbrev pub invariant-loop-i : goal.invariant-loop-i
invariant-loop-i l =
    let p = followed_project l.follower in
    (map name_now l.all.items ++ distinct_paths_by p l.number (map path_now l.all.items) (drop l.i l.names) ≡ distinct_paths p l.number l.names)
    × (map path_now l.all.items ≡ map (named_path p l.number) (map name_now l.all.items))
