use Rattle.std.proofs.Common.{◌≡◌, drop, map}
use Rattle.meson_followed.specs.CodeEdits.{met_view}
use Rattle.meson_followed.specs.CodeRemovals.{removal_view}
use Rattle.meson_followed.specs.FollowedEdits.{removals_of}
use Rattle.meson_followed.specs.Sources.{sources_at}
use Rattle.meson_followed.proofs.RemovedSources.{with_first}
use Rattle.meson_followed.proofs.removals.removals_of.Given as goal

abbrev pub invariant-loop-i : goal.invariant-loop-i
invariant-loop-i l =
    with_first (map removal_view l.all.items) (removals_of (sources_at (map met_view (drop l.i l.sources)) l.path))
    ≡ removals_of (sources_at (map met_view l.sources) l.path)
