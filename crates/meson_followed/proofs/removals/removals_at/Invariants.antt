use Rattle.std.proofs.Common.{◌≡◌, drop, map}
use Rattle.meson_followed.specs.CodeEdits.{met_view, path_now}
use Rattle.meson_followed.specs.CodeRemovals.{removal_view}
use Rattle.meson_followed.specs.FollowedEdits.{removals_at}
use Rattle.meson_followed.proofs.RemovedSources.{after_first}
use Rattle.meson_followed.proofs.removals.removals_at.Given as goal

abbrev pub invariant-loop-i : goal.invariant-loop-i
invariant-loop-i l =
    after_first (map removal_view l.all.items) (removals_at l.unknown (map met_view l.sources) (map path_now (drop l.i l.named)))
    ≡ removals_at l.unknown (map met_view l.sources) (map path_now l.named)
