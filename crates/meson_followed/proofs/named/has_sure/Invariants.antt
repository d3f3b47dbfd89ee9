use Rattle.std.proofs.Common.{◌≡◌, drop, map}
use Rattle.std.specs.List.{list_any}
use Rattle.meson_followed.specs.CodeEdits.{met_view}
use Rattle.meson_followed.specs.FollowedEdits.{is_sure_at}
use Rattle.meson_followed.proofs.named.has_sure.Given as goal

abbrev pub invariant-loop-i : goal.invariant-loop-i
invariant-loop-i l = list_any (is_sure_at l.path) (map met_view (drop l.i l.sources)) ≡ list_any (is_sure_at l.path) (map met_view l.sources)
