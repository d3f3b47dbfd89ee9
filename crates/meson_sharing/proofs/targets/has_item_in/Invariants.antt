use Rattle.std.proofs.Common.{◌≡◌, drop, map}
use Rattle.std.specs.List.{list_any}
use Rattle.meson_following.specs.CodeFollowing.{mark_view}
use Rattle.meson_sharing.specs.Sharing.{is_item_in}
use Rattle.meson_sharing.proofs.targets.has_item_in.Given as goal

abbrev pub invariant-loop-mark : goal.invariant-loop-mark
invariant-loop-mark l =
    list_any (is_item_in l.maker) (map mark_view (drop l.mark-index l.marks)) ≡ list_any (is_item_in l.maker) (map mark_view l.marks)
