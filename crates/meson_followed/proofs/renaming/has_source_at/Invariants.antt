use Rattle.std.proofs.Common.{◌≡◌, drop, map}
use Rattle.std.specs.List.{list_any}
use Rattle.meson_followed.specs.CodeEdits.{met_view}
use Rattle.meson_followed.specs.Sources.{has_path}
use Rattle.meson_followed.proofs.renaming.has_source_at.Given as goal

abbrev pub invariant-loop-i : goal.invariant-loop-i
invariant-loop-i l = list_any (has_path l.path) (map met_view (drop l.i l.sources)) ≡ list_any (has_path l.path) (map met_view l.sources)
