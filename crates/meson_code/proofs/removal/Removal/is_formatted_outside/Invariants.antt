use Rattle.std.proofs.Common.{◌≡◌, drop}
use Rattle.std.specs.List.{list_any}
use Rattle.meson_targets.specs.inside.TargetViews.{place_view}
use Rattle.meson_places.specs.Names.{loaded_in}
use Rattle.meson_places.specs.Uses.{placeholder, source_holds}
use Rattle.meson_code.specs.Removal.{is_formatted_outside, span_at, texts_from}
use Rattle.meson_code.proofs.removal.Removal.is_formatted_outside.Given as goal

-- whether one of the texts that are left holds it is whether one of all does
abbrev pub invariant-loop-i : goal.invariant-loop-i
invariant-loop-i l =
    list_any (source_holds (placeholder l.name)) (texts_from l.self.statement.now.block.file (span_at (loaded_in l.self.sources) (place_view l.self.statement.now)) l.i (drop l.i l.self.sources.files.now))
    ≡ is_formatted_outside (loaded_in l.self.sources) (place_view l.self.statement.now) l.name
