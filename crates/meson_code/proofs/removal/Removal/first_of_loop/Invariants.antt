use Rattle.std.proofs.Common.{◌≡◌, drop}
use Rattle.std.specs.List.{find}
use Rattle.meson_syntax.specs.View.{names_at}
use Rattle.meson_calls.specs.Notes.{a_loop}
use Rattle.meson_targets.specs.inside.TargetViews.{place_view}
use Rattle.meson_places.specs.Names.{loaded_in}
use Rattle.meson_code.specs.Removal.{is_needed, names_set}
use Rattle.meson_code.proofs.removal.Removal.first_of_loop.Given as goal

-- the first of the names that are left is the first of all
abbrev pub invariant-loop-i : goal.invariant-loop-i
invariant-loop-i l =
    find (is_needed (loaded_in l.self.sources) (place_view l.self.statement.now)) (names_set (a_loop (names_at l.source (drop l.i l.names))))
    ≡ find (is_needed (loaded_in l.self.sources) (place_view l.self.statement.now)) (names_set (a_loop (names_at l.source l.names)))
