use Rattle.std.proofs.Common.{◌≡◌, ◌++◌, drop, map}
use Rattle.meson_explaining.specs.Targets.{read_note}
use Rattle.meson_explaining.proofs.targets.add_each.Given as goal

abbrev pub invariant-loop-place : goal.invariant-loop-place
invariant-loop-place l =
    l.notes.items ++ map (read_note l.project l.name) (drop l.place-index l.places) ≡ l.initial.notes.items ++ map (read_note l.project l.name) l.places
