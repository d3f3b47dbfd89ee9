-- The ranges of notes in the paths of all.
use Rattle.std.specs.Prelude.{ℕ, ◌≤◌, List, All}
use Rattle.meson_calls.specs.declared.note.Ranged.{Ranged}

-- those of each begin and end among this number of steps
abbrev pub IsInside : ℕ → Ranged → Type 0
IsInside end r = (r.from ≤ r.to) × (r.to ≤ end)

abbrev pub AreInside : ℕ → List Ranged → Type 0
AreInside end rs = All (IsInside end) rs
