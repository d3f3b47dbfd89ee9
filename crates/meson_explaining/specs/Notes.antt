-- Notes of calls.
use Rattle.std.specs.Prelude.{ℕ, ◌-◌, ◌==◌, if◌then◌else◌, List, [], ◌∷◌, ◌++◌, length, map, take, codes, decimal, Some, None}
use Rattle.meson_inventory.specs.Inventory.{call_words}
use Rattle.meson_inventory.specs.declared.holdings.HeldCall.{HeldCall}
use Rattle.meson_explaining.specs.declared.explanation.Note.{Note}
use Rattle.meson_explaining.specs.declared.explanation.Spot.{Spot}

-- where a call is
abbrev pub spot_of : HeldCall → Spot
spot_of c = record { file = c.file; at = c.head.at; end = c.end }

-- `FUNCTION 'NAME', variable VARIABLE`, and what else is to be said of it
abbrev pub call_note : List ℕ → HeldCall → Note
call_note more c = record { spot = Some (spot_of c); text = call_words c ++ more }

abbrev pub plain_note : List ℕ → Note
plain_note text = record { spot = None; text = text }

-- how many there are, unless there are none
abbrev pub further : List ℕ → ℕ → List Note
further what n = if n == 0 then [] else plain_note (what ++ (codes ": " ++ decimal n)) ∷ []

-- at most so many, and how many others there are
abbrev pub few_notes : ℕ → List ℕ → List ℕ → List HeldCall → List Note
few_notes most more others cs = map (call_note more) (take most cs) ++ further others (length cs - most)
