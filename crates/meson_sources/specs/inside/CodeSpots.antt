-- Spots of the code, and those of the items that it keeps.
use Rattle.std.specs.Prelude.{ℕ, Bool, true, false, List, [], ◌∷◌, ◌++◌, length, map, if◌then◌else◌, Option, Some, None, ok_or, option_map, option_and_then, Result, Ok, Err}
use Rattle.std.specs.List.{list_any}
use Rattle.meson_splice.specs.Patch.{then_ok}
use Rattle.meson_calls.specs.declared.call.CallRef.{CallRef}
use Rattle.meson_variables.specs.declared.source.SourceItem.{SourceItem}
use Rattle.meson_variables.specs.declared.marks.Marks.{Marks}
use Rattle.meson_calls.specs.declared.refusal.Refusal.{Refusal}
use Rattle.meson_calls.specs.declared.refusal.Refusal.TheVariants.{NotRemovable, ThereAlready}
use Rattle.meson_steps.specs.Steps.{Step}
use Rattle.meson_sources.specs.SourceEdits.{Spot, none_found, renaming}
use Rattle.meson_sources.specs.declared.removing.ElementSpot as code
use Rattle.meson_sources.specs.inside.Naming.{has_value}
use Rattle.meson_calls.specs.Project.{place}

abbrev pub spot_view : code.ElementSpot → Spot
spot_view s = record { list = place s.file s.list.items; number = s.number }

-- ---- spots of a name

-- the spot of a list and a number, if both are there
abbrev pub spot_if_there : Option CallRef → Option ℕ → Option Spot
spot_if_there None number = None
spot_if_there (Some list) None = None
spot_if_there (Some list) (Some number) = Some (record { list = list; number = number })

-- those of the items of a name
abbrev pub spots_at : List ℕ → List SourceItem → List (Option ℕ) → List (Option Spot)
spots_at name (i ∷ items) (n ∷ numbers) = if has_value name i then spot_if_there i.list n ∷ spots_at name items numbers else spots_at name items numbers
spots_at name _ _ = []

-- all of them, if all are there
abbrev pub all_there : List (Option Spot) → Option (List Spot)
all_there [] = Some []
all_there (s ∷ more) = option_and_then (λ spot. option_map (λ spots. spot ∷ spots) (all_there more)) s

-- there must be at least one
abbrev pub spots_from : ℕ → List (Option Spot) → Result (List Spot) Refusal
spots_from unknown [] = Err (none_found unknown)
spots_from unknown (s ∷ more) = ok_or (all_there (s ∷ more)) NotRemovable

abbrev pub spots_of_names : List SourceItem → List (Option ℕ) → ℕ → List (List ℕ) → Result (List Spot) Refusal
spots_of_names items numbers unknown [] = Ok []
spots_of_names items numbers unknown (name ∷ more) =
    then_ok (spots_from unknown (spots_at name items numbers)) (λ here. then_ok (spots_of_names items numbers unknown more) (λ later. Ok (here ++ later)))

-- ---- spots among what the code has met

-- those of a name
abbrev pub spots_in : Marks → List ℕ → List (Option Spot)
spots_in m name = spots_at name m.items.items m.numbers.items

-- those of names, each of which has one, and all of which are in lists
abbrev pub all_spots_in : Marks → List (List ℕ) → Result (List Spot) Refusal
all_spots_in m names = spots_of_names m.items.items m.numbers.items (length m.unknown.items) names

-- ---- spots gathered after others

abbrev pub before_all : List Spot → Option (List Spot) → Option (List Spot)
before_all first more = option_map (λ later. first ++ later) more

abbrev pub joined_spots : List Spot → Result (List Spot) Refusal → Result (List Spot) Refusal
joined_spots first more = then_ok more (λ later. Ok (first ++ later))

abbrev pub is_some_there : List (Option Spot) → Bool
is_some_there [] = false
is_some_there (s ∷ more) = true

-- the steps that give all items of a name another one, which none may have
abbrev pub renamed_among : Marks → (old new : List ℕ) → Result (List Step) Refusal
renamed_among m old new =
    then_ok (all_spots_in m (old ∷ [])) (λ spots. if list_any (has_value new) m.items.items then Err ThereAlready else Ok (map (renaming new) spots))
