-- Words in pairs, each a name with its value.
use Rattle.std.specs.Prelude.{ℕ, Bool, false, ◌||◌, List, [], ◌∷◌, map, Option, Some, None, ok_or, option_map, Result, Ok, Err, bytes_eq, if◌then◌else◌}
use Rattle.std.specs.List.{list_any}
use Rattle.meson_splice.specs.Patch.{then_ok}
use Rattle.meson_command.specs.declared.fault.UsageFault.{UsageFault}
use Rattle.meson_command.specs.declared.fault.UsageFault.TheVariants.{OddWords, RepeatedKey}

-- two by two, if none is left over
abbrev pub in_pairs : List (List ℕ) → Option (List (List ℕ × List ℕ))
in_pairs [] = Some []
in_pairs (name ∷ []) = None
in_pairs (name ∷ value ∷ words) = option_map (λ pairs. (name, value) ∷ pairs) (in_pairs words)

abbrev pub pair_names : List (List ℕ × List ℕ) → List (List ℕ)
pair_names pairs = map (λ p. p.0) pairs

-- some name is equal to a later one
abbrev pub repeats : List (List ℕ) → Bool
repeats [] = false
repeats (x ∷ xs) = list_any (λ y. bytes_eq y x) xs || repeats xs

unfoldable pub pairs_of : List (List ℕ) → Result (List (List ℕ × List ℕ)) UsageFault
pairs_of words = then_ok (ok_or (in_pairs words) OddWords) (λ pairs. if repeats (pair_names pairs) then Err RepeatedKey else Ok pairs)

-- words that are names alone, none of them twice
unfoldable pub lone_names : List (List ℕ) → Result (List (List ℕ)) UsageFault
lone_names words = if repeats words then Err RepeatedKey else Ok words
