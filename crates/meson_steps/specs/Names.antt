-- The names in a command.
use Rattle.std.specs.Prelude.{ℕ, List, [], ◌∷◌, if◌then◌else◌, Result, Ok, Err}
use Rattle.meson_calls.specs.declared.refusal.Refusal.{Refusal}
use Rattle.meson_calls.specs.declared.refusal.Refusal.TheVariants.{BadName}
use Rattle.meson_calls.specs.Roles.{one_of}

-- no name is empty
abbrev pub checked_names : List (List ℕ) → Result (Unit {0}) Refusal
checked_names [] = Ok tt
checked_names ([] ∷ more) = Err BadName
checked_names ((b ∷ bs) ∷ more) = checked_names more

-- each once, at its first place
abbrev pub distinct_by : List (List ℕ) → List (List ℕ) → List (List ℕ)
distinct_by seen [] = []
distinct_by seen (x ∷ xs) = if one_of seen x then distinct_by seen xs else x ∷ distinct_by (x ∷ seen) xs

abbrev pub distinct : List (List ℕ) → List (List ℕ)
distinct names = distinct_by [] names
