-- Reading each item of a JSON array, and each member of an object.
use Rattle.std.specs.Prelude.{ℕ, List, [], ◌∷◌, Option, Some, option_map, option_and_then}
use Rattle.serde_json.specs.Data.{Data, Items, no_items, item, Members, no_members, member}

-- what f gives for each item, if it gives something for all
unfoldable pub each_of : {A : Type 0} → (Data → Option A) → Items → Option (List A)
each_of f no_items = Some []
each_of f (item d ds) = option_and_then (λ x. option_map (λ xs. x ∷ xs) (each_of f ds)) (f d)

-- each member's name with what f gives for its value, if it gives something for all
unfoldable pub each_member : {A : Type 0} → (Data → Option A) → Members → Option (List (List ℕ × A))
each_member f no_members = Some []
each_member f (member name d ms) = option_and_then (λ x. option_map (λ xs. (name, x) ∷ xs) (each_member f ms)) (f d)

unfoldable pub names_of_members : Members → List (List ℕ)
names_of_members no_members = []
names_of_members (member name d ms) = name ∷ names_of_members ms
