-- The names of keyword arguments are in rising order, and each has its value.
use Rattle.std.specs.Prelude.{◌≡◌, ◌≢◌, ℕ, List, [], ◌∷◌, Some, All}
use Rattle.std.specs.List.{AllPairs}
use Rattle.std.specs.List.Sorted.{IsStrictlySortedBy}
use Rattle.std.specs.Ordering.{nat_cmp}
use Rattle.std.specs.Cmp.Lexicographic.{slice_cmp}
use Rattle.serde_json.specs.Data.{Members, no_members, member}
use Rattle.serde_json.specs.Find.{get_member}
use Rattle.meson_details.specs.declared.details.Shown.{Shown}
use Rattle.meson_listing.specs.Entries.{put_each, shown_data}

abbrev pub member_names : Members → List (List ℕ)
member_names no_members = []
member_names (member name d ms) = name ∷ member_names ms

pub record AreInOrder (pairs : List (List ℕ × Shown)) : Type 0 where
  pub rising : IsStrictlySortedBy (slice_cmp nat_cmp) (member_names (put_each no_members pairs))
  pub each : AllPairs (λ p q. p.0 ≢ q.0) pairs → All (λ p. get_member p.0 (put_each no_members pairs) ≡ Some (shown_data p.1)) pairs

abbrev pub NamesRise : Type 0
NamesRise = (pairs : List (List ℕ × Shown)) → AreInOrder pairs
