-- Which key of a file a new colon is taken from.
use Rattle.std.specs.Prelude.{◌≡◌, ℕ, ◌<◌, ◌≤◌, List, Some}
use Rattle.std.specs.List.{Contains}
use Rattle.meson_places.specs.Colons.{ends_before, last_end}

-- This is the end of one of the keys before an offset, and no other key before it ends later.
pub record IsLastBefore (ends : List ℕ) (at_ end : ℕ) : Type 0 where
  pub is_one : Contains ends end
  pub is_before : end < at_
  pub is_last : (other : ℕ) → Contains ends other → other < at_ → other ≤ end

-- the law: so it is of the key whose colon a list without keys takes
abbrev pub TakesLastColon : Type 0
TakesLastColon = (ends : List ℕ) (at_ end : ℕ) → last_end (ends_before at_ ends) ≡ Some end → IsLastBefore ends at_ end
