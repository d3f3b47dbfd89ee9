-- What a JSON value has under a name.
use Rattle.std.specs.Prelude.{ℕ, List, Bool, false, ◌==◌, Option, option_map, option_and_then, unwrap_or}
use Rattle.serde_json.specs.Data.{Data}
use Rattle.serde_json.specs.Events.{members_len}
use Rattle.serde_json.specs.Find.{get, as_number, as_object, as_str, as_u64}

abbrev pub member_text : List ℕ → Data → Option (List ℕ)
member_text name d = option_and_then as_str (get name d)

-- a whole number of 64 bits without sign
abbrev pub whole_at : List ℕ → Data → Option ℕ
whole_at name d = option_and_then as_u64 (option_and_then as_number (get name d))

-- whether it is an object of n members
abbrev pub has_members : ℕ → Data → Bool
has_members n d = unwrap_or (option_map (λ ms. members_len ms == n) (as_object d)) false
