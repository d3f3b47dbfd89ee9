-- The calls whose names or variables are nearest to an id, by the number of edits from one to the other.
use Rattle.std.specs.Prelude.{ℕ, zero, suc, ◌+◌, ◌/◌, ◌==◌, min, nat_eq, nat_lt, Bool, false, if◌then◌else◌, List, [], ◌++◌, filter, length, map, take}
use Rattle.std.specs.Prelude.{Option, Some, None, option_and_then}
use Rattle.std.specs.Str.{chars, str_to_ascii_lowercase}
use Rattle.strsim.specs.Edits.{levenshtein_row}
use Rattle.meson_inventory.specs.declared.holdings.HeldCall.{HeldCall}
use Rattle.meson_explaining.specs.declared.explanation.Note.{Note}
use Rattle.meson_explaining.specs.Notes.{call_note}

-- how many edits lead from one text to the other: their Levenshtein distance
abbrev pub distance : List ℕ → List ℕ → ℕ
distance x y = levenshtein_row nat_eq (chars x) (chars y) (length (chars y))

-- the same, where the case of ASCII letters does not count
abbrev pub edits : List ℕ → List ℕ → ℕ
edits x y = distance (str_to_ascii_lowercase x) (str_to_ascii_lowercase y)

-- names of more than 100 bytes are too long
abbrev pub is_long : List ℕ → Bool
is_long name = nat_lt 100 (length name)

abbrev pub edits_to : List ℕ → List ℕ → Option ℕ
edits_to id name = if is_long name then None else Some (edits id name)

abbrev pub fewer : Option ℕ → Option ℕ → Option ℕ
fewer None more = more
fewer (Some n) None = Some n
fewer (Some n) (Some m) = Some (min n m)

-- from an id to the literal name of a call or to its variable, whichever is nearer, if it has one of the two
abbrev pub far : List ℕ → HeldCall → Option ℕ
far id c = fewer (option_and_then (edits_to id) c.head.name) (option_and_then (edits_to id) c.variable)

abbrev pub is_number : ℕ → Option ℕ → Bool
is_number n None = false
is_number n (Some m) = m == n

abbrev pub is_far : List ℕ → ℕ → HeldCall → Bool
is_far id n c = is_number n (far id c)

-- the calls that are nearer than n, the nearest first
abbrev pub nearer : List ℕ → ℕ → List HeldCall → List HeldCall
nearer id zero cs = []
nearer id (suc n) cs = nearer id n cs ++ filter (is_far id n) cs

-- Of the first 5000 calls those up to a third of the id's length away from it, the nearest first and three at most; none for an id that is too long.
abbrev pub nearest : List ℕ → List HeldCall → List HeldCall
nearest id cs = if is_long id then [] else take 3 (nearer id (length id / 3 + 1) (take 5000 cs))

abbrev pub near_notes : List ℕ → List HeldCall → List Note
near_notes id cs = map (call_note []) (nearest id cs)
