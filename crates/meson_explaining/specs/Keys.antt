-- Notes of the keys of keyword arguments.
use Rattle.std.specs.Prelude.{ℕ, zero, suc, ◌+◌, ◌/◌, ◌==◌, Bool, List, [], ◌∷◌, ◌++◌, if◌then◌else◌, length, find, flat_map, codes, Option, Some, None}
use Rattle.meson_calls.specs.declared.call.Role.{Role}
use Rattle.meson_calls.specs.declared.call.Role.TheVariants as role
use Rattle.meson_calls.specs.Keys.{identifier_list_keys, switch_keys, text_keys, text_list_keys}
use Rattle.meson_calls.specs.Roles.{one_of}
use Rattle.meson_explaining.specs.declared.explanation.Note.{Note}
use Rattle.meson_explaining.specs.Nearest.{edits, is_long}
use Rattle.meson_explaining.specs.Notes.{plain_note}

-- the keys of the keyword arguments that commands change in calls of a role
abbrev pub keys : Role → List (List ℕ)
keys r = text_keys r ++ (switch_keys r ++ (text_list_keys r ++ identifier_list_keys r))

-- ---- the nearest key

abbrev pub is_edits : List ℕ → ℕ → List ℕ → Bool
is_edits x n y = edits x y == n

abbrev pub or_then : {X : Type 0} → Option X → Option X → Option X
or_then None later = later
or_then (Some x) later = Some x

-- the first of those at the least distance below n
abbrev pub nearest_below : List ℕ → ℕ → List (List ℕ) → Option (List ℕ)
nearest_below key zero ks = None
nearest_below key (suc n) ks = or_then (nearest_below key n ks) (find (is_edits key n) ks)

-- up to a third of the key's length away; none for a key that is too long
abbrev pub nearest_key : List ℕ → List (List ℕ) → Option (List ℕ)
nearest_key key ks = if is_long key then None else nearest_below key (length key / 3 + 1) ks

-- ---- notes

abbrev pub role_words : Role → List ℕ
role_words role.Project = codes "the project"
role_words role.Dependency = codes "a dependency"
role_words role.Target = codes "a target"

abbrev pub after_space : List ℕ → List ℕ
after_space text = codes " " ++ text

-- commands do not change the key in calls of the role
abbrev pub unknown_notes : Role → List ℕ → List Note
unknown_notes r key =
    plain_note (codes "kwargs does not change the key " ++ (key ++ (codes " of " ++ role_words r)))
    ∷ plain_note (codes "keys that it changes there:" ++ flat_map after_space (keys r)) ∷ []

-- what a key takes as its value
abbrev pub kind_words : Role → List ℕ → List ℕ
kind_words r key =
    if one_of (text_keys r) key then codes "one text"
    else (if one_of (switch_keys r) key then codes "true or false"
    else (if one_of (text_list_keys r) key then codes "a list of texts"
    else (if one_of (identifier_list_keys r) key then codes "a list of variables"
    else codes "a function that makes targets, as executable or library")))

abbrev pub wrong_notes : Role → List ℕ → List Note
wrong_notes r key = plain_note (key ++ (codes " takes " ++ kind_words r key)) ∷ []
