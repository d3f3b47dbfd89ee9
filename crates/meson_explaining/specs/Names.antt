-- The name that a refusal means where its command has several.
use Rattle.std.specs.Prelude.{ℕ, ◌==◌, Bool, true, false, not, ◌&&◌, ◌||◌, List, [], ◌∷◌, find, is_some, Option, None, option_map}
use Rattle.std.specs.List.{list_any}
use Rattle.meson_calls.specs.Keys.{identifier_list_keys}
use Rattle.meson_calls.specs.Loading.{Loaded}
use Rattle.meson_calls.specs.Roles.{one_of}
use Rattle.meson_calls.specs.declared.call.Role.{Role}
use Rattle.meson_calls.specs.declared.refusal.Refusal.{Refusal}
use Rattle.meson_calls.specs.declared.refusal.Refusal.TheVariants as refusal
use Rattle.meson_keywords.specs.ValueKinds.{is_identifier}
use Rattle.meson_steps.specs.declared.command.Command.{Command}
use Rattle.meson_steps.specs.declared.command.Command.TheVariants as command
use Rattle.meson_steps.specs.declared.command.Setting.{Setting}
use Rattle.meson_steps.specs.declared.command.Setting.TheVariants as setting
use Rattle.meson_followed.specs.Changes.{names_of}
use Rattle.meson_explaining.specs.Followed.{is_absent, place_of, sought_names}
use Rattle.meson_explaining.specs.Sources.{extras_at, is_missing, sources_at}

-- ---- names that are not valid

abbrev pub is_empty_name : List ℕ → Bool
is_empty_name [] = true
is_empty_name (b ∷ bs) = false

-- `=` is the byte 61
abbrev pub has_equals : List ℕ → Bool
has_equals text = list_any (λ b. b == 61) text

-- an option's name is not empty and has no `=`
abbrev pub is_bad_option : List ℕ → Bool
is_bad_option name = is_empty_name name || has_equals name

abbrev pub is_bad_variable : List ℕ → Bool
is_bad_variable text = not (is_identifier text)

-- the first of the values that is not the name of a variable
abbrev pub bad_value : Setting → Option (List ℕ)
bad_value (setting.Text t) = find is_bad_variable (t ∷ [])
bad_value (setting.Bool b) = None
bad_value (setting.Texts ts) = find is_bad_variable ts

-- a key that takes variables, with another value
abbrev pub is_bad_pair : Role → List ℕ × Setting → Bool
is_bad_pair r pair = one_of (identifier_list_keys r) pair.0 && is_some (bad_value pair.1)

-- the key of the first pair that passes a test
abbrev pub find_key : {X : Type 0} → (List ℕ × X → Bool) → List (List ℕ × X) → Option (List ℕ)
find_key test pairs = option_map (λ p. p.0) (find test pairs)

abbrev pub bad_name : Command → Option (List ℕ)
bad_name (command.SourcesAdd target sources) = find is_empty_name sources
bad_name (command.SourcesAddSorted target sources) = find is_empty_name sources
bad_name (command.SourcesRemove target sources) = find is_empty_name sources
bad_name (command.SourcesRename target old new) = find is_empty_name (old ∷ new ∷ [])
bad_name (command.FollowedSources target change shared) = find is_empty_name (names_of change)
bad_name (command.ExtraAdd target sources) = find is_empty_name sources
bad_name (command.ExtraRemove target sources) = find is_empty_name sources
bad_name (command.TargetAdd target kind subdir sources) = find is_empty_name (target ∷ sources)
bad_name (command.KwargsSet r id pairs) = find_key (is_bad_pair r) pairs
bad_name (command.KwargsAdd r id pairs) = find_key (is_bad_pair r) pairs
bad_name (command.KwargsRemove r id pairs) = find_key (is_bad_pair r) pairs
bad_name (command.OptionsSet pairs) = find_key (λ p. is_bad_option p.0) pairs
bad_name (command.OptionsDelete names) = find is_bad_option names
bad_name _ = None

-- ---- names that the target does not have, as far as its sources or extra files are known

abbrev pub missing_name : Loaded → Command → Option (List ℕ)
missing_name l (command.SourcesRemove target sources) = find (is_missing (sources_at l target)) sources
missing_name l (command.SourcesRename target old new) = find (is_missing (sources_at l target)) (old ∷ [])
missing_name l (command.FollowedSources target change shared) = find (is_absent l (place_of l target)) (sought_names change)
missing_name l (command.ExtraRemove target sources) = find (is_missing (extras_at l target)) sources
missing_name l _ = None

-- ---- the name that is meant

abbrev pub meant_name : Loaded → Command → Refusal → Option (List ℕ)
meant_name l c refusal.BadName = bad_name c
meant_name l c refusal.SourceNotFound = missing_name l c
meant_name l c refusal.Unresolved = missing_name l c
meant_name l c _ = None
