-- The values of the keyword arguments that commands change, and what is written for them. Meson manual, Reference manual: `project`, `dependency`,
-- `executable`.
use Rattle.std.specs.Prelude.{ℕ, Bool, true, false, List, [], ◌∷◌, ◌++◌, map, codes, if◌then◌else◌, bytes_eq, Option, Some, None, ok_or, option_map, Result, Ok, Err}
use Rattle.std.specs.List.{list_all}
use Rattle.meson_lex.specs.Literals.{literal}
use Rattle.meson_splice.specs.Patch.{then_ok}
use Rattle.meson_syntax.specs.Tree.{bare_name, Nowhere, Expression, identifier, boolean, Argument, plain, named}
use Rattle.meson_edit.specs.Edits.{Written}
use Rattle.meson_calls.specs.declared.call.Role.{Role}
use Rattle.meson_steps.specs.declared.command.Setting.{Setting}
use Rattle.meson_steps.specs.declared.command.Setting.TheVariants as setting
use Rattle.meson_keywords.specs.declared.value_kinds.ElementKind.{ElementKind}
use Rattle.meson_keywords.specs.declared.value_kinds.ElementKind.TheVariants as element
use Rattle.meson_keywords.specs.declared.value_kinds.ValueKind.{ValueKind}
use Rattle.meson_keywords.specs.declared.value_kinds.ValueKind.TheVariants as value
use Rattle.meson_calls.specs.declared.refusal.Refusal.{Refusal}
use Rattle.meson_calls.specs.declared.refusal.Refusal.TheVariants.{UnknownKey, WrongKind, BadName}
use Rattle.meson_calls.specs.Keys.{identifier_list_keys, switch_keys, text_keys, text_list_keys}
use Rattle.meson_calls.specs.Roles.{one_of}
pub use Rattle.meson_steps.specs.Identifiers.{is_identifier, is_word}
use Rattle.meson_steps.specs.WrittenTexts.{string_of, array_of_values, comma_between, written_text}

-- ---- what the value of a keyword argument is, depending on the kind of call

abbrev pub key_kind : Role → List ℕ → Result ValueKind Refusal
key_kind r key =
    if one_of (text_keys r) key then Ok value.Text
    else (if one_of (switch_keys r) key then Ok value.Switch
    else (if one_of (text_list_keys r) key then Ok (value.ListOf element.Text)
    else (if one_of (identifier_list_keys r) key then Ok (value.ListOf element.Identifier)
    else Err (UnknownKey key))))

-- ---- what is written

abbrev pub element_bytes : ElementKind → List ℕ → List ℕ
element_bytes element.Text text = literal text
element_bytes element.Identifier text = text

abbrev pub element_node : ElementKind → List ℕ → Expression Nowhere
element_node element.Text text = string_of text
element_node element.Identifier text = identifier tt text

-- an element of a list
abbrev pub written_element : ElementKind → List ℕ → Written (Argument Nowhere)
written_element e text = record { bytes = element_bytes e text; node = plain (element_node e text) }

-- the array of these, on one line
abbrev pub written_list : ElementKind → List (List ℕ) → Written (Expression Nowhere)
written_list e texts = record { bytes = 91 ∷ (comma_between (map (element_bytes e) texts) ++ 93 ∷ []); node = array_of_values (map (element_node e) texts) }

abbrev pub truth_text : Bool → List ℕ
truth_text b = if b then codes "true" else codes "false"

abbrev pub written_switch : Bool → Written (Expression Nowhere)
written_switch b = record { bytes = truth_text b; node = boolean tt b }

-- `KEY: VALUE`
abbrev pub written_named : List ℕ → Written (Expression Nowhere) → Written (Argument Nowhere)
written_named key new = record { bytes = key ++ (codes ": " ++ new.bytes); node = named tt (bare_name key) new.node }

-- ---- the values of a command

-- the value to which a switch is set: a truth value, or its name
abbrev pub truth_of : Setting → Option Bool
truth_of (setting.Text t) = if bytes_eq t (codes "true") then Some true else (if bytes_eq t (codes "false") then Some false else None)
truth_of (setting.Bool b) = Some b
truth_of (setting.Texts ts) = None

-- the values for a list: one text is a list of one
abbrev pub setting_texts : Setting → Option (List (List ℕ))
setting_texts (setting.Text t) = Some (t ∷ [])
setting_texts (setting.Bool b) = None
setting_texts (setting.Texts ts) = Some ts

abbrev pub setting_text : Setting → Option (List ℕ)
setting_text (setting.Text t) = Some t
setting_text _ = None

-- an identifier list holds identifiers only
abbrev pub are_elements : ElementKind → List (List ℕ) → Bool
are_elements element.Text texts = true
are_elements element.Identifier texts = list_all is_identifier texts

abbrev pub checked_values : ElementKind → List (List ℕ) → Result (List (List ℕ)) Refusal
checked_values e texts = if are_elements e texts then Ok texts else Err BadName

-- the elements that a list gets
abbrev pub list_values : ElementKind → List ℕ → Setting → Result (List (List ℕ)) Refusal
list_values e key s = then_ok (ok_or (setting_texts s) (WrongKind key)) (checked_values e)

-- what is written for a value of a kind; a key takes no other value
abbrev pub written_value : ValueKind → List ℕ → Setting → Result (Written (Expression Nowhere)) Refusal
written_value value.Text key s = ok_or (option_map written_text (setting_text s)) (WrongKind key)
written_value value.Switch key s = ok_or (option_map written_switch (truth_of s)) (WrongKind key)
written_value (value.ListOf e) key s = then_ok (list_values e key s) (λ texts. Ok (written_list e texts))

-- Values are added to lists alone, and removed from them alone.
abbrev pub list_kind : List ℕ → ValueKind → Result ElementKind Refusal
list_kind key (value.ListOf e) = Ok e
list_kind key _ = Err (WrongKind key)
