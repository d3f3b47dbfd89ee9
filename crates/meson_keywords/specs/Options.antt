-- The default options of a project: the steps by which one is set or deleted. Meson manual, Rewriter: `default-options set`, `delete`.
use Rattle.std.specs.Prelude.{ℕ, Bool, List, [], ◌∷◌, ◌++◌, length, codes, if◌then◌else◌, Option, Some, None, is_some, option_and_then, Result, Ok, Err}
use Rattle.std.specs.List.{list_all}
use Rattle.meson_lex.specs.Literals.{literal}
use Rattle.meson_syntax.specs.Tree.{Nowhere, Expression, dictionary, Argument, pair}
use Rattle.meson_edit.specs.Edits.{Written, Remove, Replace, Wrap, elements}
use Rattle.meson_calls.specs.declared.call.CallRef.{CallRef}
use Rattle.meson_keywords.specs.declared.value_kinds.ElementKind.TheVariants as element
use Rattle.meson_calls.specs.declared.refusal.Refusal.{Refusal}
use Rattle.meson_calls.specs.declared.refusal.Refusal.TheVariants.{NotLiteral}
use Rattle.meson_calls.specs.Project.{child}
use Rattle.meson_calls.specs.Calls.{Numbered}
use Rattle.meson_calls.specs.Calls as calls
use Rattle.meson_steps.specs.Steps.{step_in, Step}
use Rattle.meson_steps.specs.WrittenTexts.{string_of, written_text}
use Rattle.meson_keywords.specs.ValueKinds.{written_element, written_list, written_named}
use Rattle.meson_keywords.specs.Tasks.{before_equals}
use Rattle.meson_keywords.specs.KeywordEdits.{behind_all, removed_from, passing, text_in, element_text, all_of_kind, ValueShape, an_array, no_array, value_shape}

abbrev pub options_key : List ℕ
options_key = codes "default_options"

-- `NAME=VALUE`
abbrev pub option_text : (name value : List ℕ) → List ℕ
option_text name value = name ++ (codes "=" ++ value)

-- whether a text is an entry of the option
abbrev pub is_entry : List ℕ → Option (List ℕ) → Bool
is_entry name text = calls.is name (option_and_then before_equals text)

abbrev pub is_entry_element : {S : Type 0} → List ℕ → Argument S → Bool
is_entry_element name x = is_entry name (element_text element.Text x)

-- ---- set

-- The first entry becomes the new one, and then later ones are removed. Without one the new one is inserted after all others.
abbrev pub set_in_list : CallRef → ℕ → List ℕ → List ℕ → List Step
set_in_list list many entry [] = behind_all list many (written_element element.Text entry) ∷ []
set_in_list list many entry (n ∷ more) = step_in list (Replace list.path.steps n (written_text entry)) ∷ removed_from list 0 more

-- A lone entry of the option becomes the new one. Any other value is first wrapped into an array.
abbrev pub set_in_lone : CallRef → ℕ → List ℕ → Bool → List Step
set_in_lone c n entry is_same =
    if is_same then step_in c (Replace c.path.steps n (written_text entry)) ∷ []
    else step_in c (Wrap c.path.steps n) ∷ behind_all (child c n) 1 (written_element element.Text entry) ∷ []

-- ---- delete

abbrev pub delete_lone : CallRef → ℕ → Bool → List Step
delete_lone c n is_same = if is_same then step_in c (Remove c.path.steps n) ∷ [] else []

-- ---- values: a literal, or an array of literals, or a dictionary with literals as its keys

abbrev pub of_lone : Option (List ℕ) → List Step → Result (List Step) Refusal
of_lone None steps = Err (NotLiteral options_key)
of_lone (Some text) steps = Ok steps

abbrev pub of_list : Bool → List Step → Result (List Step) Refusal
of_list known steps = if known then Ok steps else Err (NotLiteral options_key)

abbrev pub set_by_shape : {S : Type 0} → CallRef → ℕ → (name entry : List ℕ) → Option (List ℕ) → ValueShape S → Result (List Step) Refusal
set_by_shape c n name entry text (an_array xs) = of_list (all_of_kind element.Text xs)
    (set_in_list (child c n) (length xs) entry (passing (is_entry_element name) 0 xs))
set_by_shape c n name entry text no_array = of_lone text (set_in_lone c n entry (is_entry name text))

abbrev pub delete_by_shape : {S : Type 0} → CallRef → ℕ → List ℕ → Option (List ℕ) → ValueShape S → Result (List Step) Refusal
delete_by_shape c n name text (an_array xs) = of_list (all_of_kind element.Text xs) (removed_from (child c n) 0 (passing (is_entry_element name) 0 xs))
delete_by_shape c n name text no_array = of_lone text (delete_lone c n (is_entry name text))

-- ---- a dictionary: each option is a key, a literal

-- the entries, if it is one
abbrev pub entries : {S : Type 0} → Expression S → Option (List (Argument S))
entries (dictionary l) = Some (elements l)
entries _ = None

-- the text of an entry's key, if it is a string with a value
abbrev pub key_text : {S : Type 0} → Argument S → Option (List ℕ)
key_text (pair s k v) = calls.literal_of k
key_text _ = None

abbrev pub has_key : {S : Type 0} → List ℕ → Argument S → Bool
has_key name x = calls.is name (key_text x)

-- whether all keys are literals
abbrev pub keys_known : {S : Type 0} → List (Argument S) → Bool
keys_known xs = list_all (λ x. is_some (key_text x)) xs

-- `'NAME': 'VALUE'`
abbrev pub written_pair : (name value : List ℕ) → Written (Argument Nowhere)
written_pair name value = record { bytes = literal name ++ (codes ": " ++ literal value); node = pair tt (string_of name) (string_of value) }

-- The value of the first entry becomes the new one, and then later ones are removed. Without one a new one is inserted after all others.
abbrev pub set_in_dictionary : CallRef → ℕ → (name value : List ℕ) → List ℕ → List Step
set_in_dictionary list many name value [] = behind_all list many (written_pair name value) ∷ []
set_in_dictionary list many name value (n ∷ more) = step_in list (Replace list.path.steps n (written_text value)) ∷ removed_from list 0 more

-- by the entries, if the value is a dictionary, and else by its text and its shape
abbrev pub set_by_value : {S : Type 0} → CallRef → ℕ → (name value : List ℕ) → Expression S → Option (List (Argument S)) → Result (List Step) Refusal
set_by_value c n name value e (Some xs) = of_list (keys_known xs) (set_in_dictionary (child c n) (length xs) name value (passing (has_key name) 0 xs))
set_by_value c n name value e None = set_by_shape c n name (option_text name value) (text_in element.Text e) (value_shape e)

-- Every entry of the option is removed. The dictionary stays, even if it is empty.
abbrev pub delete_by_value : {S : Type 0} → CallRef → ℕ → List ℕ → Expression S → Option (List (Argument S)) → Result (List Step) Refusal
delete_by_value c n name e (Some xs) = of_list (keys_known xs) (removed_from (child c n) 0 (passing (has_key name) 0 xs))
delete_by_value c n name e None = delete_by_shape c n name (text_in element.Text e) (value_shape e)

-- ---- whether `default_options:` is there or not

abbrev pub set_option_there : {S : Type 0} → CallRef → ℕ → (name value : List ℕ) → Option (Numbered (Expression S)) → Result (List Step) Refusal
set_option_there c many name value None = Ok (behind_all c many (written_named options_key (written_list element.Text (option_text name value ∷ []))) ∷ [])
set_option_there c many name value (Some v) = set_by_value c v.number name value v.value (entries v.value)

-- Every entry of the option is removed. A lone value is removed with the argument.
abbrev pub delete_option_there : {S : Type 0} → CallRef → List ℕ → Option (Numbered (Expression S)) → Result (List Step) Refusal
delete_option_there c name None = Ok []
delete_option_there c name (Some v) = delete_by_value c v.number name v.value (entries v.value)
