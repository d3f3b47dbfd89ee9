-- The steps that set or delete the value of a slot.
use Rattle.std.specs.Prelude.{ℕ, zero, suc, ◌+◌, Bool, false, List, [], ◌∷◌, ◌++◌, length, if◌then◌else◌, Option, Some, None, option_map, option_and_then, Result, Ok, Err}
use Rattle.meson_lex.specs.declared.kinds.Span.{Span}
use Rattle.meson_lex.specs.Literals.{literal}
use Rattle.meson_splice.specs.Files.{bytes_at}
use Rattle.meson_syntax.specs.Tree.{Argument, plain, named, pair, Expression, Nowhere, bare_name}
use Rattle.meson_edit.specs.Edits.{After, First, Remove, Replace, Written}
use Rattle.meson_calls.specs.declared.call.CallRef.{CallRef}
use Rattle.meson_calls.specs.declared.refusal.Refusal.TheVariants.{BadName, NoSuchValue, NotLiteral, NotRemovable, OtherKind}
use Rattle.meson_calls.specs.Loading.{Loaded, project}
use Rattle.meson_calls.specs.Project.{Project, child, expression_at}
use Rattle.meson_steps.specs.Steps.{Step, step_in}
use Rattle.meson_steps.specs.WrittenTexts.{string_of}
use Rattle.meson_places.specs.declared.elements.ListKind.{ListKind}
use Rattle.meson_places.specs.declared.elements.ListKind.TheVariants as kind
use Rattle.meson_calls.specs.declared.refusal.Refusal.{Refusal}
use Rattle.meson_places.specs.declared.slots.Slot.{Slot}
use Rattle.meson_places.specs.declared.slots.Slot.TheVariants as slot
use Rattle.meson_steps.specs.declared.given.Given.{Given}
use Rattle.meson_steps.specs.declared.given.Given.TheVariants as given
use Rattle.meson_places.specs.AssignedValues.{assigned_if, is_assigned}
use Rattle.meson_places.specs.Colons.{colon_text, ends_in_file, is_spaced_in}
use Rattle.meson_places.specs.Slots.{Child, elements_in, list_kind, nth_child}
use Rattle.meson_places.specs.Values.{are_texts, is_identifier, keeps_kind}

-- ---- the value of a slot

-- the value of the n-th element of the list there, and its number among the children there
abbrev pub element_child : {S : Type 0} → Project S → CallRef → ℕ → Option (Child S)
element_child p list n = option_and_then (λ e. nth_child 0 (elements_in e) n) (expression_at p list)

abbrev pub slot_value : {S : Type 0} → Project S → Slot → Option (Expression S)
slot_value p (slot.Element list n) = option_map (λ c. c.value) (element_child p list n)
slot_value p (slot.Absent list key) = None
slot_value p (slot.Whole c) = expression_at p c

-- and its place
abbrev pub slot_place : {S : Type 0} → Project S → Slot → Option CallRef
slot_place p (slot.Element list n) = option_map (λ c. child list c.number) (element_child p list n)
slot_place p (slot.Absent list key) = None
slot_place p (slot.Whole c) = Some c

-- ---- set, where a value is there

-- this many elements from a number on are removed, the last one first
abbrev pub rest_removed : CallRef → (from many : ℕ) → List Step
rest_removed list from zero = []
rest_removed list from (suc m) = step_in list (Remove list.path.steps (from + m)) ∷ rest_removed list from m

-- an array with this number of elements gets one element, in the place of the first one
abbrev pub alone_in_array : CallRef → ℕ → Written (Expression Nowhere) → List Step
alone_in_array list zero w = step_in list (First list.path.steps (record { bytes = w.bytes; node = plain w.node })) ∷ []
alone_in_array list (suc m) w = step_in list (Replace list.path.steps 0 w) ∷ rest_removed list 1 m

-- a text in the place of an array of texts becomes its only element
abbrev pub replaces_texts : {S : Type 0} → Given → Expression S → Bool
replaces_texts (given.Text text) e = are_texts e
replaces_texts (given.Switch b) e = false
replaces_texts (given.Code code) e = false

abbrev pub set_there : {S : Type 0} → Given → Written (Expression Nowhere) → (key : List ℕ) → CallRef → ℕ → Option (Child S)
    → Result (List Step) Refusal
set_there g w key list n None = Err (NoSuchValue key)
set_there g w key list n (Some c) =
    if keeps_kind g c.value then Ok (step_in list (Replace list.path.steps n w) ∷ [])
    else (if replaces_texts g c.value then Ok (alone_in_array (child list c.number) (length (elements_in c.value)) w) else Err (OtherKind key))

-- ---- set, where no value is there

-- an element at the end of a list with this number of elements
abbrev pub behind_all : CallRef → ℕ → Written (Argument Nowhere) → Step
behind_all list zero new = step_in list (First list.path.steps new)
behind_all list (suc n) new = step_in list (After list.path.steps n new)

abbrev pub written_keyword : (key colon : List ℕ) → Written (Expression Nowhere) → Written (Argument Nowhere)
written_keyword key colon w = record { bytes = key ++ (colon ++ w.bytes); node = named tt (bare_name key) w.node }

abbrev pub written_entry : (key colon : List ℕ) → Written (Expression Nowhere) → Written (Argument Nowhere)
written_entry key colon w = record { bytes = literal key ++ (colon ++ w.bytes); node = pair tt (string_of key) w.node }

-- a call with this number of arguments gets a keyword argument, if the key is an identifier, and a dictionary an entry, each as its last element
abbrev pub keyword_behind : (spaced : Bool) → Written (Expression Nowhere) → (key : List ℕ) → CallRef → ℕ → Result (List Step) Refusal
keyword_behind spaced w key list many = Ok (behind_all list many (written_keyword key (colon_text spaced) w) ∷ [])

abbrev pub added_keyword : (spaced : Bool) → Written (Expression Nowhere) → (key : List ℕ) → CallRef → ℕ → Result (List Step) Refusal
added_keyword spaced w key list many = if is_identifier key then keyword_behind spaced w key list many else Err BadName

abbrev pub added_entry : (spaced : Bool) → Written (Expression Nowhere) → (key : List ℕ) → CallRef → ℕ → Result (List Step) Refusal
added_entry spaced w key list many = Ok (behind_all list many (written_entry key (colon_text spaced) w) ∷ [])

abbrev pub added_by_kind : (spaced : Bool) → Written (Expression Nowhere) → (key : List ℕ) → CallRef → ListKind → ℕ → Result (List Step) Refusal
added_by_kind spaced w key list kind.Call many = added_keyword spaced w key list many
added_by_kind spaced w key list kind.Dictionary many = added_entry spaced w key list many
added_by_kind spaced w key list kind.Array many = Err (NotLiteral key)

abbrev pub added_there : (spaced : Bool) → Written (Expression Nowhere) → (key : List ℕ) → CallRef → Option ListKind → ℕ → Result (List Step) Refusal
added_there spaced w key list (Some k) many = added_by_kind spaced w key list k many
added_there spaced w key list None many = Err (NotLiteral key)

-- in a file of these bytes, and with these ends of the keys of keyword arguments
abbrev pub added_to : (source ends : List ℕ) → Written (Expression Nowhere) → (key : List ℕ) → CallRef → Option (Expression Span) → Result (List Step) Refusal
added_to source ends w key list None = Err (NoSuchValue key)
added_to source ends w key list (Some e) = added_there (is_spaced_in source ends e) w key list (list_kind e) (length (elements_in e))

-- ---- set, where an assigned value is there

-- of the value's own kind, or a text for an array of texts
abbrev pub set_assigned : {S : Type 0} → Given → Written (Expression Nowhere) → (key : List ℕ) → CallRef → Expression S → Result (List Step) Refusal
set_assigned g w key c e =
    if keeps_kind g e then assigned_if key c g w
    else (if replaces_texts g e then Ok (alone_in_array c (length (elements_in e)) w) else Err (OtherKind key))

-- A call or a list that is no assigned value is not set.
abbrev pub set_whole : Loaded → Given → Written (Expression Nowhere) → (key : List ℕ) → CallRef → Option (Expression Span) → Result (List Step) Refusal
set_whole l g w key c None = Err (NoSuchValue key)
set_whole l g w key c (Some e) = if is_assigned (project l) c then set_assigned g w key c e else Err (NotLiteral key)

-- ---- the steps

-- the key is the last of those that named the slot
abbrev pub set_steps : Loaded → Given → Written (Expression Nowhere) → (key : List ℕ) → Slot → Result (List Step) Refusal
set_steps l g w key (slot.Element list n) = set_there g w key list n (element_child (project l) list n)
set_steps l g w key (slot.Absent list k) = added_to (bytes_at list.file l.files) (ends_in_file l list.file) w k list (expression_at (project l) list)
set_steps l g w key (slot.Whole c) = set_whole l g w key c (expression_at (project l) c)

-- what is absent stays so, and an assigned value or a list itself can't be deleted
abbrev pub delete_steps : Slot → Result (List Step) Refusal
delete_steps (slot.Element list n) = Ok (step_in list (Remove list.path.steps n) ∷ [])
delete_steps (slot.Absent list key) = Ok []
delete_steps (slot.Whole c) = Err NotRemovable
