-- The steps of a change of a call's keyword arguments, by the elements that the call has.
use Rattle.std.specs.Prelude.{ℕ, zero, suc, ◌-◌, Bool, List, [], ◌∷◌, map, length, if◌then◌else◌, bytes_eq, Option, Some, None, is_some, Result, Ok, Err}
use Rattle.std.specs.List.{filter_map, list_all}
use Rattle.meson_syntax.specs.Tree.{Nowhere, Expression, array, Argument, plain, arguments_of}
use Rattle.meson_edit.specs.Edits.{Written, First, After, Remove, Replace, Wrap, elements}
use Rattle.meson_calls.specs.declared.call.CallRef.{CallRef}
use Rattle.meson_keywords.specs.declared.value_kinds.ElementKind.{ElementKind}
use Rattle.meson_keywords.specs.declared.value_kinds.ElementKind.TheVariants as element
use Rattle.meson_calls.specs.declared.refusal.Refusal.{Refusal}
use Rattle.meson_calls.specs.declared.refusal.Refusal.TheVariants.{DuplicateKeyword, NotLiteral}
use Rattle.meson_calls.specs.Keys.{name_of}
use Rattle.meson_calls.specs.Project.{child}
use Rattle.meson_calls.specs.Calls.{Numbered, numbered, kept_number, value_with_name}
use Rattle.meson_calls.specs.Calls as calls
use Rattle.meson_steps.specs.Steps.{step_in, Step}
use Rattle.meson_steps.specs.Names.{distinct_by}
use Rattle.meson_keywords.specs.ValueKinds.{written_element, written_list, written_named}

-- ---- the present keyword argument

-- the values of the arguments of a name
abbrev pub keyword_in : {S : Type 0} → List ℕ → List (Argument S) → List (Numbered (Expression S))
keyword_in key xs = filter_map (kept_number (value_with_name key)) (numbered 0 (arguments_of xs))

-- the only one, or none
abbrev pub one_at_most : {X : Type 0} → List ℕ → List X → Result (Option X) Refusal
one_at_most key [] = Ok None
one_at_most key (x ∷ []) = Ok (Some x)
one_at_most key (x ∷ y ∷ more) = Err (DuplicateKeyword key)

abbrev pub the_value : {S : Type 0} → List ℕ → List (Argument S) → Result (Option (Numbered (Expression S))) Refusal
the_value key xs = one_at_most key (keyword_in key xs)

-- ---- insertion

-- an element at the end of a list with this number of elements
abbrev pub behind_all : CallRef → ℕ → Written (Argument Nowhere) → Step
behind_all list zero new = step_in list (First list.path.steps new)
behind_all list (suc n) new = step_in list (After list.path.steps n new)

-- in order
abbrev pub all_behind : CallRef → ℕ → List (Written (Argument Nowhere)) → List Step
all_behind list n [] = []
all_behind list n (new ∷ more) = behind_all list n new ∷ all_behind list (suc n) more

-- ---- removal

-- the elements of these numbers, the least first, when this number before them is removed
abbrev pub removed_from : CallRef → ℕ → List ℕ → List Step
removed_from list gone [] = []
removed_from list gone (n ∷ more) = step_in list (Remove list.path.steps (n - gone)) ∷ removed_from list (suc gone) more

-- the numbers of the elements that pass a test, the first of which has the number n
abbrev pub passing : {X : Type 0} → (X → Bool) → ℕ → List X → List ℕ
passing test n [] = []
passing test n (x ∷ xs) = if test x then n ∷ passing test (suc n) xs else passing test (suc n) xs

-- ---- elements of a kind

-- the text of an element, if it is one of the kind: a string with a value, or a variable
abbrev pub text_in : {S : Type 0} → ElementKind → Expression S → Option (List ℕ)
text_in element.Text e = calls.literal_of e
text_in element.Identifier e = name_of e

abbrev pub element_text : {S : Type 0} → ElementKind → Argument S → Option (List ℕ)
element_text k (plain e) = text_in k e
element_text k _ = None

abbrev pub says : {S : Type 0} → ElementKind → List ℕ → Argument S → Bool
says k text x = calls.is text (element_text k x)

-- whether all are elements of the kind
abbrev pub all_of_kind : {S : Type 0} → ElementKind → List (Argument S) → Bool
all_of_kind k xs = list_all (λ x. is_some (element_text k x)) xs

-- a value is an array of elements, or another expression
pub data ValueShape (S : Type 0) : Type 0 where
  an_array : List (Argument S) → ValueShape S
  no_array : ValueShape S

abbrev pub value_shape : {S : Type 0} → Expression S → ValueShape S
value_shape (array l) = an_array (elements l)
value_shape _ = no_array

-- ---- set and delete

-- The value is replaced by the new one, whatever it was. An absent argument is inserted as the last one.
abbrev pub set_there : {S : Type 0} → CallRef → ℕ → List ℕ → Written (Expression Nowhere) → Option (Numbered (Expression S)) → Step
set_there c many key new None = behind_all c many (written_named key new)
set_there c many key new (Some v) = step_in c (Replace c.path.steps v.number new)

-- The argument is removed. An absent one changes nothing.
abbrev pub delete_there : {S : Type 0} → CallRef → Option (Numbered (Expression S)) → List Step
delete_there c None = []
delete_there c (Some v) = step_in c (Remove c.path.steps v.number) ∷ []

-- ---- add

-- those that are not among the known ones, each once
abbrev pub new_elements : ElementKind → (known values : List (List ℕ)) → List (Written (Argument Nowhere))
new_elements k known values = map (written_element k) (distinct_by known values)

-- A lone value of the kind is first wrapped into an array. No other value can be changed.
abbrev pub add_to_lone : CallRef → ℕ → List ℕ → ElementKind → List (List ℕ) → Option (List ℕ) → Result (List Step) Refusal
add_to_lone c n key k values None = Err (NotLiteral key)
add_to_lone c n key k values (Some text) = Ok (step_in c (Wrap c.path.steps n) ∷ all_behind (child c n) 1 (new_elements k (text ∷ []) values))

-- An array gets each value that is not an element yet, after its last one.
abbrev pub add_by_shape : {S : Type 0} → CallRef → ℕ → List ℕ → ElementKind → List (List ℕ) → Option (List ℕ) → ValueShape S → Result (List Step) Refusal
add_by_shape c n key k values text (an_array xs) = Ok (all_behind (child c n) (length xs) (new_elements k (filter_map (element_text k) xs) values))
add_by_shape c n key k values text no_array = add_to_lone c n key k values text

-- An absent argument is inserted as the list of the values, as they are given.
abbrev pub add_there : {S : Type 0} → CallRef → ℕ → List ℕ → ElementKind → List (List ℕ) → Option (Numbered (Expression S)) → Result (List Step) Refusal
add_there c many key k values None = Ok (behind_all c many (written_named key (written_list k values)) ∷ [])
add_there c many key k values (Some v) = add_by_shape c v.number key k values (text_in k v.value) (value_shape v.value)

-- ---- remove

-- A lone equal value is removed with its argument. A lone unequal one of the kind stays. Of any other value it is not known what it holds.
abbrev pub remove_lone : CallRef → ℕ → List ℕ → List ℕ → Option (List ℕ) → Result (List Step) Refusal
remove_lone c n key value None = Err (NotLiteral key)
remove_lone c n key value (Some text) = Ok (if bytes_eq value text then step_in c (Remove c.path.steps n) ∷ [] else [])

-- All equal elements are removed. If no element is equal, all elements have to be of the kind: another one may hold the value.
abbrev pub remove_equal : CallRef → List ℕ → Bool → List ℕ → Result (List Step) Refusal
remove_equal list key known [] = if known then Ok [] else Err (NotLiteral key)
remove_equal list key known (n ∷ more) = Ok (removed_from list 0 (n ∷ more))

abbrev pub remove_by_shape : {S : Type 0} → CallRef → ℕ → List ℕ → ElementKind → List ℕ → Option (List ℕ) → ValueShape S → Result (List Step) Refusal
remove_by_shape c n key k value text (an_array xs) = remove_equal (child c n) key (all_of_kind k xs) (passing (says k value) 0 xs)
remove_by_shape c n key k value text no_array = remove_lone c n key value text

abbrev pub remove_there : {S : Type 0} → CallRef → List ℕ → ElementKind → List ℕ → Option (Numbered (Expression S)) → Result (List Step) Refusal
remove_there c key k value None = Ok []
remove_there c key k value (Some v) = remove_by_shape c v.number key k value (text_in k v.value) (value_shape v.value)
