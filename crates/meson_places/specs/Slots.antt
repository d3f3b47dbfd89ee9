-- Where in an expression the value of a key is: the slot of an argument, an entry or an element.
use Rattle.std.specs.Prelude.{ℕ, zero, suc, ◌+◌, ◌^◌, nat_lt, Bool, true, false, not, ◌&&◌, List, [], ◌∷◌, length, bytes_eq, if◌then◌else◌, Option, Some, None, Result, Ok, Err}
use Rattle.std.specs.Str.{all_ascii_digits}
use Rattle.std.specs.Str.Parse.{digits_value}
use Rattle.meson_syntax.specs.Tree.{Expression, array, dictionary, call, Argument, plain, named, pair}
use Rattle.meson_syntax.specs.Paths.{nth}
use Rattle.meson_edit.specs.Edits.{elements, is_empty}
use Rattle.meson_calls.specs.declared.call.CallRef.{CallRef}
use Rattle.meson_calls.specs.declared.refusal.Refusal.TheVariants.{DuplicateKeyword, HiddenKeywords, NoSuchValue, NotFound, NotLiteral}
use Rattle.meson_calls.specs.Calls.{is, literal_of}
use Rattle.meson_calls.specs.NamedArguments.{kwargs_key}
use Rattle.meson_calls.specs.Parts.{argument_child_count}
use Rattle.meson_calls.specs.Project.{Project, child, expression_at}
use Rattle.meson_calls.specs.declared.refusal.Refusal.{Refusal}
use Rattle.meson_places.specs.declared.elements.ListKind.{ListKind}
use Rattle.meson_places.specs.declared.elements.ListKind.TheVariants as kind
use Rattle.meson_places.specs.declared.slots.Slot.{Slot}
use Rattle.meson_places.specs.declared.slots.Slot.TheVariants as slot

-- ---- numbers

-- decimal digits and nothing else, of a number below 2 ^ 64
abbrev pub is_number : List ℕ → Bool
is_number word = all_ascii_digits word && (nat_lt 0 (length word) && nat_lt (digits_value 10 word) (2 ^ 64))

unfoldable pub number_of : List ℕ → Option ℕ
number_of word = if is_number word then Some (digits_value 10 word) else None

-- ---- elements

abbrev pub has_no_name : {S : Type 0} → Argument S → Bool
has_no_name (plain e) = true
has_no_name (named s x e) = false
has_no_name (pair s k v) = false

abbrev pub has_name : {S : Type 0} → List ℕ → Argument S → Bool
has_name key (plain e) = false
has_name key (named s x e) = bytes_eq x.text key
has_name key (pair s k v) = false

-- an entry whose key is a literal of this text
abbrev pub has_key : {S : Type 0} → List ℕ → Argument S → Bool
has_key key (plain e) = false
has_key key (named s x e) = false
has_key key (pair s k v) = is key (literal_of k)

-- the numbers of the elements that pass a test, the first of which has the number n
abbrev pub passing : {X : Type 0} → (X → Bool) → ℕ → List X → List ℕ
passing test n [] = []
passing test n (x ∷ xs) = if test x then n ∷ passing test (suc n) xs else passing test (suc n) xs

-- ---- what a key names in an expression: the number of an element of its list, or nothing that is there yet

-- a name or a text may be there once
abbrev pub at_most_one : List ℕ → List ℕ → Result (Option ℕ) Refusal
at_most_one key [] = Ok None
at_most_one key (n ∷ []) = Ok (Some n)
at_most_one key (n ∷ m ∷ more) = Err (DuplicateKeyword key)

-- a number has to be there
abbrev pub that_number : List ℕ → Option ℕ → Result (Option ℕ) Refusal
that_number key None = Err (NoSuchValue key)
that_number key (Some n) = Ok (Some n)

-- a call with `kwargs:` may have any other keyword argument unseen
abbrev pub may_hide : {S : Type 0} → List ℕ → List (Argument S) → Bool
may_hide key xs = not (bytes_eq key kwargs_key) && not (is_empty (passing (has_name kwargs_key) 0 xs))

abbrev pub keyword_number : {S : Type 0} → List ℕ → List (Argument S) → Result (Option ℕ) Refusal
keyword_number key xs = if may_hide key xs then Err HiddenKeywords else at_most_one key (passing (has_name key) 0 xs)

-- in a call a number counts the arguments without a name, from 0; any other key is the name of a keyword argument
abbrev pub number_in_call : {S : Type 0} → List ℕ → Option ℕ → List (Argument S) → Result (Option ℕ) Refusal
number_in_call key (Some n) xs = that_number key (nth (passing has_no_name 0 xs) n)
number_in_call key None xs = keyword_number key xs

-- in an array a key is the number of an element, from 0
abbrev pub number_in_array : List ℕ → Option ℕ → (many : ℕ) → Result (Option ℕ) Refusal
number_in_array key (Some n) many = if nat_lt n many then Ok (Some n) else Err (NoSuchValue key)
number_in_array key None many = Err (NoSuchValue key)

abbrev pub entry_number : {S : Type 0} → List ℕ → List (Argument S) → Result (Option ℕ) Refusal
entry_number key xs = at_most_one key (passing (has_key key) 0 xs)

-- what the list of an expression belongs to
abbrev pub list_kind : {S : Type 0} → Expression S → Option ListKind
list_kind (call s f l) = Some kind.Call
list_kind (array l) = Some kind.Array
list_kind (dictionary l) = Some kind.Dictionary
list_kind _ = None

abbrev pub elements_in : {S : Type 0} → Expression S → List (Argument S)
elements_in (call s f l) = elements l
elements_in (array l) = elements l
elements_in (dictionary l) = elements l
elements_in _ = []

-- in a dictionary it is the text of an entry's key
abbrev pub number_by : {S : Type 0} → Option ListKind → List ℕ → List (Argument S) → Result (Option ℕ) Refusal
number_by (Some kind.Call) key xs = number_in_call key (number_of key) xs
number_by (Some kind.Array) key xs = number_in_array key (number_of key) (length xs)
number_by (Some kind.Dictionary) key xs = entry_number key xs
number_by None key xs = Err (NotLiteral key)

abbrev pub number_in : {S : Type 0} → List ℕ → Expression S → Result (Option ℕ) Refusal
number_in key e = number_by (list_kind e) key (elements_in e)

-- ---- the value of an element

-- the value, and its number among the children of the list's expression
pub record Child (S : Type 0) : Type 0 where
  pub number : ℕ
  pub value : Expression S

abbrev pub child_of : {S : Type 0} → (before : ℕ) → Argument S → Child S
child_of before (plain e) = record { number = before; value = e }
child_of before (named s x e) = record { number = before; value = e }
child_of before (pair s k v) = record { number = before + 1; value = v }

-- of the n-th element, after the children that come before the first one
abbrev pub nth_child : {S : Type 0} → (before : ℕ) → List (Argument S) → ℕ → Option (Child S)
nth_child before [] n = None
nth_child before (x ∷ xs) zero = Some (child_of before x)
nth_child before (x ∷ xs) (suc n) = nth_child (before + argument_child_count x) xs n

-- ---- slots

-- a key that is not there has to be the last one
abbrev pub absent_slot : CallRef → List ℕ → List (List ℕ) → Result Slot Refusal
absent_slot p key [] = Ok (slot.Absent p key)
absent_slot p key (k ∷ more) = Err (NoSuchValue key)

abbrev pub in_child : {S : Type 0} → List ℕ → (Child S → Result Slot Refusal) → Option (Child S) → Result Slot Refusal
in_child key further None = Err (NoSuchValue key)
in_child key further (Some c) = further c

abbrev pub at_number : (absent : Result Slot Refusal) → (there : ℕ → Result Slot Refusal) → Result (Option ℕ) Refusal → Result Slot Refusal
at_number absent there (Err e) = Err e
at_number absent there (Ok None) = absent
at_number absent there (Ok (Some n)) = there n

-- the slot that keys name, one step each, from an expression at a place that is the value of a slot
abbrev pub slot_in : {S : Type 0} → CallRef → Expression S → Slot → List (List ℕ) → Result Slot Refusal
slot_in p e here [] = Ok here
slot_in p e here (key ∷ keys) =
    at_number (absent_slot p key keys)
    (λ n. in_child key (λ c. slot_in (child p c.number) c.value (slot.Element p n) keys) (nth_child 0 (elements_in e) n))
    (number_in key e)

-- from the expression at a place of a project
abbrev pub slot_from : {S : Type 0} → CallRef → List (List ℕ) → Option (Expression S) → Result Slot Refusal
slot_from p keys None = Err NotFound
slot_from p keys (Some e) = slot_in p e (slot.Whole p) keys

abbrev pub the_slot : {S : Type 0} → Project S → CallRef → List (List ℕ) → Result Slot Refusal
the_slot p c keys = slot_from c keys (expression_at p c)
