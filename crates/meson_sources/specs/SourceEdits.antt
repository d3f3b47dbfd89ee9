-- Sources added to a target and removed from it, and the same for its extra files. Meson manual, Rewriter: `target add`, `target rm`, `target add_extra_files`,
-- `target rm_extra_files`. And sources that get another name.
use Rattle.std.specs.Prelude.{ℕ, zero, suc, ◌-◌, Bool, true, false, not, ◌&&◌, nat_eq, nat_lt, List, [], ◌∷◌, ◌++◌, length, map, codes, bytes_eq, if◌then◌else◌, Option, Some, None, ok_or, option_map, option_and_then, Result, Ok, Err}
use Rattle.std.specs.List.{count_by, filter, list_any}
use Rattle.std.specs.Option.{option_map_or}
use Rattle.meson_lex.specs.Literals.{literal}
use Rattle.meson_splice.specs.Patch.{then_ok}
use Rattle.meson_syntax.specs.Tree.{bare_name, Nowhere, Expression, array, listing, Argument, plain, named, arguments_of}
use Rattle.meson_syntax.specs.Paths.{list_in}
use Rattle.meson_edit.specs.Edits.{Written, First, After, Remove, Replace, Wrap, elements}
use Rattle.meson_calls.specs.declared.call.CallRef.{CallRef}
use Rattle.meson_calls.specs.declared.refusal.Refusal.{Refusal}
use Rattle.meson_calls.specs.declared.refusal.Refusal.TheVariants.{NotLiteral, SourceNotFound, ThereAlready, Unresolved, NotRemovable}
use Rattle.meson_calls.specs.Project.{Project, Placed, child, place, expression_at}
use Rattle.meson_calls.specs.Calls.{Call, Numbered, keyword}
use Rattle.meson_calls.specs.Calls as calls
use Rattle.meson_variables.specs.Expansion.{Slot, in_list, fixed, Item, Mark}
use Rattle.meson_calls.specs.NamedArguments.{sources_key, kwargs_key, once, not_hidden}
use Rattle.meson_variables.specs.TargetSources.{expand_arguments, source_marks, items, opaque_count, first_list, first_empty, or_option, home}
use Rattle.meson_steps.specs.Names.{checked_names, distinct}
use Rattle.meson_steps.specs.WrittenTexts.{string_of, written_text}
use Rattle.meson_steps.specs.Steps.{Step, step_in}

abbrev pub extra_key : List ℕ
extra_key = codes "extra_files"

-- ---- items of a name

abbrev pub has_text : {S : Type 0} → List ℕ → Item S → Bool
has_text name i = bytes_eq i.text name

abbrev pub items_of : {S : Type 0} → List ℕ → List (Mark S) → List (Item S)
items_of name marks = filter (has_text name) (items marks)

abbrev pub is_known : {S : Type 0} → List (Mark S) → List ℕ → Bool
is_known marks name = list_any (has_text name) (items marks)

-- those that are not items yet
abbrev pub new_names : {S : Type 0} → List (Mark S) → List (List ℕ) → List (List ℕ)
new_names marks names = filter (λ name. not (is_known marks name)) (distinct names)

-- ---- insertion

abbrev pub written_source : List ℕ → Written (Argument Nowhere)
written_source name = record { bytes = literal name; node = plain (string_of name) }

-- in order, into a list with this number of elements without a name, after the last of these
abbrev pub insertion_steps : CallRef → ℕ → List (List ℕ) → List Step
insertion_steps list n [] = []
insertion_steps list zero (name ∷ more) = step_in list (First list.path.steps (written_source name)) ∷ insertion_steps list 1 more
insertion_steps list (suc n) (name ∷ more) = step_in list (After list.path.steps n (written_source name)) ∷ insertion_steps list (suc (suc n)) more

abbrev pub is_plain : {S : Type 0} → Argument S → Bool
is_plain (plain e) = true
is_plain _ = false

-- the elements of the list at a place
abbrev pub elements_there : {S : Type 0} → Project S → CallRef → List (Argument S)
elements_there p at_ = option_map_or (λ l. elements l.list) (option_and_then list_in (expression_at p at_)) []

abbrev pub plain_len : {S : Type 0} → Project S → CallRef → ℕ
plain_len p list = length (filter is_plain (elements_there p list))

abbrev pub inserted_in : {S : Type 0} → Project S → CallRef → List (List ℕ) → List Step
inserted_in p list names = insertion_steps list (plain_len p list) names

-- ---- removal

-- an element of a list, by the list's place and its number
pub record Spot : Type 0 where
  pub list : CallRef
  pub number : ℕ

abbrev pub spot_of : Slot → Option Spot
spot_of (in_list p n) = Some (record { list = p; number = n })
spot_of fixed = None

-- all are in lists
abbrev pub spots_of : {S : Type 0} → List (Item S) → Option (List Spot)
spots_of [] = Some []
spots_of (i ∷ more) = option_and_then (λ spot. option_map (λ spots. spot ∷ spots) (spots_of more)) (spot_of i.slot)

abbrev pub none_found : ℕ → Refusal
none_found zero = SourceNotFound
none_found (suc n) = Unresolved

-- the places of all items of a name; there must be at least one
abbrev pub spots_by : {S : Type 0} → ℕ → List (Item S) → Result (List Spot) Refusal
spots_by unknown [] = Err (none_found unknown)
spots_by unknown (i ∷ more) = ok_or (spots_of (i ∷ more)) NotRemovable

abbrev pub spots_named : {S : Type 0} → List (Mark S) → List (List ℕ) → Result (List Spot) Refusal
spots_named marks [] = Ok []
spots_named marks (name ∷ more) = then_ok (spots_by (opaque_count marks) (items_of name marks))
    (λ here. then_ok (spots_named marks more) (λ later. Ok (here ++ later)))

abbrev pub is_path : List ℕ → List ℕ → Bool
is_path [] [] = true
is_path (m ∷ list) (n ∷ path) = nat_eq m n && is_path list path
is_path _ _ = false

-- whether it is an element of this list, before the one of this number
abbrev pub is_before : CallRef → ℕ → Spot → Bool
is_before list n s = nat_eq s.list.file list.file && (is_path s.list.path.steps list.path.steps && nat_lt s.number n)

-- the number of an element of the list, once these elements are removed
abbrev pub number_without : List Spot → CallRef → ℕ → ℕ
number_without gone list n = n - count_by (is_before list n) gone

-- the path of what is here, or under it, once they are removed
abbrev pub path_without : List Spot → CallRef → List ℕ → List ℕ
path_without gone here [] = []
path_without gone here (n ∷ path) = number_without gone here n ∷ path_without gone (child here n) path

-- the place of an element then
abbrev pub spot_without : List Spot → Spot → Spot
spot_without gone s =
    record { list = place s.list.file (path_without gone (place s.list.file []) s.list.path.steps); number = number_without gone s.list s.number }

abbrev pub removal : Spot → Step
removal s = step_in s.list (Remove s.list.path.steps s.number)

-- one after the other, each from its place once those before it are removed
abbrev pub removals_after : List Spot → List Spot → List Step
removals_after gone [] = []
removals_after gone (s ∷ more) = removal (spot_without gone s) ∷ removals_after (s ∷ gone) more

abbrev pub removal_steps : List Spot → List Step
removal_steps spots = removals_after [] spots

-- the steps that remove what is at spots
abbrev pub removed_at : Result (List Spot) Refusal → Result (List Step) Refusal
removed_at found = then_ok found (λ spots. Ok (removal_steps spots))

-- ---- renaming

-- a name in the place of the string at a spot
abbrev pub renaming : List ℕ → Spot → Step
renaming name s = step_in s.list (Replace s.list.path.steps s.number (written_text name))

-- the steps that give all items of a name another one, which none may have
abbrev pub renamed_at : {S : Type 0} → List (Mark S) → (old new : List ℕ) → Result (List Step) Refusal
renamed_at marks old new =
    then_ok (spots_named marks (old ∷ [])) (λ spots. if is_known marks new then Err ThereAlready else Ok (map (renaming new) spots))

-- ---- sources

abbrev pub sources_added : {S : Type 0} → Project S → Placed (Call S) → List (List ℕ) → Result (List Step) Refusal
sources_added p c names =
    then_ok (checked_names names) (λ _. once sources_key (keyword sources_key c.it)
    (inserted_in p (home c.place (source_marks p c)) (new_names (source_marks p c) names)))

abbrev pub sources_removed : {S : Type 0} → Project S → Placed (Call S) → List (List ℕ) → Result (List Step) Refusal
sources_removed p c names =
    then_ok (checked_names names) (λ _. then_ok (once sources_key (keyword sources_key c.it) (source_marks p c))
    (λ marks. removed_at (spots_named marks (distinct names))))

-- each source of one name gets another one in its place
abbrev pub sources_renamed : {S : Type 0} → Project S → Placed (Call S) → (old new : List ℕ) → Result (List Step) Refusal
sources_renamed p c old new =
    then_ok (checked_names (old ∷ new ∷ [])) (λ _. then_ok (once sources_key (keyword sources_key c.it) (source_marks p c)) (λ marks. renamed_at marks old new))

-- ---- extra files

-- what `extra_files:` holds
abbrev pub extra_marks : {S : Type 0} → Project S → Placed (Call S) → List (Mark S)
extra_marks p c = (expand_arguments p c.place (λ n. fixed) (keyword extra_key c.it) []).marks

abbrev pub array_with : List ℕ → Expression Nowhere
array_with name = array (listing tt false (arguments_of (plain (string_of name) ∷ [])))

-- `extra_files: ['NAME']`
abbrev pub written_keyword : List ℕ → Written (Argument Nowhere)
written_keyword name = record { bytes = extra_key ++ (codes ": [" ++ (literal name ++ 93 ∷ [])); node = named tt (bare_name extra_key) (array_with name) }

-- the first into a new list, and the others after it
abbrev pub into_new_list : {S : Type 0} → Project S → CallRef → List (List ℕ) → List Step
into_new_list p c [] = []
into_new_list p c (name ∷ more) =
    step_in c (After c.path.steps (length (elements_there p c) - 1) (written_keyword name)) ∷ insertion_steps (child c (length (elements_there p c))) 1 more

-- A lone literal is wrapped first. No other value can be changed.
abbrev pub behind_value : CallRef → ℕ → Option (List ℕ) → List (List ℕ) → Result (List Step) Refusal
behind_value c n None names = Err (NotLiteral extra_key)
behind_value c n (Some text) names = Ok (step_in c (Wrap c.path.steps n) ∷ insertion_steps (child c n) 1 names)

abbrev pub without_home : {S : Type 0} → Project S → CallRef → List (Numbered (Expression S)) → List (List ℕ) → Result (List Step) Refusal
without_home p c [] names = Ok (into_new_list p c names)
without_home p c (v ∷ more) names = behind_value c v.number (calls.literal_of v.value) names

-- into the list of the first item that is in one, or the first empty list
abbrev pub extra_inserted : {S : Type 0} → Project S → Placed (Call S) → Option CallRef → List (List ℕ) → Result (List Step) Refusal
extra_inserted p c list [] = Ok []
extra_inserted p c None (name ∷ more) = without_home p c.place (keyword extra_key c.it) (name ∷ more)
extra_inserted p c (Some list) (name ∷ more) = Ok (inserted_in p list (name ∷ more))

abbrev pub checked_extra : {S : Type 0} → Project S → Placed (Call S) → List (List ℕ) → Result (List (Mark S)) Refusal
checked_extra p c names =
    then_ok (checked_names names) (λ _. then_ok (not_hidden (keyword kwargs_key c.it)) (λ _. once extra_key (keyword extra_key c.it) (extra_marks p c)))

abbrev pub extra_added : {S : Type 0} → Project S → Placed (Call S) → List (List ℕ) → Result (List Step) Refusal
extra_added p c names = then_ok (checked_extra p c names) (λ marks. extra_inserted p c (or_option (first_list marks) (first_empty marks))
    (new_names marks names))

abbrev pub extra_removed : {S : Type 0} → Project S → Placed (Call S) → List (List ℕ) → Result (List Step) Refusal
extra_removed p c names = then_ok (checked_extra p c names) (λ marks. removed_at (spots_named marks (distinct names)))
