-- What is there after sources or extra files are added or removed, or sources get another name, as to the lists that hold them.
use Rattle.std.specs.Prelude.{◌≡◌, ℕ, Bool, true, false, not, ◌&&◌, nat_eq, List, [], ◌∷◌, ◌++◌, length, map, Option, Some, None, Ok, option_and_then, option_map}
use Rattle.std.specs.List.{AllByRecursion, filter, list_any}
use Rattle.meson_lex.specs.declared.kinds.Span.{Span}
use Rattle.meson_syntax.specs.Paths.{ListAt, list_at, nth, value_of}
use Rattle.meson_syntax.specs.Tree.{bare_name, Nowhere, Plain, Expression, array, Listing, listing, Argument, plain, named, arguments_of}
use Rattle.meson_edit.specs.Edits.{elements, with_value}
use Rattle.meson_calls.specs.declared.call.CallRef.{CallRef}
use Rattle.meson_calls.specs.declared.call.Role.TheVariants as role
use Rattle.meson_calls.specs.Calls.{Call, Numbered, keyword}
use Rattle.meson_variables.specs.Expansion.{Item, Mark, Slot, fixed, in_list}
use Rattle.meson_calls.specs.Finding.{the_call}
use Rattle.meson_calls.specs.Loading.{IsProject, Loaded, project}
use Rattle.meson_calls.specs.Project.{Placed, Project, place}
use Rattle.meson_variables.specs.TargetSources.{first_empty, first_list, home, items, or_option, source_marks}
use Rattle.meson_steps.specs.Names.{distinct}
use Rattle.meson_steps.specs.ResultLimits.{plain_trees}
use Rattle.meson_steps.specs.Steps.{Step, all_stepped}
use Rattle.meson_steps.specs.WrittenTexts.{string_of}
use Rattle.meson_sources.specs.Exchanged.{each_with}
use Rattle.meson_sources.specs.Sorting.{sources_sorted}
use Rattle.meson_sources.specs.Without.{each_without}
use Rattle.meson_sources.specs.SourceEdits.{Spot, extra_added, extra_key, extra_marks, extra_removed, has_text, is_known, is_path, is_plain, items_of, new_names, sources_added, sources_removed, sources_renamed, spots_named}
use Rattle.meson_calls.specs.declared.call.CallName.{CallName}

-- the elements of the list at a place
abbrev pub elements_found : CallRef → List Plain → Option (List (Argument Nowhere))
elements_found c trees = option_and_then (λ t. option_map (λ l. elements l.list) (list_at t c.path.steps)) (nth trees c.file)

abbrev pub strings : List (List ℕ) → List (Argument Nowhere)
strings names = map (λ name. plain (string_of name)) names

abbrev pub not_plain : Argument Nowhere → Bool
not_plain x = not (is_plain x)

-- In the file of the place nothing but the list there has changed, and every other file's tree is as it was.
pub record OnlyList (c : CallRef) (before after : List Plain) : Type 0 where
  pub tree : Plain
  pub was : nth before c.file ≡ Some tree
  pub place : ListAt Nowhere
  pub is_place : list_at tree c.path.steps ≡ Some place
  pub other : Listing Nowhere
  pub now : nth after c.file ≡ Some (place.back other)
  pub others : (i : ℕ) → (c.file ≡ i → ⊥) → nth after i ≡ nth before i

-- The list has its elements in their order, with these strings after those without a name; and all else is as it was.
pub record ListGets (list : CallRef) (names : List (List ℕ)) (before after : List Plain) : Type 0 where
  pub elements : List (Argument Nowhere)
  pub had : elements_found list before ≡ Some elements
  pub has : elements_found list after ≡ Some (filter is_plain elements ++ (strings names ++ filter not_plain elements))
  pub only : OnlyList list before after

-- the law: the list to which further sources of the target are added gets those that are not sources of it yet, each once
abbrev pub SourcesAreAdded : Type 0
SourcesAreAdded = (old : Loaded) → IsProject old → (target : CallName) (c : Placed (Call Span)) → the_call (project old) role.Target target ≡ Ok c
    → (names : List (List ℕ)) (steps : List Step) (after : List Plain)
    → sources_added (project old) c names ≡ Ok steps → all_stepped steps (plain_trees old) ≡ Some after
    → ListGets (home c.place (source_marks (project old) c)) (new_names (source_marks (project old) c) names) (plain_trees old) after

-- ---- sources that are added, each in its place if their list is in order

-- The second list is the first one with each of these strings put once among its elements, which stay in their order.
pub data GetsAmong : (names : List (List ℕ)) → (before after : List (Argument Nowhere)) → Type 0 where
  as_before : (xs : List (Argument Nowhere)) → GetsAmong [] xs xs
  one_more : (name : List ℕ) (names : List (List ℕ)) (front back before after : List (Argument Nowhere)) → before ≡ front ++ back
      → GetsAmong names (front ++ plain (string_of name) ∷ back) after → GetsAmong (name ∷ names) before after

-- The list has its elements in their order, with these strings among them; and all else is as it was.
pub record ListGetsAmong (list : CallRef) (names : List (List ℕ)) (before after : List Plain) : Type 0 where
  pub elements : List (Argument Nowhere)
  pub had : elements_found list before ≡ Some elements
  pub now : List (Argument Nowhere)
  pub has : elements_found list after ≡ Some now
  pub among : GetsAmong names elements now
  pub only : OnlyList list before after

-- the law: the list to which further sources of the target are added gets those that are not sources of it yet, each once, wherever it is put
abbrev pub SourcesAreSorted : Type 0
SourcesAreSorted = (old : Loaded) → IsProject old → (target : CallName) (c : Placed (Call Span)) → the_call (project old) role.Target target ≡ Ok c
    → (names : List (List ℕ)) (steps : List Step) (after : List Plain)
    → sources_sorted old.files (project old) c names ≡ Ok steps → all_stepped steps (plain_trees old) ≡ Some after
    → ListGetsAmong (home c.place (source_marks (project old) c)) (new_names (source_marks (project old) c) names) (plain_trees old) after

-- ---- extra files that are added

abbrev pub array_holding : List (Argument Nowhere) → Expression Nowhere
array_holding xs = array (listing tt false (arguments_of xs))

-- `extra_files: ['NAME', ..]`
abbrev pub extra_argument : List (List ℕ) → Argument Nowhere
extra_argument names = named tt (bare_name extra_key) (array_holding (strings names))

-- The call has its arguments in their order, with this one after them; and all else is as it was.
pub record ArgumentComes (c : CallRef) (new : Argument Nowhere) (before after : List Plain) : Type 0 where
  pub arguments : List (Argument Nowhere)
  pub had : elements_found c before ≡ Some arguments
  pub has : elements_found c after ≡ Some (arguments ++ new ∷ [])
  pub only : OnlyList c before after

-- The argument of this number has the array of its value with these strings after it. The call's other arguments stay, and all else is as it was.
pub record ArgumentGrows (c : CallRef) (number : ℕ) (names : List (List ℕ)) (before after : List Plain) : Type 0 where
  pub front : List (Argument Nowhere)
  pub it : Argument Nowhere
  pub back : List (Argument Nowhere)
  pub value : Expression Nowhere
  pub is_number : number ≡ length front
  pub is_value : value_of it ≡ Some value
  pub had : elements_found c before ≡ Some (front ++ it ∷ back)
  pub has : elements_found c after ≡ Some (front ++ with_value (array_holding (plain value ∷ strings names)) it ∷ back)
  pub only : OnlyList c before after

-- by the values of `extra_files:`, of which there is at most one
abbrev pub ArgumentHolds : CallRef → List (Numbered (Expression Span)) → List (List ℕ) → (before after : List Plain) → Type 0
ArgumentHolds c [] names before after = ArgumentComes c (extra_argument names) before after
ArgumentHolds c (v ∷ more) names before after = ArgumentGrows c v.number names before after

-- The list of the extra files gets those that are not there yet, or, if no list is met, the argument does.
abbrev pub ExtraComes : Placed (Call Span) → Option CallRef → List (List ℕ) → (before after : List Plain) → Type 0
ExtraComes c list [] before after = after ≡ before
ExtraComes c None (name ∷ more) before after = ArgumentHolds c.place (keyword extra_key c.it) (name ∷ more) before after
ExtraComes c (Some list) (name ∷ more) before after = ListGets list (name ∷ more) before after

-- where further extra files are added, if a list is met
abbrev pub extra_home : Project Span → Placed (Call Span) → Option CallRef
extra_home p c = or_option (first_list (extra_marks p c)) (first_empty (extra_marks p c))

-- the law: of extra files that are added, those are inserted that the target does not have yet, each once
abbrev pub ExtraIsAdded : Type 0
ExtraIsAdded = (old : Loaded) → IsProject old → (target : CallName) (c : Placed (Call Span)) → the_call (project old) role.Target target ≡ Ok c
    → (names : List (List ℕ)) (steps : List Step) (after : List Plain)
    → extra_added (project old) c names ≡ Ok steps → all_stepped steps (plain_trees old) ≡ Some after
    → ExtraComes c (extra_home (project old) c) (new_names (extra_marks (project old) c) names) (plain_trees old) after

-- ---- sources and extra files that are removed

abbrev pub element_spot : CallRef → ℕ → Spot
element_spot list n = record { list = list; number = n }

-- whether two spots are one
abbrev pub same_spot : Spot → Spot → Bool
same_spot s t = nat_eq s.list.file t.list.file && (is_path s.list.path.steps t.list.path.steps && nat_eq s.number t.number)

-- whether the element of this number of the list at a place is one of those that are removed
abbrev pub goes : List Spot → CallRef → ℕ → Bool
goes spots list n = list_any (λ s. same_spot s (element_spot list n)) spots

-- the trees without the elements at these spots
abbrev pub trees_without : List Spot → List Plain → List Plain
trees_without spots trees = each_without (λ file path n. goes spots (place file path) n) trees

abbrev pub has_one_of : List (List ℕ) → Item Span → Bool
has_one_of names i = list_any (λ name. has_text name i) names

-- whether what has the slot is at the spot
abbrev pub is_at : Spot → Slot → Bool
is_at s (in_list c n) = same_spot s (element_spot c n)
is_at s fixed = false

-- Each of the items that has one of these names is at one of the spots, and such an item is at each spot.
pub record AreSpotsOf (is : List (Item Span)) (names : List (List ℕ)) (spots : List Spot) : Type 0 where
  pub each : AllByRecursion (λ i. has_one_of names i ≡ true → list_any (λ s. is_at s i.slot) spots ≡ true) is
  pub only : AllByRecursion (λ s. list_any (λ i. has_one_of names i && is_at s i.slot) is ≡ true) spots

-- The spots are those of all items with these names, and the trees are what they were without the elements there.
pub record NamesGo (marks : List (Mark Span)) (names : List (List ℕ)) (before after : List Plain) : Type 0 where
  pub spots : List Spot
  pub are_spots : spots_named marks (distinct names) ≡ Ok spots
  pub of_names : AreSpotsOf (items marks) (distinct names) spots
  pub left : after ≡ trees_without spots before

-- The laws: of the target's sources, or of its extra files, those that are named are gone from all lists that held them, and nothing else is.
abbrev pub SourcesAreRemoved : Type 0
SourcesAreRemoved = (old : Loaded) → IsProject old → (target : CallName) (c : Placed (Call Span)) → the_call (project old) role.Target target ≡ Ok c
    → (names : List (List ℕ)) (steps : List Step) (after : List Plain)
    → sources_removed (project old) c names ≡ Ok steps → all_stepped steps (plain_trees old) ≡ Some after
    → NamesGo (source_marks (project old) c) names (plain_trees old) after

abbrev pub ExtraIsRemoved : Type 0
ExtraIsRemoved = (old : Loaded) → IsProject old → (target : CallName) (c : Placed (Call Span)) → the_call (project old) role.Target target ≡ Ok c
    → (names : List (List ℕ)) (steps : List Step) (after : List Plain)
    → extra_removed (project old) c names ≡ Ok steps → all_stepped steps (plain_trees old) ≡ Some after
    → NamesGo (extra_marks (project old) c) names (plain_trees old) after

-- ---- sources that get another name

-- whether a place is one of these
abbrev pub is_one_of : List CallRef → CallRef → Bool
is_one_of places c = list_any (λ q. nat_eq q.file c.file && is_path q.path.steps c.path.steps) places

-- the trees with the expression in each of these places, and all else as it was
abbrev pub trees_with : Expression Nowhere → List CallRef → List Plain → List Plain
trees_with w places trees = each_with w (λ file path. is_one_of places (place file path)) trees

-- where the items of a name stand
abbrev pub places_named : List ℕ → List (Mark Span) → List CallRef
places_named name marks = map (λ i. i.place) (items_of name marks)

-- No item had the new name. In the place of each item of the old one is a string of the new one, and all else is as it was: so each list has as many elements.
pub record NameChanges (marks : List (Mark Span)) (old new : List ℕ) (before after : List Plain) : Type 0 where
  pub fresh : is_known marks new ≡ false
  pub now : after ≡ trees_with (string_of new) (places_named old marks) before

-- the law: each source of the target that has the old name has the new one, in its place
abbrev pub SourcesAreRenamed : Type 0
SourcesAreRenamed = (l : Loaded) → IsProject l → (target : CallName) (c : Placed (Call Span)) → the_call (project l) role.Target target ≡ Ok c
    → (old new : List ℕ) (steps : List Step) (after : List Plain)
    → sources_renamed (project l) c old new ≡ Ok steps → all_stepped steps (plain_trees l) ≡ Some after
    → NameChanges (source_marks (project l) c) old new (plain_trees l) after
