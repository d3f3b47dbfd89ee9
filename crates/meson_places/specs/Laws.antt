-- What a search finds and what a slot is, in terms of the calls of a project and of what is at a place.
use Rattle.std.specs.Prelude.{◌≡◌, ◌⊎◌, ℕ, suc, Bool, false, true, not, List, [], ◌∷◌, ◌++◌, map, take, drop, Option, Some, None, Result, Ok, All}
use Rattle.std.specs.List.{Contains, list_all, list_any}
use Rattle.std.specs.Str.{IsUtf8}
use Rattle.meson_lex.specs.declared.kinds.Span.{Span}
use Rattle.meson_syntax.specs.Paths.{ListAt, list_at, nth}
use Rattle.meson_syntax.specs.Tree.{Argument, plain, Expression, Nowhere, Plain}
use Rattle.meson_edit.specs.Assigned.{AssignedAt, assigned_at}
use Rattle.meson_edit.specs.Edits.{Written, elements, with_elements, with_value}
use Rattle.meson_splice.specs.Files.{bytes_at}
use Rattle.meson_calls.specs.declared.call.CallRef.{CallRef}
use Rattle.meson_calls.specs.declared.refusal.Refusal.{Refusal}
use Rattle.meson_calls.specs.Calls.{Call, call_of, calls, first_literal, is}
use Rattle.meson_calls.specs.Loading.{IsProject, Loaded, project}
use Rattle.meson_calls.specs.Notes.{an_assignment, notes}
use Rattle.meson_calls.specs.Project.{Project, Placed, child, expression_at, placed}
use Rattle.meson_steps.specs.GivenWords.{MayBeGiven}
use Rattle.meson_steps.specs.ListSteps.{AreDoable}
use Rattle.meson_steps.specs.OrderedLists.{Added, Ordered, all_elements}
use Rattle.meson_steps.specs.ResultLimits.{plain_trees}
use Rattle.meson_steps.specs.Steps.{Step, all_stepped, changed_at}
use Rattle.meson_steps.specs.declared.argument.ValueChange.{ValueChange}
use Rattle.meson_steps.specs.declared.argument.ValueName.{ValueName}
use Rattle.meson_steps.specs.declared.argument.Callee.{Callee}
use Rattle.meson_steps.specs.declared.argument.PlaceName.TheVariants as name
use Rattle.meson_steps.specs.declared.argument.Search.{Search}
use Rattle.meson_places.specs.declared.slots.Slot.{Slot}
use Rattle.meson_places.specs.declared.slots.Slot.TheVariants as slot
use Rattle.meson_steps.specs.declared.given.Given.{Given}
use Rattle.meson_places.specs.Arguments.{MayBeMade, argument_steps}
use Rattle.meson_places.specs.Changes.{delete_steps, replaces_texts, set_steps, slot_value}
use Rattle.meson_places.specs.Equality.{element_says, fresh, lists_say}
use Rattle.meson_places.specs.Expressions.{ExpressionIs}
use Rattle.meson_places.specs.declared.insertions.Mark.{Mark}
use Rattle.meson_places.specs.Insertions.{insert_into}
use Rattle.meson_places.specs.NamedValues.{value_place}
use Rattle.meson_places.specs.NewElements.{add_to_value, fresh_written}
use Rattle.meson_places.specs.Removals.{remove_said}
use Rattle.meson_places.specs.Replacements.{exchange, replace_said}
use Rattle.meson_places.specs.SaidElements.{elements_left, says_one, value_left}
use Rattle.meson_places.specs.Several.{AllMayBeGiven, all_written}
use Rattle.meson_places.specs.Slots.{number_in, the_slot}
use Rattle.meson_places.specs.SortedAdditions.{fresh_added, order_of, sort_into_value}
use Rattle.meson_places.specs.ValueLists.{ValueList, last_of, lists_of}
use Rattle.meson_places.specs.Values.{given_node, keeps_kind}
use Rattle.meson_places.specs.Names.{calls_callee, is_searched, searched_file, the_place}

-- ---- calls

-- an assignment with `=` to this variable has its value at the place
pub record IsSetTo (p : Project Span) (variable : List ℕ) (c : CallRef) : Type 0 where
  pub statement : CallRef
  pub value : Expression Span
  pub is_there : Contains (notes p) (placed statement (an_assignment variable true value))
  pub is_place : child statement 0 ≡ c

-- a call of the function is at the place, and its first argument without a name is this text, or this variable is set to it
pub record IsNamedCall (p : Project Span) (f : Callee) (id : List ℕ) (c : CallRef) : Type 0 where
  pub value : Expression Span
  pub is_at : expression_at p c ≡ Some value
  pub call : Call Span
  pub is_call : call_of value ≡ Some call
  pub is_one : calls_callee f call ≡ true
  pub is_named : (is id (first_literal call) ≡ true) ⊎ IsSetTo p id c

-- It is in the files that are searched, and each other call of the function in these files has another text.
pub record IsOnlyCall (l : Loaded) (s : Search) (f : Callee) (id : List ℕ) (c : CallRef) : Type 0 where
  pub within : Option ℕ
  pub is_within : searched_file l.files s.folder ≡ Ok within
  pub in_files : is_searched within c ≡ true
  pub found : IsNamedCall (project l) f id c
  pub only : (q : Placed (Call Span)) → Contains (calls (project l)) q → is_searched within q.place ≡ true → calls_callee f q.it ≡ true
      → is id (first_literal q.it) ≡ true
      → q.place ≡ c

-- the law: what a search for a call finds is that one call
abbrev pub FindsOneCall : Type 0
FindsOneCall = (l : Loaded) (s : Search) (f : Callee) (id : List ℕ) → s.name ≡ name.Call f id → (c : CallRef) → the_place l s ≡ Ok c
    → IsOnlyCall l s f id c

-- ---- slots

-- what a slot says is there: a value, or a call or a dictionary that does not have the key
abbrev pub SlotIsThere : Project Span → Slot → Type 0
SlotIsThere p (slot.Element list n) = (e : Expression Span) × (slot_value p (slot.Element list n) ≡ Some e)
SlotIsThere p (slot.Absent list key) = (e : Expression Span) × (expression_at p list ≡ Some e) × (number_in key e ≡ Ok None)
SlotIsThere p (slot.Whole c) = (e : Expression Span) × (expression_at p c ≡ Some e)

-- the law: so it is of the slot that keys name
abbrev pub SlotsAreThere : Type 0
SlotsAreThere = (p : Project Span) (c : CallRef) (keys : List (List ℕ)) (s : Slot) → the_slot p c keys ≡ Ok s → SlotIsThere p s

-- an expression is at the place
abbrev pub IsExpressionAt : Project Span → CallRef → Type 0
IsExpressionAt p c = (e : Expression Span) × (expression_at p c ≡ Some e)

-- the law: so it is where the value is that a name names
abbrev pub ValuesAreThere : Type 0
ValuesAreThere = (l : Loaded) (n : ValueName) (c : CallRef) → value_place l n ≡ Ok c → IsExpressionAt (project l) c

-- ---- values that are set

-- The value of the n-th element of the list there is this one, and all else in the trees is as it was.
pub record SlotIs (list : CallRef) (n : ℕ) (now : Expression Nowhere) (before after : List Plain) : Type 0 where
  pub tree : Plain
  pub is_tree : nth before list.file ≡ Some tree
  pub place : ListAt Nowhere
  pub is_place : list_at tree list.path.steps ≡ Some place
  pub element : Argument Nowhere
  pub is_element : nth (elements place.list) n ≡ Some element
  pub is_after : changed_at list.file (λ t. Some (place.back (with_elements place.list (take n (elements place.list)
      ++ with_value now element ∷ drop (suc n) (elements place.list))))) before
      ≡ Some after

-- the law: where a value keeps its kind, setting it sets that value and nothing else
abbrev pub SetsOneValue : Type 0
SetsOneValue = (l : Loaded) (g : Given) (w : Written (Expression Nowhere)) (key : List ℕ) (list : CallRef) (n : ℕ) (value : Expression Span)
    → slot_value (project l) (slot.Element list n) ≡ Some value → keeps_kind g value ≡ true
    → (steps : List Step) → set_steps l g w key (slot.Element list n) ≡ Ok steps
    → (before after : List Plain) → all_stepped steps before ≡ Some after → SlotIs list n w.node before after

-- a value is there, and the given one may replace it: it is of the same kind, or a text for an array of texts, or code
pub record MaySet (l : Loaded) (g : Given) (list : CallRef) (n : ℕ) : Type 0 where
  pub value : Expression Span
  pub is_value : slot_value (project l) (slot.Element list n) ≡ Some value
  pub kept : (keeps_kind g value ≡ true) ⊎ (replaces_texts g value ≡ true)

-- the law: no other value is set
abbrev pub KeepsKind : Type 0
KeepsKind = (l : Loaded) (g : Given) (w : Written (Expression Nowhere)) (key : List ℕ) (list : CallRef) (n : ℕ) (steps : List Step)
    → set_steps l g w key (slot.Element list n) ≡ Ok steps
    → MaySet l g list n

-- The assignment at a place assigns this value, and all else in the trees is as it was: its name, its operator, and all other statements.
pub record AssignedIs (statement : CallRef) (now : Expression Nowhere) (before after : List Plain) : Type 0 where
  pub tree : Plain
  pub is_tree : nth before statement.file ≡ Some tree
  pub place : AssignedAt Nowhere
  pub is_place : assigned_at tree statement.path.steps ≡ Some place
  pub is_after : changed_at statement.file (λ t. Some (place.back now)) before ≡ Some after

-- ---- elements that are deleted

-- The n-th element of the list there is gone, and all else in the trees is as it was.
pub record IsWithout (list : CallRef) (n : ℕ) (before after : List Plain) : Type 0 where
  pub tree : Plain
  pub is_tree : nth before list.file ≡ Some tree
  pub place : ListAt Nowhere
  pub is_place : list_at tree list.path.steps ≡ Some place
  pub element : Argument Nowhere
  pub is_element : nth (elements place.list) n ≡ Some element
  pub is_after : changed_at list.file (λ t. Some (place.back (with_elements place.list (take n (elements place.list)
      ++ drop (suc n) (elements place.list))))) before
      ≡ Some after

-- the law: deleting removes one argument, entry or element and nothing else
abbrev pub DeletesOneElement : Type 0
DeletesOneElement = (list : CallRef) (n : ℕ) (steps : List Step) → delete_steps (slot.Element list n) ≡ Ok steps
    → (before after : List Plain) → all_stepped steps before ≡ Some after → IsWithout list n before after

-- ---- elements that are added

-- Elements with these values are behind all others of the list there, and all else in the trees is as it was.
pub record HasMore (list : CallRef) (new : List (Expression Nowhere)) (before after : List Plain) : Type 0 where
  pub tree : Plain
  pub is_tree : nth before list.file ≡ Some tree
  pub place : ListAt Nowhere
  pub is_place : list_at tree list.path.steps ≡ Some place
  pub is_after : changed_at list.file (λ t. Some (place.back (with_elements place.list (elements place.list ++ map plain new)))) before ≡ Some after

-- the same, and nothing is changed where there are none
abbrev pub HasAlso : CallRef → (new : List (Expression Nowhere)) → (before after : List Plain) → Type 0
HasAlso list [] before after = after ≡ before
HasAlso list (e ∷ es) before after = HasMore list (e ∷ es) before after

-- the law: values are added to the last list of a value and to no other, behind its old elements in their order, each that no element of a list of the value
-- said
abbrev pub AddsToOneList : Type 0
AddsToOneList = (l : Loaded) (gs : List Given) (may : AllMayBeGiven gs) (otherwise : Result (List Step) Refusal) (c : CallRef) (e : Expression Span)
    → expression_at (project l) c ≡ Some e → (list : ValueList Span) → last_of (lists_of c e) ≡ Some list
    → (steps : List Step) → add_to_value l gs may otherwise c e ≡ Ok steps
    → (after : List Plain) → all_stepped steps (plain_trees l) ≡ Some after
    → HasAlso list.place (map (λ w. w.node) (fresh_written (lists_say (bytes_at c.file l.files) (lists_of c e)) [] gs may)) (plain_trees l) after

-- the law: the new ones are not known
abbrev pub NewAreUnknown : Type 0
NewAreUnknown = (known : Given → Bool) (before gs : List Given) → list_all (λ g. not (known g)) (fresh known before gs) ≡ true

-- the law: what is written for them is written for each of them
abbrev pub NewAreWritten : Type 0
NewAreWritten = (known : Given → Bool) (before gs : List Given) (may : AllMayBeGiven gs)
    → (new : AllMayBeGiven (fresh known before gs)) × (fresh_written known before gs may ≡ all_written (fresh known before gs) new)

-- ---- elements that are added after another one

-- Elements with these values are after the first n of the list there, and all else in the trees is as it was.
pub record HasBetween (list : CallRef) (n : ℕ) (new : List (Expression Nowhere)) (before after : List Plain) : Type 0 where
  pub tree : Plain
  pub is_tree : nth before list.file ≡ Some tree
  pub place : ListAt Nowhere
  pub is_place : list_at tree list.path.steps ≡ Some place
  pub is_after : changed_at list.file (λ t. Some (place.back (with_elements place.list (take n (elements place.list)
      ++ (map plain new ++ drop n (elements place.list)))))) before
      ≡ Some after

-- the same, and nothing is changed where there are none
abbrev pub AlsoBetween : CallRef → ℕ → (new : List (Expression Nowhere)) → (before after : List Plain) → Type 0
AlsoBetween list n [] before after = after ≡ before
AlsoBetween list n (e ∷ es) before after = HasBetween list n (e ∷ es) before after

-- of some lists the first element that says a value: no list before says it, and none of the elements before
pub record IsFirstSaying (source : List ℕ) (g : Given) (ls : List (ValueList Span)) (m : Mark) : Type 0 where
  pub front : List (ValueList Span)
  pub list : ValueList Span
  pub back : List (ValueList Span)
  pub are : ls ≡ front ++ list ∷ back
  pub is_place : list.place ≡ m.list
  pub none_in_front : lists_say source front g ≡ false
  pub element : Argument Span
  pub is_element : nth list.elements m.number ≡ Some element
  pub says_it : element_says source g element ≡ true
  pub none_before : list_any (element_says source g) (take m.number list.elements) ≡ false

-- the values are after the first element that said another one, in their order
pub record PutBehind (l : Loaded) (it : Given) (gs : List Given) (may : AllMayBeGiven gs) (c : CallRef) (e : Expression Span) (before after : List Plain)
    : Type 0 where
  pub mark : Mark
  pub is_first : IsFirstSaying (bytes_at c.file l.files) it (lists_of c e) mark
  pub now : AlsoBetween mark.list (suc mark.number) (map (λ w. w.node) (fresh_written (lists_say (bytes_at c.file l.files) (lists_of c e)) [] gs may))
      before after

-- the law: so it is of the values that no element of a list of the value said
abbrev pub PutsBehindFirst : Type 0
PutsBehindFirst = (l : Loaded) (it : Given) (gs : List Given) (may : AllMayBeGiven gs) (key : List ℕ) (c : CallRef) (e : Expression Span)
    → expression_at (project l) c ≡ Some e → (steps : List Step) → insert_into l key it gs may (Some (placed c e)) ≡ Ok steps
    → (after : List Plain) → all_stepped steps (plain_trees l) ≡ Some after
    → PutBehind l it gs may c e (plain_trees l) after

-- ---- elements that are put in their places

-- Elements with these values are in their places in the list there, one after another, and all else in the trees is as it was.
pub record SortedIn (list : CallRef) (o : Ordered) (new : List Added) (before after : List Plain) : Type 0 where
  pub tree : Plain
  pub is_tree : nth before list.file ≡ Some tree
  pub place : ListAt Nowhere
  pub is_place : list_at tree list.path.steps ≡ Some place
  pub is_after : changed_at list.file (λ t. Some (place.back (with_elements place.list (all_elements o new (elements place.list))))) before ≡ Some after

-- the same, and nothing is changed where there are none
abbrev pub HasSorted : CallRef → Ordered → (new : List Added) → (before after : List Plain) → Type 0
HasSorted list o [] before after = after ≡ before
HasSorted list o (a ∷ more) before after = SortedIn list o (a ∷ more) before after

-- the law: so it is of the last list of a value, with those that no element of a list of the value said
abbrev pub SortsIntoOneList : Type 0
SortsIntoOneList = (l : Loaded) → IsProject l → (gs : List Given) (may : AllMayBeGiven gs) (otherwise : Result (List Step) Refusal)
    → (c : CallRef) (e : Expression Span) → expression_at (project l) c ≡ Some e → (list : ValueList Span) → last_of (lists_of c e) ≡ Some list
    → (steps : List Step) → sort_into_value l gs may otherwise (Some (placed c e)) ≡ Ok steps
    → (after : List Plain) → all_stepped steps (plain_trees l) ≡ Some after
    → HasSorted list.place (order_of (bytes_at c.file l.files) list) (fresh_added (lists_say (bytes_at c.file l.files) (lists_of c e)) [] gs may)
    (plain_trees l) after

-- ---- elements that are removed or replaced

-- the law: of the lists of a value, those elements go that say one of some values, and all else is as it was
abbrev pub RemovesWhatIsSaid : Type 0
RemovesWhatIsSaid = (l : Loaded) → IsProject l → (gs : List Given) (c : CallRef) (e : Expression Span) → expression_at (project l) c ≡ Some e
    → (key : List ℕ) (steps : List Step) → remove_said key (bytes_at c.file l.files) gs (lists_of c e) ≡ Ok steps
    → (after : List Plain) → all_stepped steps (plain_trees l) ≡ Some after
    → ExpressionIs c (value_left (elements_left None (says_one (bytes_at c.file l.files) gs)) e) (plain_trees l) after

-- the law: those elements that say a value become another one in their places, and all else is as it was
abbrev pub ReplacesWhatIsSaid : Type 0
ReplacesWhatIsSaid = (l : Loaded) → IsProject l → (old new : Given) (may : MayBeGiven new) (c : CallRef) (e : Expression Span)
    → expression_at (project l) c ≡ Some e → (key : List ℕ) (steps : List Step)
    → replace_said l key (bytes_at c.file l.files) (exchange old new may) (lists_of c e) ≡ Ok steps
    → (after : List Plain) → all_stepped steps (plain_trees l) ≡ Some after
    → ExpressionIs c (value_left (elements_left (Some (given_node new may)) (says_one (bytes_at c.file l.files) (old ∷ []))) e) (plain_trees l) after

-- ---- steps that may be done

-- the law: the steps that change a value of a project may be done one after another, each with a tree within the limit between two steps
abbrev pub ArgumentStepsAreDoable : Type 0
ArgumentStepsAreDoable = (old : Loaded) → IsProject old → (n : ValueName) → All IsUtf8 n.keys → (c : ValueChange) (may : MayBeMade c) (steps : List Step)
    → argument_steps old n c may ≡ Ok steps → AreDoable steps (plain_trees old)
