-- The steps that remove what says a value: elements of the lists of a value, or all of it.
use Rattle.std.specs.Prelude.{ℕ, Bool, ◌||◌, List, [], ◌∷◌, if◌then◌else◌, is_some, Option, Some, None, Result, Ok, Err}
use Rattle.std.specs.List.{list_all, list_any}
use Rattle.meson_lex.specs.declared.kinds.Span.{Span}
use Rattle.meson_splice.specs.Files.{bytes_at}
use Rattle.meson_syntax.specs.Tree.{Expression}
use Rattle.meson_edit.specs.Edits.{Remove}
use Rattle.meson_calls.specs.declared.call.CallRef.{CallRef}
use Rattle.meson_calls.specs.declared.refusal.Refusal.{Refusal}
use Rattle.meson_calls.specs.declared.refusal.Refusal.TheVariants.{NoSuchValue, NotLiteral, NotRemovable}
use Rattle.meson_calls.specs.Loading.{Loaded, project}
use Rattle.meson_calls.specs.Project.{child, expression_at}
use Rattle.meson_steps.specs.Steps.{Step, step_in}
use Rattle.meson_steps.specs.declared.given.Given.{Given}
use Rattle.meson_places.specs.declared.slots.Slot.{Slot}
use Rattle.meson_places.specs.declared.slots.Slot.TheVariants as slot
use Rattle.meson_places.specs.Changes.{element_child}
use Rattle.meson_places.specs.Equality.{lists_say, says}
use Rattle.meson_places.specs.NewElements.{lone_token}
use Rattle.meson_places.specs.SaidElements.{lists_edited, says_one}
use Rattle.meson_places.specs.Slots.{Child}
use Rattle.meson_places.specs.ValueLists.{ValueList, lists_of}
use Rattle.meson_places.specs.Values.{is_boolean}

-- Elements of lists go, where each of the values is said by one.
abbrev pub remove_said : (key source : List ℕ) → List Given → List (ValueList Span) → Result (List Step) Refusal
remove_said key source gs ls = if list_all (lists_say source ls) gs then Ok (lists_edited None (says_one source gs) ls) else Err (NoSuchValue key)

-- a literal, an identifier or a truth value
abbrev pub is_lone : {S : Type 0} → Expression S → Bool
is_lone e = is_some (lone_token e) || is_boolean e

-- a value without a list that does not say what it should
abbrev pub says_other : {S : Type 0} → (key : List ℕ) → Expression S → Refusal
says_other key e = if is_lone e then NoSuchValue key else NotLiteral key

-- A value without a list goes, where it says each of the values.
abbrev pub remove_lone : (key source : List ℕ) → List Given → (gone : Result (List Step) Refusal) → Expression Span → Result (List Step) Refusal
remove_lone key source gs gone e =
    if list_any (λ g. says source g e) gs then (if list_all (λ g. says source g e) gs then gone else Err (NoSuchValue key)) else Err (says_other key e)

abbrev pub remove_by : (key source : List ℕ) → List Given → (gone : Result (List Step) Refusal) → Expression Span → List (ValueList Span)
    → Result (List Step) Refusal
remove_by key source gs gone e [] = remove_lone key source gs gone e
remove_by key source gs gone e (l ∷ ls) = remove_said key source gs (l ∷ ls)

-- of the value at a place; or all of it
abbrev pub remove_from : Loaded → (key : List ℕ) → List Given → (gone : Result (List Step) Refusal) → CallRef → Expression Span → Result (List Step) Refusal
remove_from l key gs gone c e = remove_by key (bytes_at c.file l.files) gs gone e (lists_of c e)

-- with its argument or entry
abbrev pub remove_there : Loaded → List Given → (key : List ℕ) → CallRef → ℕ → Option (Child Span) → Result (List Step) Refusal
remove_there l gs key list n None = Err (NoSuchValue key)
remove_there l gs key list n (Some v) = remove_from l key gs (Ok (step_in list (Remove list.path.steps n) ∷ [])) (child list v.number) v.value

-- an assigned value can't go
abbrev pub remove_whole : Loaded → List Given → (key : List ℕ) → CallRef → Option (Expression Span) → Result (List Step) Refusal
remove_whole l gs key c None = Err (NoSuchValue key)
remove_whole l gs key c (Some e) = remove_from l key gs (Err NotRemovable) c e

-- The key is the last of those that named the slot.
abbrev pub remove_steps : Loaded → List Given → (key : List ℕ) → Slot → Result (List Step) Refusal
remove_steps l gs key (slot.Element list n) = remove_there l gs key list n (element_child (project l) list n)
remove_steps l gs key (slot.Absent list k) = Err (NoSuchValue k)
remove_steps l gs key (slot.Whole c) = remove_whole l gs key c (expression_at (project l) c)
