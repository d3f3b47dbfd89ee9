-- The steps that replace what says a value: elements of the lists of a value, or all of it.
use Rattle.std.specs.Prelude.{ℕ, Bool, List, [], ◌∷◌, if◌then◌else◌, Option, Some, None, Result, Ok, Err}
use Rattle.std.specs.List.{list_all}
use Rattle.meson_lex.specs.declared.kinds.Span.{Span}
use Rattle.meson_splice.specs.Files.{bytes_at}
use Rattle.meson_syntax.specs.Tree.{Expression, Nowhere}
use Rattle.meson_edit.specs.Edits.{Replace, Written}
use Rattle.meson_calls.specs.declared.call.CallRef.{CallRef}
use Rattle.meson_calls.specs.declared.refusal.Refusal.{Refusal}
use Rattle.meson_calls.specs.declared.refusal.Refusal.TheVariants.{NoSuchValue, NotLiteral, ThereAlready, TooDeep}
use Rattle.meson_calls.specs.Loading.{Loaded, project}
use Rattle.meson_calls.specs.Project.{child, expression_at}
use Rattle.meson_steps.specs.GivenWords.{MayBeGiven}
use Rattle.meson_steps.specs.ResultLimits.{plain_trees}
use Rattle.meson_steps.specs.Steps.{Step, step_in}
use Rattle.meson_steps.specs.declared.given.Given.{Given}
use Rattle.meson_places.specs.declared.slots.Slot.{Slot}
use Rattle.meson_places.specs.declared.slots.Slot.TheVariants as slot
use Rattle.meson_places.specs.AssignedValues.{assigned_roomy, is_assigned}
use Rattle.meson_places.specs.Changes.{element_child}
use Rattle.meson_places.specs.Equality.{lists_say, says}
use Rattle.meson_places.specs.Removals.{says_other}
use Rattle.meson_places.specs.Room.{has_room, if_room, list_in_trees}
use Rattle.meson_places.specs.SaidElements.{lists_edited, says_one}
use Rattle.meson_places.specs.Slots.{Child}
use Rattle.meson_places.specs.ValueLists.{ValueList, lists_of}
use Rattle.meson_places.specs.Values.{written_given}

-- the value that is sought, and the one that takes its place
pub record Exchange : Type 0 where
  pub old : Given
  pub new : Given
  pub written : Written (Expression Nowhere)

abbrev pub exchange : (old new : Given) → MayBeGiven new → Exchange
exchange old new may = record { old = old; new = new; written = written_given new may }

-- whether each of some lists has room for an expression
abbrev pub have_room : Loaded → Expression Nowhere → List (ValueList Span) → Bool
have_room l e ls = list_all (λ x. has_room e (list_in_trees (plain_trees l) x.place)) ls

abbrev pub replace_roomy : Loaded → (source : List ℕ) → Exchange → List (ValueList Span) → Result (List Step) Refusal
replace_roomy l source x ls = if have_room l x.written.node ls then Ok (lists_edited (Some x.written) (says_one source (x.old ∷ [])) ls) else Err TooDeep

-- Elements of lists become the new one, where none of them says it yet, and one says the old one.
abbrev pub replace_said : Loaded → (key source : List ℕ) → Exchange → List (ValueList Span) → Result (List Step) Refusal
replace_said l key source x ls =
    if lists_say source ls x.new then Err ThereAlready else (if lists_say source ls x.old then replace_roomy l source x ls else Err (NoSuchValue key))

-- A value without a list does.
abbrev pub replace_lone : Loaded → (key source : List ℕ) → Exchange → CallRef → ℕ → Expression Span → Result (List Step) Refusal
replace_lone l key source x list n e =
    if says source x.new e then Err ThereAlready
    else (if says source x.old e then if_room l list x.written.node (step_in list (Replace list.path.steps n x.written) ∷ []) else Err (says_other key e))

-- An assigned value does.
abbrev pub replace_assigned : (key source : List ℕ) → Exchange → CallRef → Expression Span → Result (List Step) Refusal
replace_assigned key source x c e =
    if says source x.new e then Err ThereAlready
    else (if says source x.old e then assigned_roomy key c x.new x.written else Err (says_other key e))

-- of a value that has lists
abbrev pub replace_by : Loaded → (key source : List ℕ) → Exchange → (otherwise : Result (List Step) Refusal) → List (ValueList Span)
    → Result (List Step) Refusal
replace_by l key source x otherwise [] = otherwise
replace_by l key source x otherwise (list ∷ ls) = replace_said l key source x (list ∷ ls)

abbrev pub replace_in : Loaded → (key : List ℕ) → Exchange → (otherwise : Result (List Step) Refusal) → CallRef → Expression Span
    → Result (List Step) Refusal
replace_in l key x otherwise c e = replace_by l key (bytes_at c.file l.files) x otherwise (lists_of c e)

abbrev pub replace_there : Loaded → Exchange → (key : List ℕ) → CallRef → ℕ → Option (Child Span) → Result (List Step) Refusal
replace_there l x key list n None = Err (NoSuchValue key)
replace_there l x key list n (Some v) =
    replace_in l key x (replace_lone l key (bytes_at list.file l.files) x list n v.value) (child list v.number) v.value

-- a call or a list that is no assigned value, and has no list, stays
abbrev pub if_assigned : Loaded → (key : List ℕ) → Exchange → CallRef → Expression Span → Result (List Step) Refusal
if_assigned l key x c e = if is_assigned (project l) c then replace_assigned key (bytes_at c.file l.files) x c e else Err (NotLiteral key)

abbrev pub replace_whole : Loaded → Exchange → (key : List ℕ) → CallRef → Option (Expression Span) → Result (List Step) Refusal
replace_whole l x key c None = Err (NoSuchValue key)
replace_whole l x key c (Some e) = replace_in l key x (if_assigned l key x c e) c e

-- The key is the last of those that named the slot.
abbrev pub exchange_steps : Loaded → Exchange → (key : List ℕ) → Slot → Result (List Step) Refusal
exchange_steps l x key (slot.Element list n) = replace_there l x key list n (element_child (project l) list n)
exchange_steps l x key (slot.Absent list k) = Err (NoSuchValue k)
exchange_steps l x key (slot.Whole c) = replace_whole l x key c (expression_at (project l) c)
