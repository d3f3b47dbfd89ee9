-- Laws of changes where variables are followed.
use Rattle.std.specs.Prelude.{◌≡◌, ◌⊎◌, ℕ, false, true, List, Some, option_and_then, Ok, All}
use Rattle.std.specs.List.{Contains}
use Rattle.std.specs.Str.{IsUtf8}
use Rattle.meson_lex.specs.declared.kinds.Span.{Span}
use Rattle.meson_splice.specs.declared.file_set.File.{File}
use Rattle.meson_syntax.specs.Tree.{Plain}
use Rattle.meson_calls.specs.declared.call.CallRef.{CallRef}
use Rattle.meson_calls.specs.Loading.{IsProject, Loaded, project}
use Rattle.meson_calls.specs.Notes.{notes}
use Rattle.meson_calls.specs.Project.{Project, expression_at}
use Rattle.meson_following.specs.Flows.{known_at}
use Rattle.meson_following.specs.Following.{one_of_places}
use Rattle.meson_following.specs.Makers.{Made, Maker}
use Rattle.meson_steps.specs.ListSteps.{AreDoable}
use Rattle.meson_steps.specs.ResultLimits.{plain_trees}
use Rattle.meson_steps.specs.Steps.{Step, all_stepped}
use Rattle.meson_steps.specs.declared.argument.ValueChange.{ValueChange}
use Rattle.meson_steps.specs.declared.argument.ValueName.{ValueName}
use Rattle.meson_steps.specs.declared.given.Given.{Given}
use Rattle.meson_places.specs.declared.slots.Slot.{Slot}
use Rattle.meson_places.specs.Arguments.{MayBeMade, changed_steps}
use Rattle.meson_places.specs.Behind.{says_one_at, variable_of}
use Rattle.meson_places.specs.Changes.{slot_place}
use Rattle.meson_places.specs.Operands.{operands_at}
use Rattle.meson_followed_values.specs.declared.variables.Variable.{Variable}
use Rattle.meson_followed_values.specs.Choices.{losing_at, says_one}
use Rattle.meson_followed_values.specs.Effects.{FollowedLeft, Gains, IsFollowed}
use Rattle.meson_followed_values.specs.Followed.{followed_steps, gaining, losing, steps_of}
use Rattle.meson_followed_values.specs.Makers.{assigned_values, makers_of, variables_at}

-- ---- makers

-- the law: what may have made the value of a variable, as far as it is known, is what assignments of that variable assign
abbrev pub MakersAreAssigned : Type 0
MakersAreAssigned = (p : Project Span) (x : List ℕ) (c : CallRef) (k : Made Span) → known_at p x c ≡ Some k → (m : Maker Span) → Contains k.makers m
    → Contains (assigned_values x (notes p)) m.value.place

-- ---- nobody else

-- the law: values are added to a value that is part of a variable in each evaluation, and that nobody else reads
abbrev pub AddsToOwnValue : Type 0
AddsToOwnValue = (files : List File) (p : Project Span) (gs : List Given) (s : Slot) (c : CallRef) → gaining files p gs s ≡ Some c → Gains p s c

-- the law: elements are removed and replaced in values that nobody else reads
abbrev pub LosesOwnValues : Type 0
LosesOwnValues = (files : List File) (p : Project Span) (gs : List Given) (s : Slot) (cs : List CallRef) → losing files p gs s ≡ Ok cs
    → All (IsFollowed p s) cs

-- the law: no value is forgotten that may be part of a variable of the value at a place and says what is sought, unless that value has it itself
abbrev pub LosesEachValue : Type 0
LosesEachValue = (files : List File) (p : Project Span) (gs : List Given) (c : CallRef) (cs : List CallRef) → says_one_at files p gs c ≡ false
    → losing_at files p gs c ≡ Ok cs
    → (v : Variable) → Contains (variables_at files p gs c) v → (m : Maker Span) → Contains (makers_of p v) m
    → says_one files p gs m.value.place ≡ true → one_of_places cs m.value.place ≡ true

-- ---- without variables

-- neither the value of a slot nor an operand of it is a variable
abbrev pub HasNoVariable : Project Span → Slot → Type 0
HasNoVariable p s = (c q : CallRef) → slot_place p s ≡ Some c → (q ≡ c) ⊎ Contains (operands_at p c) q
    → (x : List ℕ) → option_and_then variable_of (expression_at p q) ≡ Some x → ⊥

-- the law: then the steps are those without following
abbrev pub PlainIsPlain : Type 0
PlainIsPlain = (l : Loaded) (n : ValueName) (key : List ℕ) (c : ValueChange) (may : MayBeMade c) (s : Slot) → HasNoVariable (project l) s
    → steps_of l key n c may s ≡ changed_steps l n key c may s

-- ---- the steps

-- the law: they may be done one after another
abbrev pub FollowedStepsAreDoable : Type 0
FollowedStepsAreDoable = (old : Loaded) → IsProject old → (n : ValueName) → All IsUtf8 n.keys → (c : ValueChange) (may : MayBeMade c) (steps : List Step)
    → followed_steps old n c may ≡ Ok steps → AreDoable steps (plain_trees old)

-- the law: what they leave
abbrev pub FollowedStepsLeave : Type 0
FollowedStepsLeave = (old : Loaded) → IsProject old → (n : ValueName) (c : ValueChange) (may : MayBeMade c) (steps : List Step) (after : List Plain)
    → followed_steps old n c may ≡ Ok steps → all_stepped steps (plain_trees old) ≡ Some after
    → FollowedLeft old n c (plain_trees old) after
