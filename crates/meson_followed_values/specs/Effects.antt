-- Which values a change is made to where variables are followed, in terms of what is read where; and what the change leaves.
use Rattle.std.specs.Prelude.{◌≡◌, ◌⊎◌, true, List, [], ◌∷◌, Some, Ok, All}
use Rattle.std.specs.List.{Contains}
use Rattle.meson_lex.specs.declared.kinds.Span.{Span}
use Rattle.meson_syntax.specs.Tree.{Expression, Plain}
use Rattle.meson_calls.specs.declared.call.CallRef.{CallRef}
use Rattle.meson_calls.specs.Loading.{Loaded, project}
use Rattle.meson_calls.specs.Project.{Placed, Project, expression_at}
use Rattle.meson_following.specs.Flows.{known_at}
use Rattle.meson_following.specs.Makers.{Known, Made, Maker}
use Rattle.meson_following.specs.Reads.{has_one_of, reads}
use Rattle.meson_steps.specs.declared.argument.ValueChange.{ValueChange}
use Rattle.meson_steps.specs.declared.argument.ValueName.{ValueName}
use Rattle.meson_places.specs.declared.slots.Slot.{Slot}
use Rattle.meson_places.specs.declared.slots.Slot.TheVariants as slot
use Rattle.meson_places.specs.AssignedEffects.{AllChanged, EachLeft}
use Rattle.meson_places.specs.Behind.{has_lists, variable_of}
use Rattle.meson_places.specs.Changes.{slot_place}
use Rattle.meson_places.specs.Effects.{OneChanged, SlotLeft}
use Rattle.meson_places.specs.Laws.{SlotIsThere}
use Rattle.meson_places.specs.Names.{the_place}
use Rattle.meson_places.specs.Operands.{operands_at}
use Rattle.meson_places.specs.Slots.{the_slot}
use Rattle.meson_followed_values.specs.declared.variables.Variable.{Variable}

-- A variable is the value of a slot, or an operand of the sum that the value is.
pub record IsVariableOf (p : Project Span) (s : Slot) (v : Variable) : Type 0 where
  pub value_at : CallRef
  pub is_value : slot_place p s ≡ Some value_at
  pub is_part : (v.read_at ≡ value_at) ⊎ Contains (operands_at p value_at) v.read_at
  pub read : Expression Span
  pub is_read : expression_at p v.read_at ≡ Some read
  pub is_variable : variable_of read ≡ Some v.name

-- Nobody else: each read of the variable that may see the value at a place is this one. Reads are identifiers, format strings and calls of `get_variable`,
-- wherever they are in the files.
abbrev pub NobodyElse : Project Span → Variable → CallRef → Type 0
NobodyElse p v c = (r : Placed (Known Span)) → Contains (reads p v.name) r → has_one_of (c ∷ []) r.it ≡ true → r.place ≡ v.read_at

-- The value at a place is what an assignment puts into a variable of the value of a slot, and nobody else reads it.
pub record IsFollowed (p : Project Span) (s : Slot) (c : CallRef) : Type 0 where
  pub variable : Variable
  pub is_variable : IsVariableOf p s variable
  pub known : Made Span
  pub is_known : known_at p variable.name variable.read_at ≡ Some known
  pub maker : Maker Span
  pub is_maker : Contains known.makers maker
  pub is_place : maker.value.place ≡ c
  pub nobody_else : NobodyElse p variable c

-- It is part of the variable in each evaluation, and has a list.
pub record Gains (p : Project Span) (s : Slot) (c : CallRef) : Type 0 where
  pub followed : IsFollowed p s c
  pub is_sure : followed.maker.sure ≡ true
  pub has_list : has_lists p c ≡ true

-- ---- what a change leaves

-- One value is changed: that of the slot which is named, or one that is followed.
pub record OneFollowed (old : Loaded) (named : Slot) (c : ValueChange) (before after : List Plain) : Type 0 where
  pub changed : Slot
  pub is_changed : (changed ≡ named) ⊎ ((at_ : CallRef) × (changed ≡ slot.Whole at_) × IsFollowed (project old) named at_)
  pub left : SlotLeft old c changed before after

-- Several are, each of which is followed.
pub record EachFollowed (old : Loaded) (named : Slot) (c : ValueChange) (before after : List Plain) : Type 0 where
  pub values : List CallRef
  pub are : All (IsFollowed (project old) named) values
  pub left : EachLeft old c values before after

-- as without following
abbrev pub AsNamed : Loaded → ValueName → Slot → ValueChange → (before after : List Plain) → Type 0
AsNamed old name named c before after = OneChanged old name named c before after ⊎ AllChanged old name named c before after

-- The name leads to one slot, which is there. Its value is changed, or those of the variables that it has.
pub record FollowedLeft (old : Loaded) (name : ValueName) (c : ValueChange) (before after : List Plain) : Type 0 where
  pub place : CallRef
  pub is_place : the_place old name.place ≡ Ok place
  pub named : Slot
  pub is_named : the_slot (project old) place name.keys ≡ Ok named
  pub is_there : SlotIsThere (project old) named
  pub left : OneFollowed old named c before after ⊎ (EachFollowed old named c before after ⊎ AsNamed old name named c before after)
