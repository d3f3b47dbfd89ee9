-- What is reported of the sources of a target, where variables are followed.
use Rattle.std.specs.Prelude.{ℕ, ◌-◌, Bool, true, false, List, [], length, slice_get, count_by, Option, Some, None, option_and_then}
use Rattle.std.specs.List.{filter_map}
use Rattle.meson_calls.specs.declared.call.CallRef.{CallRef}
use Rattle.meson_calls.specs.CallPlaces.{call_at}
use Rattle.meson_calls.specs.Calls.{Call}
use Rattle.meson_calls.specs.Project.{Project, Placed}
use Rattle.meson_following.specs.Following.{Item, Mark, known, opaque, empty, follow_marks}
use Rattle.meson_sharing.specs.Sharing.{sharers, variable_of}

-- An item, the variable in whose value it is, if it is in one, and the names of the other targets that get it: `None` where no other target gets it, but
-- something that is no target.
pub record ToldItem (S : Type 0) : Type 0 where
  pub item : Item S
  pub variable : Option (List ℕ)
  pub shared : Option (List (List ℕ))

-- the items that are met, in order, and how many things are met that are not known
pub record Told (S : Type 0) : Type 0 where
  pub items : List (ToldItem S)
  pub unknown : ℕ

-- the maker in whose value an item is: the last one that was followed to it
abbrev pub last_of : List CallRef → Option CallRef
last_of ms = slice_get ms (length ms - 1)

-- what is in the call itself goes to its target alone
abbrev pub shared_by : {S : Type 0} → Project S → Placed (Call S) → Option CallRef → Option (List (List ℕ))
shared_by p c None = Some []
shared_by p c (Some m) = sharers p c m

abbrev pub told_item : {S : Type 0} → Project S → Placed (Call S) → Item S → ToldItem S
told_item p c i =
    record { item = i; variable = option_and_then (variable_of p) (last_of i.way.through); shared = shared_by p c (last_of i.way.through) }

abbrev pub told_mark : {S : Type 0} → Project S → Placed (Call S) → Mark S → Option (ToldItem S)
told_mark p c (known i) = Some (told_item p c i)
told_mark p c opaque = None
told_mark p c (empty q w) = None

abbrev pub is_opaque : {S : Type 0} → Mark S → Bool
is_opaque (known i) = false
is_opaque opaque = true
is_opaque (empty q w) = false

-- of the target of a call
abbrev pub told : {S : Type 0} → Project S → Placed (Call S) → Told S
told p c = record { items = filter_map (told_mark p c) (follow_marks p c); unknown = count_by is_opaque (follow_marks p c) }

-- of the call at a place; nothing where none stands there
abbrev pub told_if : {S : Type 0} → Project S → Option (Placed (Call S)) → Told S
told_if p None = record { items = []; unknown = 0 }
told_if p (Some c) = told p c

abbrev pub told_at : {S : Type 0} → Project S → CallRef → Told S
told_at p q = told_if p (call_at p q)
