-- What a variable is set to is changed for a call only where nothing else reads the variable.
use Rattle.std.specs.Prelude.{◌≡◌, ◌⊎◌, ℕ, true, false, List, Some, Ok}
use Rattle.std.specs.List.{Contains}
use Rattle.meson_lex.specs.declared.kinds.Item.{Item}
use Rattle.meson_lex.specs.declared.kinds.Span.{Span}
use Rattle.meson_lex.specs.Scan.{scan}
use Rattle.meson_splice.specs.declared.file_set.File.{File}
use Rattle.meson_syntax.specs.Tree.{Expression}
use Rattle.meson_syntax.specs.View.{text_at}
use Rattle.meson_calls.specs.declared.call.CallRef.{CallRef}
use Rattle.meson_calls.specs.Calls.{Call, calls}
use Rattle.meson_calls.specs.Loading.{Loaded, project}
use Rattle.meson_calls.specs.Notes.{notes}
use Rattle.meson_calls.specs.Parts.{Part, parts}
use Rattle.meson_calls.specs.Project.{Placed, Project, expression_at}
use Rattle.meson_calls.specs.Walks.{part_reads}
use Rattle.meson_variables.specs.Variables.{single}
use Rattle.meson_steps.specs.declared.argument.PlaceName.TheVariants as name
use Rattle.meson_steps.specs.declared.argument.ValueChange.{ValueChange}
use Rattle.meson_steps.specs.declared.argument.ValueName.{ValueName}
use Rattle.meson_places.specs.declared.slots.Slot.{Slot}
use Rattle.meson_places.specs.declared.slots.Slot.TheVariants as slot
use Rattle.meson_places.specs.Assignments.{added_values, changed_slot}
use Rattle.meson_places.specs.Behind.{slot_behind, variable_of}
use Rattle.meson_places.specs.Changes.{slot_place}
use Rattle.meson_places.specs.Operands.{followed_slot, operands_at}
use Rattle.meson_places.specs.Uses.{call_names, is_format, is_read_once, occurs, placeholder}

-- Nobody else: of all that is in the files only the identifier at this place is the variable; no call names it, or gets a variable by a name that is computed;
-- and no format string holds it.
pub record NobodyElse (l : Loaded) (x : List ℕ) (c : CallRef) : Type 0 where
  pub reads : (q : Placed (Part Span)) → Contains (parts (project l)) q → part_reads x q.it ≡ true → q.place ≡ c
  pub calls : (q : Placed (Call Span)) → Contains (calls (project l)) q → call_names x q.it ≡ false
  pub formats : (f : File) → Contains l.files f → (i : Item) → Contains (scan 0 f.bytes) (Ok i) → is_format i.kind ≡ true
      → occurs (placeholder x) (text_at f.bytes i.span) ≡ false

-- the law: so it is of a variable that is read once
abbrev pub ReadByNobodyElse : Type 0
ReadByNobodyElse = (l : Loaded) (x : List ℕ) (c : CallRef) → is_read_once l.files (project l) x c ≡ true → NobodyElse l x c

-- A place is that of an operand of the sum that the value of a slot is.
pub record IsOperandOf (p : Project Span) (s : Slot) (c : CallRef) : Type 0 where
  pub sum : CallRef
  pub is_sum : slot_place p s ≡ Some sum
  pub is_operand : Contains (operands_at p sum) c

-- The value of a slot, or an operand of the sum that it is, is a variable that nobody else reads. Another slot is the one value that the variable is set to.
pub record IsBehind (l : Loaded) (s t : Slot) : Type 0 where
  pub read_at : CallRef
  pub is_read : (slot_place (project l) s ≡ Some read_at) ⊎ IsOperandOf (project l) s read_at
  pub value : Expression Span
  pub is_value : expression_at (project l) read_at ≡ Some value
  pub variable : List ℕ
  pub is_variable : variable_of value ≡ Some variable
  pub set_to : Placed (Expression Span)
  pub is_set : single (project l) variable ≡ Some set_to
  pub is_slot : t ≡ slot.Whole set_to.place
  pub nobody_else : NobodyElse l variable read_at

-- the law: a change is made to the value that is named, or to that of a variable that nobody else reads
abbrev pub ChangesOwnValue : Type 0
ChangesOwnValue = (l : Loaded) (c : ValueChange) (s t : Slot) → slot_behind l.files (project l) c s ≡ Ok t → (t ≡ s) ⊎ IsBehind l s t

-- the law: so it is where operands of a sum are looked at too
abbrev pub FollowsOwnValue : Type 0
FollowsOwnValue = (l : Loaded) (c : ValueChange) (s t : Slot) → followed_slot l.files (project l) c s ≡ Ok t → (t ≡ s) ⊎ IsBehind l s t

-- A slot is the value of an assignment to the variable that is named, and another one is what `+=` adds to it in the same file.
pub record IsAlsoAssigned (l : Loaded) (n : ValueName) (s t : Slot) : Type 0 where
  pub variable : List ℕ
  pub is_variable : n.place.name ≡ name.Variable variable
  pub set_at : CallRef
  pub is_set : s ≡ slot.Whole set_at
  pub value_at : CallRef
  pub is_added : Contains (added_values variable (notes (project l))) value_at
  pub same_file : value_at.file ≡ set_at.file
  pub value : Expression Span
  pub is_value : expression_at (project l) value_at ≡ Some value
  pub is_slot : t ≡ slot.Whole value_at

abbrev pub IsChanged : Loaded → ValueName → (s t : Slot) → Type 0
IsChanged l n s t = (t ≡ s) ⊎ (IsBehind l s t ⊎ IsAlsoAssigned l n s t)

-- the law: a change is made to the value that is named, to that of a variable that nobody else reads, or to what is added to the variable that is named
abbrev pub ChangesOneValue : Type 0
ChangesOneValue = (l : Loaded) (n : ValueName) (c : ValueChange) (s t : Slot) → changed_slot l.files (project l) n c s ≡ Ok t → IsChanged l n s t
