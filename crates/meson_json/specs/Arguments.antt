-- What names a value, and the changes of a value, as words and scripts give them.
use Rattle.std.specs.Prelude.{ℕ, ◌==◌, nat_lt, Bool, false, true, List, [], ◌∷◌, length, bytes_eq, codes, if◌then◌else◌, Option, Some, None, option_map}
use Rattle.std.specs.List.{after_first, before_first, position_or_len}
use Rattle.meson_steps.specs.declared.argument.Callee.{Callee}
use Rattle.meson_steps.specs.declared.argument.Callee.TheVariants as callee
use Rattle.meson_steps.specs.declared.argument.PlaceName.{PlaceName}
use Rattle.meson_steps.specs.declared.argument.PlaceName.TheVariants as name
use Rattle.meson_steps.specs.declared.argument.ValueChange.{ValueChange}
use Rattle.meson_steps.specs.declared.argument.ValueChange.TheVariants as change
use Rattle.meson_steps.specs.declared.argument.ValueName.{ValueName}
use Rattle.meson_steps.specs.declared.command.Command.{Command}
use Rattle.meson_steps.specs.declared.command.Command.TheVariants as command
use Rattle.meson_steps.specs.declared.given.Given.{Given}
use Rattle.meson_json.specs.Counts.{count_of}
use Rattle.meson_json.specs.declared.names.ArgumentOperation.{ArgumentOperation}
use Rattle.meson_json.specs.declared.names.ArgumentOperation.TheVariants as operation

-- `target` stands for all functions that make targets
abbrev pub callee_of : List ℕ → Callee
callee_of function = if bytes_eq function (codes "target") then callee.Target else callee.Function function

-- FILE:LINE, of which the first colon (58) ends the name of the file
abbrev pub is_colon : ℕ → Bool
is_colon b = b == 58

abbrev pub line_named : List ℕ → Option PlaceName
line_named id =
    if nat_lt (position_or_len is_colon id) (length id) then option_map (name.Line (before_first is_colon id)) (count_of (after_first is_colon id))
    else None

-- the place that a function's name and an id name
abbrev pub place_named : (function id : List ℕ) → Option PlaceName
place_named function id =
    if bytes_eq function (codes "project") then Some (name.Project id)
    else (if bytes_eq function (codes "variable") then Some (name.Variable id)
    else (if bytes_eq function (codes "at") then line_named id
    else Some (name.Call (callee_of function) id)))

-- the texts between the dots (46) of a text
abbrev pub is_dot : ℕ → Bool
is_dot b = b == 46

abbrev pub begun_by : ℕ → List (List ℕ) → List (List ℕ)
begun_by b [] = (b ∷ []) ∷ []
begun_by b (part ∷ parts) = (b ∷ part) ∷ parts

abbrev pub between_dots : List ℕ → List (List ℕ)
between_dots [] = [] ∷ []
between_dots (b ∷ bs) = if is_dot b then [] ∷ between_dots bs else begun_by b (between_dots bs)

-- one key after another; `.` names the thing itself
abbrev pub keys_in : List ℕ → List (List ℕ)
keys_in word = if bytes_eq word (codes ".") then [] else between_dots word

-- to one value, or to several
abbrev pub set_to : List Given → Option ValueChange
set_to [] = None
set_to (g ∷ []) = Some (change.Set g)
set_to (g ∷ h ∷ gs) = Some (change.SetAll (g ∷ h ∷ gs))

-- one by another
abbrev pub replaced_by : List Given → Option ValueChange
replaced_by [] = None
replaced_by (g ∷ []) = None
replaced_by (old ∷ new ∷ []) = Some (change.Replace old new)
replaced_by (g ∷ h ∷ k ∷ gs) = None

-- the change of an operation with its values, if there are as many as it takes
abbrev pub change_by : ArgumentOperation → List Given → Option ValueChange
change_by operation.Set gs = set_to gs
change_by operation.Add [] = None
change_by operation.Add (g ∷ gs) = Some (change.Add (g ∷ gs))
change_by operation.Remove [] = None
change_by operation.Remove (g ∷ gs) = Some (change.Remove (g ∷ gs))
change_by operation.Replace gs = replaced_by gs
change_by operation.Delete [] = Some change.Delete
change_by operation.Delete (g ∷ gs) = None
change_by operation.Info gs = None

-- values go after another one; only `add` puts them there
abbrev pub after_to : ArgumentOperation → (after : Given) → List Given → Option ValueChange
after_to operation.Add it (g ∷ gs) = Some (change.AddAfter it (g ∷ gs))
after_to o it gs = None

-- or each into its place; only `add` does so
abbrev pub sorted_to : ArgumentOperation → List Given → Option ValueChange
sorted_to operation.Add (g ∷ gs) = Some (change.AddSorted (g ∷ gs))
sorted_to o gs = None

-- the same, with the value after which values are added, if one is given, and whether each goes into its place; not both
abbrev pub change_to : ArgumentOperation → (after : Option Given) → (sorted : Bool) → List Given → Option ValueChange
change_to o None false gs = change_by o gs
change_to o None true gs = sorted_to o gs
change_to o (Some it) false gs = after_to o it gs
change_to o (Some it) true gs = None

-- the command of an operation with the name of a value, the value after which values are added, whether each goes into its place, and further values, if
-- there are as many as it takes; a report takes none
abbrev pub command_to : ArgumentOperation → ValueName → (after : Option Given) → (sorted : Bool) → List Given → Option Command
command_to operation.Info name None false [] = Some (command.ArgumentInfo name)
command_to operation.Info name after sorted gs = None
command_to o name after sorted gs = option_map (command.Argument name) (change_to o after sorted gs)

-- a report may leave the keys out: then it is of the place itself
abbrev pub keys_left_out : ArgumentOperation → Option (List (List ℕ))
keys_left_out operation.Info = Some []
keys_left_out o = None
