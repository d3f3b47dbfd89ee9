-- What the code computes of a maker.
use Rattle.std.specs.Prelude.{ℕ, Bool, false, ◌&&◌, ◌||◌, List, [], ◌∷◌, ◌++◌, if◌then◌else◌, Option, Some, None, option_and_then}
use Rattle.std.specs.List.{list_all}
use Rattle.meson_calls.specs.declared.call.CallRef.{CallRef}
use Rattle.meson_calls.specs.Calls.{Call}
use Rattle.meson_calls.specs.Project.{Project, Placed, nth_file}
use Rattle.meson_calls.specs.Roles.{one_of}
use Rattle.meson_edit.specs.Blocks.{block_at, statement_in}
use Rattle.meson_syntax.specs.Tree.{File}
use Rattle.meson_sharing.specs.CodeWays.{is_way_in}
use Rattle.meson_sharing.specs.Sharing.{assigned_name, from_followed, from_maker, is_closed, is_use, reads_of}

-- the variable to which the n-th statement of a block assigns: of the block that a path names, and of the one at a place
abbrev pub name_in : {S : Type 0} → File S → List ℕ → ℕ → Option (List ℕ)
name_in f path n = option_and_then assigned_name (option_and_then (λ b. statement_in b.inside n) (block_at f path))

abbrev pub name_there : {S : Type 0} → Project S → CallRef → ℕ → Option (List ℕ)
name_there p block n = option_and_then (λ f. name_in f.tree block.path.steps n) (nth_file p block.file)

-- these names with one more, if it is not among them
abbrev pub with_name : List (List ℕ) → Option (List ℕ) → List (List ℕ)
with_name names None = names
with_name names (Some x) = if one_of names x then names else names ++ x ∷ []

-- a place is one of these ways of a call, or a way of the value of one of these makers; or a use, if uses are allowed
abbrev pub is_read_by : {S : Type 0} → Project S → (with_uses : Bool) → (ways makers : List CallRef) → CallRef → Bool
is_read_by p with_uses ways ms q = is_way_in p ways ms q || (with_uses && is_use p q)

-- whether what is in the value of a maker is read for the call alone that follows these values and has these ways; or used, if uses are allowed
abbrev pub is_closed_by : {S : Type 0} → Project S → (with_uses : Bool) → (followed ways : List CallRef) → CallRef → Bool
is_closed_by p with_uses followed ways m =
    list_all (is_read_by p with_uses ways (from_followed p followed m)) (reads_of p (from_followed p followed m))

abbrev pub is_closed_for : {S : Type 0} → Project S → (with_uses : Bool) → CallRef → Placed (Call S) → Bool
is_closed_for p with_uses m c = is_closed p c with_uses (from_maker p c m)

-- whether what is in all of these values is read for the call alone that follows them and has these ways
abbrev pub are_closed_by : {S : Type 0} → Project S → (followed ways : List CallRef) → Bool
are_closed_by p followed ways = list_all (is_read_by p false ways followed) (reads_of p followed)
