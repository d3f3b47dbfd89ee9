-- The parts of a command on keyword arguments or default options: changes of one call, each made after the one before it.
-- Meson manual, Rewriter: `kwargs set`, `delete`, `add`, `remove`, `default-options set`, `delete`.
use Rattle.std.specs.Prelude.{ℕ, ◌==◌, ◌||◌, List, [], ◌∷◌, ◌++◌, map, if◌then◌else◌, Option, Some, None, option_map, is_some, Result, Ok, Err}
use Rattle.meson_splice.specs.Patch.{then_ok}
use Rattle.meson_syntax.specs.Tree.{Nowhere, Expression}
use Rattle.meson_edit.specs.Edits.{Written, is_empty}
use Rattle.meson_calls.specs.declared.call.Role.{Role}
use Rattle.meson_steps.specs.declared.command.Setting.{Setting}
use Rattle.meson_keywords.specs.declared.value_kinds.ElementKind.{ElementKind}
use Rattle.meson_calls.specs.declared.refusal.Refusal.{Refusal}
use Rattle.meson_calls.specs.declared.refusal.Refusal.TheVariants.{BadName}
use Rattle.meson_keywords.specs.ValueKinds.{key_kind, list_kind, list_values, written_value}

-- one change of a call
pub data Task : Type 0 where
  -- the keyword argument gets this value
  set : (key : List ℕ) → Written (Expression Nowhere) → Task
  -- the keyword argument is removed
  delete : (key : List ℕ) → Task
  -- each of these values is made one of the elements of the keyword argument
  add : (key : List ℕ) → ElementKind → (values : List (List ℕ)) → Task
  -- this value is removed from its elements
  remove : (key : List ℕ) → ElementKind → (value : List ℕ) → Task
  -- nothing; but the keyword argument may be there once only
  once : (key : List ℕ) → Task
  -- a default option gets this value
  set_option : (name value : List ℕ) → Task
  -- a default option is removed
  delete_option : (name : List ℕ) → Task

-- ---- the tasks of a command. Its words are checked in their order, before anything is checked of the call.

abbrev pub each_made : {X : Type 0} → (X → Result (List Task) Refusal) → List X → Result (List Task) Refusal
each_made make [] = Ok []
each_made make (x ∷ xs) = then_ok (make x) (λ here. then_ok (each_made make xs) (λ later. Ok (here ++ later)))

abbrev pub set_entry : Role → List ℕ × Setting → Result (List Task) Refusal
set_entry r pair = then_ok (key_kind r pair.0) (λ k. then_ok (written_value k pair.0 pair.1) (λ new. Ok (set pair.0 new ∷ [])))

-- of a deleted argument no value is required
abbrev pub delete_entry : Role → List ℕ → Result (List Task) Refusal
delete_entry r key = then_ok (key_kind r key) (λ k. Ok (delete key ∷ []))

abbrev pub add_entry : Role → List ℕ × Setting → Result (List Task) Refusal
add_entry r pair =
    then_ok (then_ok (key_kind r pair.0) (list_kind pair.0)) (λ e. then_ok (list_values e pair.0 pair.1) (λ values. Ok (add pair.0 e values ∷ [])))

-- one value after another; without values the argument may still be there once only
abbrev pub remove_entry : Role → List ℕ × Setting → Result (List Task) Refusal
remove_entry r pair =
    then_ok (then_ok (key_kind r pair.0) (list_kind pair.0))
    (λ e. then_ok (list_values e pair.0 pair.1) (λ values. Ok (once pair.0 ∷ map (remove pair.0 e) values)))

-- ---- options: each is one text, NAME=VALUE

-- what is before the first `=`
abbrev pub before_equals : List ℕ → Option (List ℕ)
before_equals [] = None
before_equals (b ∷ bs) = if b == 61 then Some [] else option_map (λ front. b ∷ front) (before_equals bs)

-- an option's name is not empty and holds no `=`
abbrev pub checked_option : List ℕ → Result (Unit {0}) Refusal
checked_option name = if is_empty name || is_some (before_equals name) then Err BadName else Ok tt

abbrev pub set_option_entry : List ℕ × List ℕ → Result (List Task) Refusal
set_option_entry pair = then_ok (checked_option pair.0) (λ _. Ok (set_option pair.0 pair.1 ∷ []))

abbrev pub delete_option_entry : List ℕ → Result (List Task) Refusal
delete_option_entry name = then_ok (checked_option name) (λ _. Ok (delete_option name ∷ []))
