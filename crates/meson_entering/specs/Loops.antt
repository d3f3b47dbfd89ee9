-- The texts that the name of a loop may mean at a place in a file, as far as they are known. Meson manual, Syntax, "Foreach statements".
use Rattle.std.specs.Prelude.{ℕ, nat_eq, Bool, false, ◌&&◌, List, [], ◌∷◌, ◌++◌, if◌then◌else◌, bytes_eq, Option, Some, None}
use Rattle.std.specs.List.{filter_map, flat_map, last_or, starts_with}
use Rattle.meson_syntax.specs.Tree.{Expression, identifier, File, Name}
use Rattle.meson_syntax.specs.Paths.{expression_on_path}
use Rattle.meson_calls.specs.Notes.{Note, a_call, an_assignment, a_loop, noted}
use Rattle.meson_calls.specs.Parts.{parts_of_file}
use Rattle.meson_calls.specs.Project.{Placed}
use Rattle.meson_entering.specs.Lists.{own_texts, summands, value_texts}

-- whether this is the first name of a loop
abbrev pub is_first : {S : Type 0} → List ℕ → List (Name S) → Bool
is_first x [] = false
is_first x (y ∷ more) = bytes_eq y.text x

-- whether a path is in the body of the loop at another one
abbrev pub is_in_body : (loop path : List ℕ) → Bool
is_in_body loop path = starts_with nat_eq path (loop ++ 1 ∷ [])

-- ---- the loop around a place

module _ {S : Type 0} (tree : File S) where
  -- the list of the loop at a path, if it sets this name first, and another path is in its body
  abbrev pub list_noted : List ℕ → (path loop : List ℕ) → Note S → Option (Expression S)
  list_noted x path loop (a_call c) = None
  list_noted x path loop (an_assignment y sets e) = None
  list_noted x path loop (a_loop xs) = if is_first x xs && is_in_body loop path then expression_on_path tree (loop ++ 0 ∷ []) else None

  abbrev pub list_around : List ℕ → List ℕ → Placed (Note S) → Option (Expression S)
  list_around x path n = list_noted x path n.place.path.steps n.it

  -- of the innermost one: a loop is noted before those in its body
  abbrev pub innermost_list : List ℕ → List ℕ → List (Placed (Note S)) → Option (Expression S)
  innermost_list x path notes = last_or None (filter_map (list_around x path) notes)

-- ---- its texts

-- of the value of an assignment to this variable
abbrev pub noted_texts : {S : Type 0} → List ℕ → Note S → List (List ℕ)
noted_texts x (a_call c) = []
noted_texts x (an_assignment y sets e) = if bytes_eq y x then value_texts e else []
noted_texts x (a_loop xs) = []

abbrev pub assigned_texts : {S : Type 0} → List ℕ → Placed (Note S) → List (List ℕ)
assigned_texts x n = noted_texts x n.it

-- a variable may hold what is assigned to it anywhere in the file
abbrev pub variable_texts : {S : Type 0} → List ℕ → List (Placed (Note S)) → List (List ℕ)
variable_texts x notes = flat_map (assigned_texts x) notes

-- of a summand of the list
abbrev pub summand_texts : {S : Type 0} → List (Placed (Note S)) → Expression S → List (List ℕ)
summand_texts notes (identifier s x) = variable_texts x notes
summand_texts notes e = own_texts e

abbrev pub list_texts : {S : Type 0} → List (Placed (Note S)) → Expression S → List (List ℕ)
list_texts notes e = flat_map (summand_texts notes) (summands e)

-- ---- in a file

-- its notes; the number of the file makes no difference
abbrev pub file_notes : {S : Type 0} → File S → List (Placed (Note S))
file_notes tree = noted (parts_of_file 0 tree)

abbrev pub texts_if_found : {S : Type 0} → List (Placed (Note S)) → Option (Expression S) → List (List ℕ)
texts_if_found notes None = []
texts_if_found notes (Some e) = list_texts notes e

abbrev pub loop_texts : {S : Type 0} → File S → (name path : List ℕ) → List (List ℕ)
loop_texts tree x path = texts_if_found (file_notes tree) (innermost_list tree x path (file_notes tree))
