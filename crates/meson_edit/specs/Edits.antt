-- Edits of the tree of a build file: of the elements of a list, of whole statements, and of assigned values.
use Rattle.std.specs.Prelude.{ℕ, suc, Bool, true, false, List, [], ◌∷◌, ◌++◌, length, take, drop, if◌then◌else◌, Option, Some, None, option_map, option_and_then}
use Rattle.meson_layout.specs.declared.primitive.BlankLines.{BlankLines}
use Rattle.meson_syntax.specs.Tree.{Nowhere, Plain, Expression, array, Listing, listing, Argument, plain, named, pair, argument_list, arguments_of, Statement}
use Rattle.meson_syntax.specs.Paths.{nth, list_at, value_of}
use Rattle.meson_edit.specs.Assigned.{assigned_at}
use Rattle.meson_edit.specs.Blocks.{block_at, statement_in, block_without, file_and_last}
use Rattle.meson_edit.specs.ExchangedLines.{exchanged_in, statements_in}

-- what is written, as bytes and as a tree
pub record Written (X : Type 0) : Type 0 where
  pub bytes : List ℕ
  pub node : X

-- where whole lines are inserted: above the n-th statement of a block, below it, or at the end of the file
pub data LinePlace : Type 0 where
  above : (block : List ℕ) → (n : ℕ) → LinePlace
  below : (block : List ℕ) → (n : ℕ) → LinePlace
  at_end : LinePlace

-- One edit. A list, a block or an assignment is named by its path in the file, an element or a statement by its number there.
pub data Edit : Type 0 where
  -- the first element of an empty list
  First : (list : List ℕ) → Written (Argument Nowhere) → Edit
  -- an element after the n-th
  After : (list : List ℕ) → (n : ℕ) → Written (Argument Nowhere) → Edit
  -- the n-th element is removed
  Remove : (list : List ℕ) → (n : ℕ) → Edit
  -- the value of the n-th element is replaced by another one
  Replace : (list : List ℕ) → (n : ℕ) → Written (Expression Nowhere) → Edit
  -- or by the array of it
  Wrap : (list : List ℕ) → (n : ℕ) → Edit
  -- the n-th statement is removed, with these blank lines beside it
  RemoveStatement : BlankLines → (block : List ℕ) → (n : ℕ) → Edit
  -- a statement after all others of the file
  Append : Written (Statement Nowhere) → Edit
  -- the assignment assigns another value
  Assign : (assignment : List ℕ) → Written (Expression Nowhere) → Edit
  -- statements on lines of their own
  Lines : LinePlace → Written (List (Statement Nowhere)) → Edit

-- ---- lists

abbrev pub is_empty : {A : Type 0} → List A → Bool
is_empty [] = true
is_empty (x ∷ xs) = false

-- The list with other elements. The comma after the last one stays as long as there are elements.
abbrev pub with_elements : {S : Type 0} → Listing S → List (Argument S) → Listing S
with_elements (listing s trailing list) elements = listing s (if is_empty elements then false else trailing) (arguments_of elements)

abbrev pub elements : {S : Type 0} → Listing S → List (Argument S)
elements (listing s trailing list) = argument_list list

-- an element with another value
abbrev pub with_value : {S : Type 0} → Expression S → Argument S → Argument S
with_value v (plain e) = plain v
with_value v (named s x e) = named s x v
with_value v (pair s e f) = pair s e v

-- the array of one expression
abbrev pub array_of : Expression Nowhere → Expression Nowhere
array_of e = array (listing tt false (arguments_of (plain e ∷ [])))

-- ---- edited lists

abbrev pub first_element : Argument Nowhere → List (Argument Nowhere) → Option (List (Argument Nowhere))
first_element a [] = Some (a ∷ [])
first_element a (x ∷ xs) = None

abbrev pub element_added : ℕ → Argument Nowhere → List (Argument Nowhere) → Argument Nowhere → List (Argument Nowhere)
element_added n a list it = take (suc n) list ++ a ∷ drop (suc n) list

abbrev pub element_removed : ℕ → List (Argument Nowhere) → Argument Nowhere → List (Argument Nowhere)
element_removed n list it = take n list ++ drop (suc n) list

abbrev pub exchanged : ℕ → (Expression Nowhere → Expression Nowhere) → List (Argument Nowhere) → Argument Nowhere → Option (List (Argument Nowhere))
exchanged n change list it = option_map (λ v. take n list ++ with_value (change v) it ∷ drop (suc n) list) (value_of it)

-- the elements of the list after an edit of it
abbrev pub edited_elements : Edit → List (Argument Nowhere) → Option (List (Argument Nowhere))
edited_elements (First path new) list = first_element new.node list
edited_elements (After path n new) list = option_map (element_added n new.node list) (nth list n)
edited_elements (Remove path n) list = option_map (element_removed n list) (nth list n)
edited_elements (Replace path n new) list = option_and_then (exchanged n (λ v. new.node) list) (nth list n)
edited_elements (Wrap path n) list = option_and_then (exchanged n array_of list) (nth list n)
edited_elements (RemoveStatement blank path n) list = None
edited_elements (Append new) list = None
edited_elements (Assign path new) list = None
edited_elements (Lines place new) list = None

-- ---- edited files

abbrev pub edited_list : Edit → List ℕ → Plain → Option Plain
edited_list e path f = option_and_then (λ p. option_map (λ list. p.back (with_elements p.list list)) (edited_elements e (elements p.list))) (list_at f path)

abbrev pub without_statement : List ℕ → ℕ → Plain → Option Plain
without_statement path n f = option_and_then (λ b. option_map (λ s. b.back (block_without b.inside n)) (statement_in b.inside n)) (block_at f path)

-- a block with more statements from this number on, where its n-th statement is there
abbrev pub with_more : List ℕ → (n from : ℕ) → List (Statement Nowhere) → Plain → Option Plain
with_more path n from new f =
    option_and_then (λ b. option_map (λ s. b.back (exchanged_in from 0 new b.inside)) (statement_in b.inside n)) (block_at f path)

abbrev pub with_lines : LinePlace → List (Statement Nowhere) → Plain → Option Plain
with_lines (above path n) new f = with_more path n n new f
with_lines (below path n) new f = with_more path n (suc n) new f
with_lines at_end new f = option_map (λ b. b.back (exchanged_in (length (statements_in b.inside)) 0 new b.inside)) (block_at f [])

-- The file after an edit, if the edit names what is there.
abbrev pub edited : Edit → Plain → Option Plain
edited (First path new) f = edited_list (First path new) path f
edited (After path n new) f = edited_list (After path n new) path f
edited (Remove path n) f = edited_list (Remove path n) path f
edited (Replace path n new) f = edited_list (Replace path n new) path f
edited (Wrap path n) f = edited_list (Wrap path n) path f
edited (RemoveStatement blank path n) f = without_statement path n f
edited (Append new) f = Some (file_and_last f new.node)
edited (Assign path new) f = option_map (λ p. p.back new.node) (assigned_at f path)
edited (Lines place new) f = with_lines place new.node f
