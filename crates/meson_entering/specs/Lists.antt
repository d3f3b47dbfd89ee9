-- The texts that a list is known to hold. Meson manual, Syntax, "Arrays" and "Dictionaries": `+` adds lists, or one more element; `foreach` goes through the
-- elements of an array, and through the entries of a dictionary, of each the key first.
use Rattle.std.specs.Prelude.{ℕ, List, [], ◌∷◌, ◌++◌, if◌then◌else◌, Option, None}
use Rattle.std.specs.List.{cons_option, flat_map}
use Rattle.meson_syntax.specs.Tree.{Expression, array, dictionary, paren, row, Operands, no_operands, operand, Listing, listing, Argument, plain, named, pair, Arguments, no_arguments, argument}
use Rattle.meson_calls.specs.Calls.{literal_of}
use Rattle.meson_variables.specs.Expansion.{are_plus}

-- what is summed: parentheses and sums are opened
abbrev mutual
  pub summands : {S : Type 0} → Expression S → List (Expression S)
  summands (paren s e) = summands e
  summands (row s e os) = if are_plus os then summands e ++ added os else row s e os ∷ []
  summands e = e ∷ []

  pub added : {S : Type 0} → Operands S → List (Expression S)
  added no_operands = []
  added (operand o e more) = summands e ++ added more

-- an element of an array, or the key of an entry, if it is a literal
abbrev pub element_text : {S : Type 0} → Argument S → Option (List ℕ)
element_text (plain e) = literal_of e
element_text (named s x e) = None
element_text (pair s e f) = literal_of e

abbrev pub element_texts : {S : Type 0} → Arguments S → List (List ℕ)
element_texts no_arguments = []
element_texts (argument a more) = cons_option (element_text a) (element_texts more)

abbrev pub listed_texts : {S : Type 0} → Listing S → List (List ℕ)
listed_texts (listing s trailing list) = element_texts list

-- of a summand: those of a list that is written there, or one more element
abbrev pub own_texts : {S : Type 0} → Expression S → List (List ℕ)
own_texts (array l) = listed_texts l
own_texts (dictionary l) = listed_texts l
own_texts e = cons_option (literal_of e) []

-- of a value: what variables hold is not known
abbrev pub value_texts : {S : Type 0} → Expression S → List (List ℕ)
value_texts e = flat_map own_texts (summands e)
