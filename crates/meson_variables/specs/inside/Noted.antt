-- How the code finds the values of variables: by notes, which nest to this depth at most.
use Rattle.std.specs.Prelude.{ℕ, suc, ◌+◌, max, Bool, not, ◌&&◌, List, [], ◌∷◌, Option, None, if◌then◌else◌}
use Rattle.meson_syntax.specs.Tree.{Expression, array, call, row, Operands, no_operands, operand, Listing, listing, Argument, plain, Arguments, no_arguments, argument}
use Rattle.meson_calls.specs.Project.{Placed}
use Rattle.meson_variables.specs.Variables.{only_value}
use Rattle.meson_calls.specs.Notes.{Note, a_call, an_assignment, a_loop}
use Rattle.meson_variables.specs.Noted.{assigned_notes, is_set_by}

-- the one expression that a variable means, if it is known what sets variables
abbrev pub by_notes : {S : Type 0} → List ℕ → Bool → List (Placed (Note S)) → Option (Placed (Expression S))
by_notes x known ns = if known && not (is_set_by x ns) then only_value (assigned_notes x ns) else None

-- how many arrays, calls and rows are inside one another, as far as an expansion enters them
abbrev mutual
  pub rank : {S : Type 0} → Expression S → ℕ
  rank (array l) = listing_rank l
  rank (call s x l) = listing_rank l
  rank (row s e os) = suc (max (rank e) (operands_rank os))
  rank _ = 0

  pub operands_rank : {S : Type 0} → Operands S → ℕ
  operands_rank no_operands = 0
  operands_rank (operand o e more) = max (rank e) (operands_rank more)

  pub listing_rank : {S : Type 0} → Listing S → ℕ
  listing_rank (listing s trailing list) = suc (arguments_rank list)

  pub argument_rank : {S : Type 0} → Argument S → ℕ
  argument_rank (plain e) = rank e
  argument_rank _ = 0

  pub arguments_rank : {S : Type 0} → Arguments S → ℕ
  arguments_rank no_arguments = 0
  arguments_rank (argument a more) = max (argument_rank a) (arguments_rank more)

-- the sum of these numbers for all assigned values: no single value has more
abbrev pub note_rank : {S : Type 0} → Note S → ℕ
note_rank (a_call c) = 0
note_rank (an_assignment y sets e) = rank e
note_rank (a_loop xs) = 0

abbrev pub notes_rank : {S : Type 0} → List (Placed (Note S)) → ℕ
notes_rank [] = 0
notes_rank (n ∷ ns) = note_rank n.it + notes_rank ns
