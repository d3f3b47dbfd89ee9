-- What is met in an expression if this number of variables may still be followed.
use Rattle.std.specs.Prelude.{ℕ, ◌&&◌, List, if◌then◌else◌}
use Rattle.meson_lex.specs.declared.kinds.Span.{Span}
use Rattle.meson_syntax.specs.Tree.{Expression, Operands, Listing, Argument, Arguments}
use Rattle.meson_calls.specs.Project.{Project}
use Rattle.meson_variables.specs.Expansion.{opaque, Expansion, Stand, met, then_expand, within, operand_at, are_plus, is_list_operand, expand_operands, expand_listing, expand_each, expand_argument}
use Rattle.meson_calls.specs.Roles.{one_of}
use Rattle.meson_variables.specs.Tallies.{follow_of, expand_left}

-- what it gives if it is followed once at most
abbrev pub variable_left : Project Span → ℕ → List ℕ → List (List ℕ) → Expansion Span
variable_left p left x followed = if one_of followed x then met opaque followed else follow_of p left x followed

abbrev pub listing_left : Project Span → ℕ → Listing Span → Stand → List (List ℕ) → Expansion Span
listing_left p left = expand_listing (is_list_operand p) (follow_of p left)

-- the list of an array or a call, in which nothing may be met
abbrev pub list_left : Project Span → ℕ → Listing Span → Stand → List (List ℕ) → Expansion Span
list_left p left l s followed = within s.place (listing_left p left l s followed)

abbrev pub each_left : Project Span → ℕ → Arguments Span → ℕ → Stand → List (List ℕ) → Expansion Span
each_left p left = expand_each (is_list_operand p) (follow_of p left)

abbrev pub argument_left : Project Span → ℕ → Argument Span → Stand → List (List ℕ) → Expansion Span
argument_left p left = expand_argument (is_list_operand p) (follow_of p left)

abbrev pub operands_left : Project Span → ℕ → Operands Span → ℕ → Stand → List (List ℕ) → Expansion Span
operands_left p left = expand_operands (is_list_operand p) (follow_of p left)

-- a sum, by its first operand and the others
abbrev pub sum_left : Project Span → ℕ → Expression Span → Operands Span → Stand → List (List ℕ) → Expansion Span
sum_left p left e os s followed = then_expand (expand_left p left e (operand_at s 0) followed) (λ now. operands_left p left os 1 s now)

-- a row, which may be one
abbrev pub row_left : Project Span → ℕ → Expression Span → Operands Span → Stand → List (List ℕ) → Expansion Span
row_left p left e os s followed = if are_plus os && is_list_operand p e then sum_left p left e os s followed else met opaque followed
