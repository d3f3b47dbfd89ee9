-- The calls of a project, and what a call says: its function, its arguments without a name and those with one.
-- Meson manual, Syntax, "Function calls" and "Method calls": a method call is not a call of a function.
use Rattle.std.specs.Prelude.{ℕ, ◌+◌, Bool, false, List, [], ◌∷◌, if◌then◌else◌, bytes_eq, Option, Some, None, option_map, option_and_then}
use Rattle.std.specs.List.{filter_map}
use Rattle.meson_lex.specs.Literals.{value}
use Rattle.meson_syntax.specs.Operators.{string_kind}
use Rattle.meson_syntax.specs.Tree.{Expression, string, call, Listing, listing, Argument, plain, named, pair, Arguments, no_arguments, argument}
use Rattle.meson_calls.specs.Project.{Project, Placed, placed}
use Rattle.meson_calls.specs.Parts.{Part, an_expression, a_statement, parts}

-- a call: its function, and its arguments from bracket to bracket
pub record Call (S : Type 0) : Type 0 where
  pub function : List ℕ
  pub arguments : Listing S

abbrev pub call_of : {S : Type 0} → Expression S → Option (Call S)
call_of (call s f l) = Some (record { function = f.text; arguments = l })
call_of _ = None

abbrev pub part_call : {S : Type 0} → Part S → Option (Call S)
part_call (an_expression e) = call_of e
part_call (a_statement s) = None

-- what a test of parts gives for them, each with its place
abbrev pub chosen : {X Y : Type 0} → (X → Option Y) → Placed X → Option (Placed Y)
chosen choose x = option_map (placed x.place) (choose x.it)

abbrev pub all_chosen : {X Y : Type 0} → (X → Option Y) → List (Placed X) → List (Placed Y)
all_chosen choose xs = filter_map (chosen choose) xs

-- the calls of a project, in file order and source order, at any depth
abbrev pub calls : {S : Type 0} → Project S → List (Placed (Call S))
calls p = all_chosen part_call (parts p)

abbrev pub calls_function : {S : Type 0} → List ℕ → Call S → Bool
calls_function f c = bytes_eq c.function f

-- ---- arguments, each with its number, the first of which is n

pub record Numbered (X : Type 0) : Type 0 where
  pub number : ℕ
  pub value : X

abbrev pub numbered : {S : Type 0} → ℕ → Arguments S → List (Numbered (Argument S))
numbered n no_arguments = []
numbered n (argument a more) = record { number = n; value = a } ∷ numbered (n + 1) more

abbrev pub numbered_arguments : {S : Type 0} → Listing S → List (Numbered (Argument S))
numbered_arguments (listing s trailing list) = numbered 0 list

abbrev pub value_without_name : {S : Type 0} → Argument S → Option (Expression S)
value_without_name (plain e) = Some e
value_without_name (named s x e) = None
value_without_name (pair s e f) = None

abbrev pub value_with_name : {S : Type 0} → List ℕ → Argument S → Option (Expression S)
value_with_name key (plain e) = None
value_with_name key (named s x e) = if bytes_eq x.text key then Some e else None
value_with_name key (pair s e f) = None

abbrev pub kept_number : {X Y : Type 0} → (X → Option Y) → Numbered X → Option (Numbered Y)
kept_number choose x = option_map (λ y. record { number = x.number; value = y }) (choose x.value)

-- the arguments without a name; the values of the arguments of a name
abbrev pub positional : {S : Type 0} → Call S → List (Numbered (Expression S))
positional c = filter_map (kept_number value_without_name) (numbered_arguments c.arguments)

abbrev pub keyword : {S : Type 0} → List ℕ → Call S → List (Numbered (Expression S))
keyword key c = filter_map (kept_number (value_with_name key)) (numbered_arguments c.arguments)

abbrev pub first_of : {X : Type 0} → List X → Option X
first_of [] = None
first_of (x ∷ xs) = Some x

-- the first argument without a name
abbrev pub first_argument : {S : Type 0} → Call S → Option (Expression S)
first_argument c = option_map (λ a. a.value) (first_of (positional c))

-- ---- literals

-- the text that a string means, if it is a literal: Meson manual, Syntax, "Strings"
abbrev pub literal_of : {S : Type 0} → Expression S → Option (List ℕ)
literal_of (string s q x) = value (string_kind q) x
literal_of _ = None

abbrev pub first_literal : {S : Type 0} → Call S → Option (List ℕ)
first_literal c = option_and_then literal_of (first_argument c)

-- whether a text is there and is this one
abbrev pub is : List ℕ → Option (List ℕ) → Bool
is x None = false
is x (Some y) = bytes_eq x y
