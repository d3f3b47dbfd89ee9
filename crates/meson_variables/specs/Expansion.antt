-- What a list of sources holds. Meson manual, Reference manual, `files` and the functions that make targets: sources are strings, `files()` and lists of these.
-- A variable means its one value. A sum that begins with a list holds what its operands hold. All else is opaque: what it holds is not known.
use Rattle.std.specs.Prelude.{ℕ, zero, suc, ◌+◌, Bool, true, false, not, ◌&&◌, List, [], ◌∷◌, ◌++◌, if◌then◌else◌, bytes_eq, codes, Option, Some, None}
use Rattle.meson_syntax.specs.declared.operator.Operator.{Operator}
use Rattle.meson_syntax.specs.declared.operator.Operator.TheVariants as operator
use Rattle.meson_syntax.specs.Operators.{string_kind}
use Rattle.meson_lex.specs.Literals.{value}
use Rattle.meson_syntax.specs.Tree.{Expression, identifier, string, array, call, row, Operands, no_operands, operand, Listing, listing, Argument, plain, named, pair, is_named, Arguments, no_arguments, argument}
use Rattle.meson_calls.specs.declared.call.CallRef.{CallRef}
use Rattle.meson_calls.specs.Project.{Project, child, Placed}
use Rattle.meson_calls.specs.Roles.{one_of}
use Rattle.meson_variables.specs.Variables.{single}

-- ---- what is met, in order

-- in the list of an array or a call, as its n-th child, or in none
pub data Slot : Type 0 where
  in_list : CallRef → ℕ → Slot
  fixed : Slot

-- a literal: its text, its place, its slot, and the innermost variable that was followed to it
pub record Item (S : Type 0) : Type 0 where
  pub text : List ℕ
  pub stands : S
  pub place : CallRef
  pub slot : Slot
  pub variable : Option (List ℕ)

pub data Mark (S : Type 0) : Type 0 where
  known : Item S → Mark S
  opaque : Mark S
  -- an array or a `files()` in which nothing is met
  empty : CallRef → Mark S

-- what is met, and the variables that were followed so far
pub record Expansion (S : Type 0) : Type 0 where
  pub marks : List (Mark S)
  pub followed : List (List ℕ)

-- the place of an expression
pub record Stand : Type 0 where
  pub place : CallRef
  pub slot : Slot
  pub variable : Option (List ℕ)

abbrev pub met : {S : Type 0} → Mark S → List (List ℕ) → Expansion S
met m followed = record { marks = m ∷ []; followed = followed }

abbrev pub nothing_met : {S : Type 0} → List (List ℕ) → Expansion S
nothing_met followed = record { marks = []; followed = followed }

-- one and then another, which knows what the first has followed
abbrev pub both_expanded : {S : Type 0} → Expansion S → Expansion S → Expansion S
both_expanded e f = record { marks = e.marks ++ f.marks; followed = f.followed }

abbrev pub then_expand : {S : Type 0} → Expansion S → (List (List ℕ) → Expansion S) → Expansion S
then_expand e more = both_expanded e (more e.followed)

-- the n-th element of a list
abbrev pub element : Stand → ℕ → Stand
element s n = record { place = child s.place n; slot = in_list s.place n; variable = s.variable }

-- the n-th operand of a row, which is in no list
abbrev pub operand_at : Stand → ℕ → Stand
operand_at s n = record { place = child s.place n; slot = fixed; variable = s.variable }

abbrev pub or_empty : {S : Type 0} → CallRef → List (Mark S) → List (Mark S)
or_empty p [] = empty p ∷ []
or_empty p (m ∷ ms) = m ∷ ms

abbrev pub within : {S : Type 0} → CallRef → Expansion S → Expansion S
within p e = record { marks = or_empty p e.marks; followed = e.followed }

-- ---- an expression

abbrev pub has_names : {S : Type 0} → Arguments S → Bool
has_names no_arguments = false
has_names (argument a more) = if is_named a then true else has_names more

abbrev pub are_named : {S : Type 0} → Listing S → Bool
are_named (listing s trailing list) = has_names list

-- a call of `files` that is a list
abbrev pub is_files : {S : Type 0} → List ℕ → Listing S → Bool
is_files f l = bytes_eq f (codes "files") && not (are_named l)

-- ---- which rows are sums of lists. Meson manual, Syntax, "Arrays": `+` adds a list, or one more element, at the end of a list.

abbrev pub is_plus : Operator → Bool
is_plus operator.Plus = true
is_plus _ = false

abbrev pub are_plus : {S : Type 0} → Operands S → Bool
are_plus no_operands = true
are_plus (operand o e more) = is_plus o && are_plus more

-- a list, or a variable that holds one
abbrev pub is_operand_by : {S : Type 0} → (List ℕ → Bool) → Expression S → Bool
is_operand_by holds (array l) = true
is_operand_by holds (call at_ f l) = is_files f.text l
is_operand_by holds (identifier at_ x) = holds x
is_operand_by holds _ = false

-- the value of a variable that holds a list: a list, or a sum that begins with one
abbrev pub is_value_by : {S : Type 0} → (Expression S → Bool) → Expression S → Bool
is_value_by is_list (array l) = true
is_value_by is_list (call at_ f l) = is_files f.text l
is_value_by is_list (row at_ e os) = are_plus os && is_list e
is_value_by is_list _ = false

abbrev pub is_single_by : {S : Type 0} → (Expression S → Bool) → Option (Placed (Expression S)) → Bool
is_single_by is_list None = false
is_single_by is_list (Some v) = is_value_by is_list v.it

-- by a chain of at most this number of variables, whatever was followed before
abbrev pub is_list_variable : {S : Type 0} → Project S → ℕ → List ℕ → Bool
is_list_variable p zero x = false
is_list_variable p (suc left) x = is_single_by (is_operand_by (is_list_variable p left)) (single p x)

-- this number of variables makes such a chain, and this number may be followed inside one another
abbrev pub max_followed : ℕ
max_followed = 64

unfoldable pub is_list_operand : {S : Type 0} → Project S → Expression S → Bool
is_list_operand p = is_operand_by (is_list_variable p max_followed)

-- ---- what expressions hold

-- a string
abbrev pub literal_item : {S : Type 0} → S → Stand → List (List ℕ) → Option (List ℕ) → Expansion S
literal_item at_ s followed (Some text) = met (known (record { text = text; stands = at_; place = s.place; slot = s.slot; variable = s.variable })) followed
literal_item at_ s followed None = met opaque followed

-- depending on which operands are lists, and what a variable gives that was not followed before
module _ {S : Type 0} (is_list : Expression S → Bool) (follow : List ℕ → List (List ℕ) → Expansion S) where
  abbrev mutual
    pub expand_by : Expression S → Stand → List (List ℕ) → Expansion S
    expand_by (string at_ q x) s followed = literal_item at_ s followed (value (string_kind q) x)
    expand_by (array l) s followed = within s.place (expand_listing l s followed)
    expand_by (call at_ f l) s followed = if is_files f.text l then within s.place (expand_listing l s followed) else met opaque followed
    expand_by (identifier at_ x) s followed = if one_of followed x then met opaque followed else follow x followed
    expand_by (row at_ e os) s followed =
        if are_plus os && is_list e then then_expand (expand_by e (operand_at s 0) followed) (λ now. expand_operands os 1 s now) else met opaque followed
    expand_by _ s followed = met opaque followed

    -- from the n-th on
    pub expand_operands : Operands S → ℕ → Stand → List (List ℕ) → Expansion S
    expand_operands no_operands n s followed = nothing_met followed
    expand_operands (operand o e more) n s followed = then_expand (expand_by e (operand_at s n) followed) (λ now. expand_operands more (n + 1) s now)

    pub expand_listing : Listing S → Stand → List (List ℕ) → Expansion S
    expand_listing (listing at_ trailing list) s followed = expand_each list 0 s followed

    -- from the n-th on
    pub expand_each : Arguments S → ℕ → Stand → List (List ℕ) → Expansion S
    expand_each no_arguments n s followed = nothing_met followed
    expand_each (argument a more) n s followed = then_expand (expand_argument a (element s n) followed) (λ now. expand_each more (n + 1) s now)

    pub expand_argument : Argument S → Stand → List (List ℕ) → Expansion S
    expand_argument (plain e) s followed = expand_by e s followed
    expand_argument (named at_ x e) s followed = met opaque followed
    expand_argument (pair at_ e f) s followed = met opaque followed

-- the value of a variable, which is in no list itself
abbrev pub of_variable : List ℕ → CallRef → Stand
of_variable x p = record { place = p; slot = fixed; variable = Some x }

abbrev pub follow_single : {S : Type 0} → (Expression S → Stand → List (List ℕ) → Expansion S) → List ℕ → List (List ℕ) → Option (Placed (Expression S))
    → Expansion S
follow_single inner x followed None = met opaque followed
follow_single inner x followed (Some v) = inner v.it (of_variable x v.place) (x ∷ followed)

-- this number of variables may be followed inside one another
abbrev pub expand : {S : Type 0} → Project S → ℕ → Expression S → Stand → List (List ℕ) → Expansion S
expand p zero = expand_by (is_list_operand p) (λ x followed. met opaque followed)
expand p (suc left) = expand_by (is_list_operand p) (λ x followed. follow_single (expand p left) x followed (single p x))
