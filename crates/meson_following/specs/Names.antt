-- Which variable a call of `set_variable`, `unset_variable` or `get_variable` is about. Meson manual, Reference manual: the name is its first argument. If that
-- is no literal, the name is computed, and often it is known how it begins and ends.
use Rattle.std.specs.Prelude.{ℕ, ◌==◌, nat_eq, Bool, true, false, ◌&&◌, List, [], ◌∷◌, ◌++◌, take, position, bytes_eq, codes, if◌then◌else◌, Option, Some, None}
use Rattle.std.specs.List.{ends_with, starts_with}
use Rattle.meson_syntax.specs.Tree.{Expression, row, postfix, Operands, no_operands, operand, Tail, method, index, Tails, no_tails, tail}
use Rattle.meson_calls.specs.Calls.{Call, first_argument, literal_of}
use Rattle.meson_variables.specs.Expansion.{are_plus}
use Rattle.meson_following.specs.declared.names.Fit.{Fit}
use Rattle.meson_following.specs.declared.names.Fit.TheVariants.{Not, Perhaps, Surely}

pub data Naming : Type 0 where
  exactly : List ℕ → Naming
  -- a text that begins with the first and ends with the second
  between : List ℕ → List ℕ → Naming

-- ---- how a computed text begins and ends

abbrev pub text_or_empty : Option (List ℕ) → List ℕ
text_or_empty None = []
text_or_empty (Some text) = text

abbrev pub is_at_sign : ℕ → Bool
is_at_sign c = c == 64

-- A placeholder of `format` begins and ends with `@`. So what is before the first one stays, and what is after the last one.
abbrev pub up_to : List ℕ → Option ℕ → List ℕ
up_to text None = text
up_to text (Some n) = take n text

abbrev pub before_placeholders : List ℕ → List ℕ
before_placeholders text = up_to text (position is_at_sign text)

-- with what was read since the last `@`
abbrev pub after_placeholders : List ℕ → List ℕ → List ℕ
after_placeholders read [] = read
after_placeholders read (c ∷ cs) = if is_at_sign c then after_placeholders [] cs else after_placeholders (read ++ c ∷ []) cs

abbrev pub is_format : {S : Type 0} → Tail S → Bool
is_format (method s f l) = bytes_eq f.text (codes "format")
is_format (index s e) = false

-- one method call, of `format`
abbrev pub are_format : {S : Type 0} → Tails S → Bool
are_format no_tails = false
are_format (tail t no_tails) = is_format t
are_format (tail t (tail u more)) = false

-- the text whose one method call is `format`
abbrev pub formatted : {S : Type 0} → Expression S → Tails S → Option (List ℕ)
formatted e ts = if are_format ts then literal_of e else None

abbrev pub last_of : {S : Type 0} → Expression S → Operands S → Expression S
last_of e no_operands = e
last_of e (operand o f more) = last_of f more

-- of a sum, the literals that are its first and its last operand
abbrev pub sum_naming : {S : Type 0} → Expression S → Operands S → Naming
sum_naming e os = between (text_or_empty (literal_of e)) (text_or_empty (literal_of (last_of e os)))

abbrev pub format_naming : Option (List ℕ) → Naming
format_naming None = between [] []
format_naming (Some text) = between (before_placeholders text) (after_placeholders [] text)

abbrev pub computed : {S : Type 0} → Expression S → Naming
computed (row s e os) = if are_plus os then sum_naming e os else between [] []
computed (postfix s e ts) = format_naming (formatted e ts)
computed _ = between [] []

-- ---- the name of a call

abbrev pub naming_of : {S : Type 0} → Expression S → Option (List ℕ) → Naming
naming_of e None = computed e
naming_of e (Some text) = exactly text

abbrev pub naming_by : {S : Type 0} → Option (Expression S) → Naming
naming_by None = between [] []
naming_by (Some e) = naming_of e (literal_of e)

abbrev pub named_by : {S : Type 0} → Call S → Naming
named_by c = naming_by (first_argument c)

-- ---- whether a variable is the one that is named

abbrev pub fit : List ℕ → Naming → Fit
fit x (exactly text) = if bytes_eq x text then Surely else Not
fit x (between front back) = if starts_with nat_eq x front && ends_with nat_eq x back then Perhaps else Not

abbrev pub may_be : Fit → Bool
may_be Not = false
may_be Perhaps = true
may_be Surely = true

abbrev pub fits : List ℕ → Naming → Bool
fits x naming = may_be (fit x naming)
