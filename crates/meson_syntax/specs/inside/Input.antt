-- What a parser reads from, and the steps that its rules are made of. A plain, slow parser: no public contract names it.
use Rattle.std.specs.Prelude.{◌≡◌, ◌≢◌, ℕ, Bool, true, false, if◌then◌else◌, List, [], ◌∷◌, length, Option, Some, None, Result, Ok, Err}
use denote.Enum.Bare.{sameb}
use Rattle.meson_lex.specs.declared.kinds.Kind.{Kind}
use Rattle.meson_lex.specs.contracts.kinds.Kind.{the_type}
use Rattle.meson_lex.specs.declared.kinds.Span.{Span}
use Rattle.meson_lex.specs.Located.{Token}
use Rattle.meson_syntax.specs.Tree.{Name}
use Rattle.meson_syntax.specs.declared.fault.ParseFault.{ParseFault}
use Rattle.meson_syntax.specs.declared.fault.ParseFault.TheVariants.{OutOfMemory}

unfoldable pub same_kind : Kind → Kind → Bool
same_kind = sameb the_type

-- where the last token ended, and those that are left
pub record Input : Type 0 where
  pub last : ℕ
  pub rest : List Token

abbrev pub kind_of : List Token → Option Kind
kind_of [] = None
kind_of (t ∷ ts) = Some t.kind

abbrev pub text_of : List Token → List ℕ
text_of [] = []
text_of (t ∷ ts) = t.text

abbrev pub from_of : ℕ → List Token → ℕ
from_of last [] = last
from_of last (t ∷ ts) = t.from

abbrev pub next_of : ℕ → List Token → Input
next_of last [] = record { last = last; rest = [] }
next_of last (t ∷ ts) = record { last = t.to; rest = ts }

abbrev pub begins_with : Kind → List Token → Bool
begins_with κ [] = false
begins_with κ (t ∷ ts) = same_kind t.kind κ

abbrev pub begins_with_two : Kind → Kind → List Token → Bool
begins_with_two κ ι [] = false
begins_with_two κ ι (t ∷ ts) = if same_kind t.kind κ then begins_with ι ts else false

-- the kind of the next token
unfoldable pub kind : Input → Option Kind
kind i = kind_of i.rest

-- its text, and where it begins
unfoldable pub text_ahead : Input → List ℕ
text_ahead i = text_of i.rest

unfoldable pub from : Input → ℕ
from i = from_of i.last i.rest

-- after it
unfoldable pub next : Input → Input
next i = next_of i.last i.rest

-- how many tokens are left
unfoldable pub left : Input → ℕ
left i = length i.rest

-- whether a token of this kind comes next; or two, of these kinds
unfoldable pub sees : Kind → Input → Bool
sees κ i = begins_with κ i.rest

unfoldable pub sees_two : Kind → Kind → Input → Bool
sees_two κ ι i = begins_with_two κ ι i.rest

-- ---- parsers

abbrev pub Outcome : Type 0 → Type 0
Outcome A = Option (A × Input)

abbrev pub Parser : Type 0 → Type 0
Parser A = Input → Outcome A

abbrev pub and_then : {A B : Type 0} → Outcome A → (A → Parser B) → Outcome B
and_then (Some p) f = f p.0 p.1
and_then None f = None

infixl 10 ◌>>=◌
abbrev pub ◌>>=◌ : {A B : Type 0} → Parser A → (A → Parser B) → Parser B
p >>= f = λ i. and_then (p i) f

infixl 10 ◌>>◌
abbrev pub ◌>>◌ : {A B : Type 0} → Parser A → Parser B → Parser B
p >> q = p >>= (λ _. q)

abbrev pub pure : {A : Type 0} → A → Parser A
pure a = λ i. Some (a, i)

abbrev pub refuse : {A : Type 0} → Parser A
refuse = λ i. None

abbrev pub peek : Parser (Option Kind)
peek = λ i. Some (kind i, i)

abbrev pub saw : Kind → Parser Bool
saw κ = λ i. Some (sees κ i, i)

abbrev pub saw_two : Kind → Kind → Parser Bool
saw_two κ ι = λ i. Some (sees_two κ ι i, i)

abbrev pub take_token : Parser (List ℕ)
take_token = λ i. Some (text_ahead i, next i)

-- from a place to the end of the last token
unfoldable pub span_from : ℕ → Input → Span
span_from start i = record { from = start; to = i.last }

-- the name that the next token is, with its place
unfoldable pub name_next : Input → Name Span
name_next i = record { place = span_from (from i) (next i); text = text_ahead i }

abbrev pub take_name : Parser (Name Span)
take_name = λ i. Some (name_next i, next i)

abbrev pub here : Parser ℕ
here = λ i. Some (from i, i)

abbrev pub since : ℕ → Parser Span
since start = λ i. Some (span_from start i, i)

unfoldable pub after_kind : Kind → Input → Input
after_kind κ i = if sees κ i then next i else i

-- takes a token of this kind, if it comes next
abbrev pub eat : Kind → Parser Bool
eat κ = λ i. Some (sees κ i, after_kind κ i)

-- whether no token is left
abbrev pub is_over : List Token → Bool
is_over [] = true
is_over (t ∷ ts) = false

unfoldable pub expect : Kind → Parser (Unit {0})
expect κ = λ i. if sees κ i then Some (tt, next i) else None

-- ---- what a function that parses ensures: the parser's outcome, unless memory fails

abbrev pub Gives : {X Y : Type 0} → (X → Y) → Outcome Y → Result X ParseFault → Input → Type 0
Gives view read (Ok x) new = read ≡ Some (view x, new)
Gives view read (Err e) new = e ≢ OutOfMemory → read ≡ None

abbrev pub GivesAll : {X Y : Type 0} → (X → Y) → Option Y → Result X ParseFault → Type 0
GivesAll view read (Ok x) = read ≡ Some (view x)
GivesAll view read (Err e) = e ≢ OutOfMemory → read ≡ None
