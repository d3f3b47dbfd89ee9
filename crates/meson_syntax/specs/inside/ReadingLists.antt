-- Reading a text that is one list, like `Reading`. No public contract names it.
use Rattle.std.specs.Prelude.{ℕ, Bool, if◌then◌else◌, ◌==◌, ◌&&◌, List, Option, Some, None}
use Rattle.meson_lex.specs.declared.kinds.Span.{Span}
use Rattle.meson_lex.specs.Located.{Token}
use Rattle.meson_syntax.specs.declared.operator.Bracket.{Bracket}
use Rattle.meson_syntax.specs.Operators.{opens}
use Rattle.meson_syntax.specs.Tree.{Listing}
use Rattle.meson_syntax.specs.inside.Input.{Outcome, Parser, ◌>>=◌, refuse, saw}
use Rattle.meson_syntax.specs.Paths.{list_span}
use Rattle.meson_syntax.specs.inside.Reading.{room, expression, listed}

-- a list in these brackets, if at most depth constructs are inside one another
unfoldable pub bracketed : ℕ → Bracket → Parser (Listing Span)
bracketed depth b = do
  begins ← saw (opens b)
  if begins then listed (room depth) (expression depth) b else refuse

abbrev pub covers_all : ℕ → Span → Bool
covers_all len s = (s.from == 0) && (s.to == len)

abbrev pub list_read : ℕ → Outcome (Listing Span) → Option (Listing Span)
list_read len None = None
list_read len (Some p) = if covers_all len (list_span p.0) then Some p.0 else None

-- the list that is all of a text of this number of bytes with these tokens
unfoldable pub whole_list : ℕ → Bracket → ℕ → List Token → Option (Listing Span)
whole_list depth b len ts = list_read len (bracketed depth b (record { last = 0; rest = ts }))
