-- What is alone: an expression of one token, and one without method calls and indexes. No public contract names this.
use Rattle.std.specs.Prelude.{ℕ, Bool, true, false, if◌then◌else◌, List, [], ◌∷◌}
use Rattle.meson_lex.specs.declared.kinds.Kind.{Kind}
use Rattle.meson_lex.specs.declared.kinds.Kind.TheVariants as k
use Rattle.meson_lex.specs.declared.kinds.Span.{Span}
use Rattle.meson_lex.specs.Located.{Token}
use Rattle.meson_syntax.specs.inside.Input.{Input, Parser, ◌>>=◌, pure, since}
use Rattle.meson_syntax.specs.inside.Reading.{tails, with_tails}
use Rattle.meson_syntax.specs.Tree.{Expression}

-- a token of this kind is an expression, if no bracket follows
abbrev pub is_single : Kind → Bool
is_single k.Identifier = true
is_single k.WordTrue = true
is_single k.WordFalse = true
is_single k.Integer = true
is_single k.PlainString = true
is_single _ = false

-- no expression continues with a token of this kind
abbrev pub ends_expression : Kind → Bool
ends_expression k.LineEnd = true
ends_expression k.CloseRound = true
ends_expression k.CloseSquare = true
ends_expression k.CloseCurly = true
ends_expression k.Comma = true
ends_expression k.Colon = true
ends_expression _ = false

abbrev pub begins_end : List Token → Bool
begins_end [] = false
begins_end (t ∷ ts) = ends_expression t.kind

abbrev pub begins_alone : List Token → Bool
begins_alone [] = false
begins_alone (t ∷ ts) = if is_single t.kind then begins_end ts else false

-- whether the next token is an expression by itself, and the token after it cannot continue an expression
unfoldable pub is_alone : Input → Bool
is_alone i = begins_alone i.rest

-- Inner parses one level deeper, if there is room.
module _ (room : Bool) (inner : Parser (Expression Span)) where
  -- an expression that was read and began at start, with the method calls and indexes that come next
  unfoldable pub tailed : ℕ → Expression Span → Parser (Expression Span)
  tailed start e = do
    ts ← tails room inner
    at ← since start
    pure (with_tails at e ts)
