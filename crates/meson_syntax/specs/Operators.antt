-- Operators, brackets and kinds of strings: the tokens that write them, and how tightly they bind.
-- Meson manual, Syntax: the grammar's rules for logical, relational, additive and multiplicative expressions, and for strings.
use Rattle.std.specs.Prelude.{ℕ, Bool, true, false, List, [], ◌∷◌}
use Rattle.meson_lex.specs.declared.kinds.Kind.{Kind}
use Rattle.meson_lex.specs.declared.kinds.Kind.TheVariants as k
use Rattle.meson_syntax.specs.declared.operator.Operator.{Operator}
use Rattle.meson_syntax.specs.declared.operator.Operator.TheVariants as op
use Rattle.meson_syntax.specs.declared.operator.UnaryOperator.{UnaryOperator}
use Rattle.meson_syntax.specs.declared.operator.UnaryOperator.TheVariants as unary
use Rattle.meson_syntax.specs.declared.operator.StringKind.{StringKind}
use Rattle.meson_syntax.specs.declared.operator.StringKind.TheVariants as quotes
use Rattle.meson_syntax.specs.declared.operator.Assignment.{Assignment}
use Rattle.meson_syntax.specs.declared.operator.Assignment.TheVariants as assigns
use Rattle.meson_syntax.specs.declared.operator.Bracket.{Bracket}
use Rattle.meson_syntax.specs.declared.operator.Bracket.TheVariants as bracket

-- ---- the kinds of their tokens

-- of an operator's first token
abbrev pub operator_kind : Operator → Kind
operator_kind op.Or = k.WordOr
operator_kind op.And = k.WordAnd
operator_kind op.Equal = k.Equal
operator_kind op.NotEqual = k.NotEqual
operator_kind op.Less = k.Less
operator_kind op.LessEqual = k.LessEqual
operator_kind op.Greater = k.Greater
operator_kind op.GreaterEqual = k.GreaterEqual
operator_kind op.In = k.WordIn
operator_kind op.NotIn = k.WordNot
operator_kind op.Plus = k.Plus
operator_kind op.Minus = k.Minus
operator_kind op.Times = k.Star
operator_kind op.Divide = k.Slash
operator_kind op.Remainder = k.Percent

-- of those after its first
abbrev pub operator_rest : Operator → List Kind
operator_rest op.NotIn = k.WordIn ∷ []
operator_rest _ = []

abbrev pub unary_kind : UnaryOperator → Kind
unary_kind unary.Not = k.WordNot
unary_kind unary.Minus = k.Minus

abbrev pub string_kind : StringKind → Kind
string_kind quotes.Plain = k.PlainString
string_kind quotes.Multiline = k.MultilineString
string_kind quotes.Format = k.FormatString
string_kind quotes.FormatMultiline = k.FormatMultilineString

abbrev pub boolean_kind : Bool → Kind
boolean_kind true = k.WordTrue
boolean_kind false = k.WordFalse

abbrev pub assignment_kind : Assignment → Kind
assignment_kind assigns.Set = k.Assign
assignment_kind assigns.Add = k.PlusAssign

abbrev pub opens : Bracket → Kind
opens bracket.Round = k.OpenRound
opens bracket.Square = k.OpenSquare
opens bracket.Curly = k.OpenCurly

abbrev pub closes : Bracket → Kind
closes bracket.Round = k.CloseRound
closes bracket.Square = k.CloseSquare
closes bracket.Curly = k.CloseCurly

-- ---- what is in a list

-- expressions by themselves, as arguments or elements
abbrev pub holds_values : Bracket → Bool
holds_values bracket.Round = true
holds_values bracket.Square = true
holds_values bracket.Curly = false

-- arguments with a name
abbrev pub holds_names : Bracket → Bool
holds_names bracket.Round = true
holds_names bracket.Square = false
holds_names bracket.Curly = false

-- keys and values
abbrev pub holds_pairs : Bracket → Bool
holds_pairs bracket.Round = false
holds_pairs bracket.Square = false
holds_pairs bracket.Curly = true

-- ---- the six kinds of rows, the tightest first: products, sums, relations, equalities, `and`, `or`

abbrev pub level : Operator → ℕ
level op.Times = 1
level op.Divide = 1
level op.Remainder = 1
level op.Plus = 2
level op.Minus = 2
level op.Less = 3
level op.LessEqual = 3
level op.Greater = 3
level op.GreaterEqual = 3
level op.In = 3
level op.NotIn = 3
level op.Equal = 4
level op.NotEqual = 4
level op.And = 5
level op.Or = 6
