-- Reading an expression, rule by rule: a plain, slow parser on lists of tokens. No public contract names it.
use Rattle.std.specs.Prelude.{ℕ, zero, suc, Bool, true, false, if◌then◌else◌, ◌==◌, List, [], ◌∷◌, ◌++◌, Option, Some, None}
use Rattle.meson_lex.specs.declared.kinds.Kind.{Kind}
use Rattle.meson_lex.specs.declared.kinds.Kind.TheVariants as k
use Rattle.meson_lex.specs.declared.kinds.Span.{Span}
use Rattle.meson_syntax.specs.declared.operator.Operator.{Operator}
use Rattle.meson_syntax.specs.declared.operator.Operator.TheVariants as op
use Rattle.meson_syntax.specs.declared.operator.UnaryOperator.{UnaryOperator}
use Rattle.meson_syntax.specs.declared.operator.UnaryOperator.TheVariants as unary_op
use Rattle.meson_syntax.specs.declared.operator.StringKind.{StringKind}
use Rattle.meson_syntax.specs.declared.operator.StringKind.TheVariants as quotes
use Rattle.meson_syntax.specs.declared.operator.Bracket.{Bracket}
use Rattle.meson_syntax.specs.declared.operator.Bracket.TheVariants as bracket
use Rattle.meson_syntax.specs.Operators.{closes}
use Rattle.meson_syntax.specs.Tree.{Expression, identifier, boolean, integer, string, paren, array, dictionary, call, unary, row, postfix, conditional, operands_of, Tail, method, index, tails_of, Listing, listing, Argument, plain, named, pair, is_named, arguments_of}
use Rattle.meson_syntax.specs.inside.Input.{Parser, ◌>>=◌, ◌>>◌, pure, refuse, peek, saw, saw_two, take_token, take_name, here, since, eat, expect, left}

-- whether a construct may be one level deeper
abbrev pub room : ℕ → Bool
room zero = false
room (suc depth) = true

-- the level of the rows that continue with a token of this kind; 0 if no row does
abbrev pub row_of : Option Kind → ℕ
row_of (Some k.Star) = 1
row_of (Some k.Slash) = 1
row_of (Some k.Percent) = 1
row_of (Some k.Plus) = 2
row_of (Some k.Minus) = 2
row_of (Some k.Less) = 3
row_of (Some k.LessEqual) = 3
row_of (Some k.Greater) = 3
row_of (Some k.GreaterEqual) = 3
row_of (Some k.WordIn) = 3
row_of (Some k.WordNot) = 3
row_of (Some k.Equal) = 4
row_of (Some k.NotEqual) = 4
row_of (Some k.WordAnd) = 5
row_of (Some k.WordOr) = 6
row_of _ = 0

-- an operator of one token, which comes next
abbrev pub one_token : Operator → Parser Operator
one_token o = (do take_token; pure o)

abbrev pub operator_by : Option Kind → Parser Operator
operator_by (Some k.Star) = one_token op.Times
operator_by (Some k.Slash) = one_token op.Divide
operator_by (Some k.Percent) = one_token op.Remainder
operator_by (Some k.Plus) = one_token op.Plus
operator_by (Some k.Minus) = one_token op.Minus
operator_by (Some k.Less) = one_token op.Less
operator_by (Some k.LessEqual) = one_token op.LessEqual
operator_by (Some k.Greater) = one_token op.Greater
operator_by (Some k.GreaterEqual) = one_token op.GreaterEqual
operator_by (Some k.WordIn) = one_token op.In
operator_by (Some k.WordNot) = (do take_token; expect k.WordIn; pure op.NotIn)
operator_by (Some k.Equal) = one_token op.Equal
operator_by (Some k.NotEqual) = one_token op.NotEqual
operator_by (Some k.WordAnd) = one_token op.And
operator_by (Some k.WordOr) = one_token op.Or
operator_by _ = refuse

-- the operator that comes next
unfoldable pub operator : Parser Operator
operator = peek >>= operator_by

-- the operator before an operand that a token of this kind is
abbrev pub unary_of : Option Kind → Option UnaryOperator
unary_of (Some k.WordNot) = Some unary_op.Not
unary_of (Some k.Minus) = Some unary_op.Minus
unary_of _ = None

unfoldable pub with_tails : Span → Expression Span → List (Tail Span) → Expression Span
with_tails at e [] = e
with_tails at e (t ∷ ts) = postfix at e (tails_of (t ∷ ts))

unfoldable pub with_operands : Span → Expression Span → List (Operator × Expression Span) → Expression Span
with_operands at e [] = e
with_operands at e (o ∷ os) = row at e (operands_of (o ∷ os))

-- Inner parses one level deeper, if there is room.
module _ (room : Bool) (inner : Parser (Expression Span)) where
  -- ---- lists

  -- an argument with a name, which comes next with its colon
  unfoldable pub named_argument : Parser (Argument Span)
  named_argument = do
    start ← here
    name ← take_name
    take_token
    value ← inner
    at ← since start
    pure (named at name value)

  -- an element without a name, if none with a name came before
  unfoldable pub without_name : Bool → Parser (Argument Span)
  without_name seen = if seen then refuse else (do value ← inner; pure (plain value))

  -- a key and its value
  unfoldable pub paired : Parser (Argument Span)
  paired = do
    start ← here
    key ← inner
    expect k.Colon
    value ← inner
    at ← since start
    pure (pair at key value)

  -- an element of a list in these brackets
  unfoldable pub listed_element : Bracket → Bool → Parser (Argument Span)
  listed_element bracket.Round seen = (do
    has_name ← saw_two k.Identifier k.Colon
    if has_name then named_argument else without_name seen)
  listed_element bracket.Square seen = without_name seen
  listed_element bracket.Curly seen = paired

  -- the elements up to the closing bracket, with whether a comma is before it. The number bounds the turns.
  unfoldable pub elements_from : Bracket → ℕ → Bool → List (Argument Span) → Parser (Bool × List (Argument Span))
  elements_from b zero seen found = refuse
  elements_from b (suc n) seen found = do
    x ← listed_element b seen
    more ← eat k.Comma
    if more then (do
      done ← eat (closes b)
      if done then pure (true, found ++ x ∷ []) else elements_from b n (is_named x) (found ++ x ∷ []))
        else (do expect (closes b); pure (false, found ++ x ∷ []))

  unfoldable pub listed_elements : Bracket → Parser (Bool × List (Argument Span))
  listed_elements b = λ i. elements_from b (left i) false [] i

  -- from the opening bracket, which comes next
  unfoldable pub listed : Bracket → Parser (Listing Span)
  listed b = do
    start ← here
    if room then (do
      take_token
      empty ← eat (closes b)
      if empty then (do at ← since start; pure (listing at false (arguments_of []))) else (do
        found ← listed_elements b
        at ← since start
        pure (listing at found.0 (arguments_of found.1)))) else refuse

  -- ---- one thing

  -- from an identifier, which comes next
  unfoldable pub identified : Parser (Expression Span)
  identified = do
    start ← here
    x ← take_name
    called ← saw k.OpenRound
    if called then (do
      l ← listed bracket.Round
      at ← since start
      pure (call at x l)) else (do at ← since start; pure (identifier at x.text))

  -- `true` or `false`, which comes next
  unfoldable pub truth : Bool → Parser (Expression Span)
  truth b = do
    start ← here
    take_token
    at ← since start
    pure (boolean at b)

  -- a number, which comes next
  unfoldable pub number : Parser (Expression Span)
  number = do
    start ← here
    x ← take_token
    at ← since start
    pure (integer at x)

  -- a string, which comes next
  unfoldable pub quoted : StringKind → Parser (Expression Span)
  quoted q = do
    start ← here
    x ← take_token
    at ← since start
    pure (string at q x)

  -- from an opening bracket, which comes next
  unfoldable pub parenthesized : Parser (Expression Span)
  parenthesized = do
    start ← here
    if room then (do
      take_token
      e ← inner
      expect k.CloseRound
      at ← since start
      pure (paren at e)) else refuse

  abbrev pub primary_by : Option Kind → Parser (Expression Span)
  primary_by (Some k.Identifier) = identified
  primary_by (Some k.WordTrue) = truth true
  primary_by (Some k.WordFalse) = truth false
  primary_by (Some k.Integer) = number
  primary_by (Some k.PlainString) = quoted quotes.Plain
  primary_by (Some k.MultilineString) = quoted quotes.Multiline
  primary_by (Some k.FormatString) = quoted quotes.Format
  primary_by (Some k.FormatMultilineString) = quoted quotes.FormatMultiline
  primary_by (Some k.OpenRound) = parenthesized
  primary_by (Some k.OpenSquare) = (do l ← listed bracket.Square; pure (array l))
  primary_by (Some k.OpenCurly) = (do l ← listed bracket.Curly; pure (dictionary l))
  primary_by _ = refuse

  unfoldable pub primary : Parser (Expression Span)
  primary = peek >>= primary_by

  -- ---- method calls and indexes

  -- from a dot, which comes next
  unfoldable pub method_call : Parser (Tail Span)
  method_call = do
    start ← here
    take_token
    has_name ← saw_two k.Identifier k.OpenRound
    if has_name then (do
      x ← take_name
      l ← listed bracket.Round
      at ← since start
      pure (method at x l)) else refuse

  -- from an opening bracket, which comes next
  unfoldable pub indexed : Parser (Tail Span)
  indexed = do
    start ← here
    if room then (do
      take_token
      e ← inner
      expect k.CloseSquare
      at ← since start
      pure (index at e)) else refuse

  unfoldable pub tails_from : ℕ → List (Tail Span) → Parser (List (Tail Span))
  tails_from zero found = pure found
  tails_from (suc n) found = do
    dotted ← saw k.Dot
    if dotted then (do t ← method_call; tails_from n (found ++ t ∷ [])) else (do
      bracketed ← saw k.OpenSquare
      if bracketed then (do t ← indexed; tails_from n (found ++ t ∷ [])) else pure found)

  unfoldable pub tails : Parser (List (Tail Span))
  tails = λ i. tails_from (left i) [] i

  unfoldable pub postfixed : Parser (Expression Span)
  postfixed = do
    start ← here
    e ← primary
    ts ← tails
    at ← since start
    pure (with_tails at e ts)

  -- ---- operators

  abbrev pub unary_by : Option UnaryOperator → Parser (Expression Span)
  unary_by None = postfixed
  unary_by (Some o) = (do
    start ← here
    take_token
    e ← postfixed
    at ← since start
    pure (unary at o e))

  unfoldable pub unaried : Parser (Expression Span)
  unaried = do
    kind ← peek
    unary_by (unary_of kind)

  -- operands of a row of this level, each with the operator before it; tighter reads one. The number bounds the turns.
  unfoldable pub operands_from : ℕ → Parser (Expression Span) → ℕ → List (Operator × Expression Span) → Parser (List (Operator × Expression Span))
  operands_from n tighter zero found = pure found
  operands_from n tighter (suc turns) found = do
    kind ← peek
    if row_of kind == n then (do
      o ← operator
      e ← tighter
      operands_from n tighter turns (found ++ (o, e) ∷ [])) else pure found

  -- a row of this level or a tighter expression
  unfoldable pub row_at : ℕ → Parser (Expression Span)
  row_at zero = unaried
  row_at (suc n) = do
    start ← here
    e ← row_at n
    os ← (λ i. operands_from (suc n) (row_at n) (left i) [] i)
    at ← since start
    pure (with_operands at e os)

  -- ---- conditionals

  -- from the question mark after the condition, which began at start
  unfoldable pub answered : ℕ → Expression Span → Parser (Expression Span)
  answered start condition = if room then (do
    take_token
    so ← inner
    expect k.Colon
    else_so ← inner
    at ← since start
    pure (conditional at condition so else_so)) else refuse

  unfoldable pub choice : Parser (Expression Span)
  choice = do
    start ← here
    e ← row_at 6
    asked ← saw k.Question
    if asked then answered start e else pure e

-- an expression in which fewer than this number of constructs are inside one another
unfoldable pub expression : ℕ → Parser (Expression Span)
expression zero = refuse
expression (suc depth) = choice (room depth) (expression depth)
