-- Reading statements, blocks and files, rule by rule, like `Reading`. No public contract names it.
use Rattle.std.specs.Prelude.{ℕ, zero, suc, Bool, true, false, if◌then◌else◌, List, [], ◌∷◌, ◌++◌, Option, Some, None}
use Rattle.meson_lex.specs.declared.kinds.Kind.{Kind}
use Rattle.meson_lex.specs.declared.kinds.Kind.TheVariants as k
use Rattle.meson_lex.specs.declared.kinds.Span.{Span}
use Rattle.meson_lex.specs.Located.{Token}
use Rattle.meson_syntax.specs.declared.operator.Assignment.{Assignment}
use Rattle.meson_syntax.specs.declared.operator.Assignment.TheVariants as assigns
use Rattle.meson_syntax.specs.Tree.{Name, Expression, Statement, evaluate, assign, selection, iteration, breaks, continues, branches_of, Otherwise, nothing_else, otherwise, Block, block, File, file, statements_of}
use Rattle.meson_syntax.specs.inside.Input.{Input, Outcome, Parser, ◌>>=◌, ◌>>◌, pure, refuse, peek, saw, saw_two, take_token, take_name, here, since, eat, expect, left}
use Rattle.meson_syntax.specs.inside.Reading.{room, expression}

-- whether a block ends before a token of this kind, or at the end
abbrev pub ends_block : Option Kind → Bool
ends_block None = true
ends_block (Some k.WordElif) = true
ends_block (Some k.WordElse) = true
ends_block (Some k.WordEndif) = true
ends_block (Some k.WordEndforeach) = true
ends_block _ = false

-- from the first statement to the last, or empty
abbrev pub block_span : ℕ → List (Statement Span) → Input → Span
block_span start [] i = record { from = i.last; to = i.last }
block_span start (s ∷ ss) i = record { from = start; to = i.last }

-- an identifier
unfoldable pub name : Parser (Name Span)
name = do
  is_name ← saw k.Identifier
  if is_name then take_name else refuse

-- names after commas. The number bounds the turns.
unfoldable pub names_from : ℕ → List (Name Span) → Parser (List (Name Span))
names_from zero found = pure found
names_from (suc n) found = do
  more ← eat k.Comma
  if more then (do x ← name; names_from n (found ++ x ∷ [])) else pure found

unfoldable pub names : Parser (List (Name Span))
names = do
  x ← name
  λ i. names_from (left i) (x ∷ []) i

-- Expr reads an expression that begins here; inner and body read an expression and a block one level deeper, if there is room.
module _ (room : Bool) (expr inner : Parser (Expression Span)) (body : Parser (Block Span)) where
  -- from a name and the sign after it, which come next
  unfoldable pub assigned : Assignment → Parser (Statement Span)
  assigned a = do
    start ← here
    x ← take_name
    take_token
    value ← expr
    at ← since start
    pure (assign at x a value)

  unfoldable pub evaluated : Parser (Statement Span)
  evaluated = do
    e ← expr
    pure (evaluate e)

  -- an assignment, or an expression by itself
  unfoldable pub simple : Parser (Statement Span)
  simple = do
    sets ← saw_two k.Identifier k.Assign
    if sets then assigned assigns.Set else (do
      adds ← saw_two k.Identifier k.PlusAssign
      if adds then assigned assigns.Add else evaluated)

  -- a block after a line end
  unfoldable pub bodied : Parser (Block Span)
  bodied = do
    expect k.LineEnd
    body

  -- a condition and its block, from `if` or `elif`, which comes next
  unfoldable pub branched : Parser (Expression Span × Block Span)
  branched = do
    take_token
    e ← inner
    b ← bodied
    pure (e, b)

  -- The number bounds the turns.
  unfoldable pub branches_from : ℕ → List (Expression Span × Block Span) → Parser (List (Expression Span × Block Span))
  branches_from zero found = pure found
  branches_from (suc n) found = do
    more ← saw k.WordElif
    if more then (do b ← branched; branches_from n (found ++ b ∷ [])) else pure found

  unfoldable pub branches : Parser (List (Expression Span × Block Span))
  branches = do
    b ← branched
    λ i. branches_from (left i) (b ∷ []) i

  unfoldable pub otherwised : Parser (Otherwise Span)
  otherwised = do
    has_else ← eat k.WordElse
    if has_else then (do b ← bodied; pure (otherwise b)) else pure nothing_else

  -- from `if`, which comes next
  unfoldable pub selected : Parser (Statement Span)
  selected = do
    start ← here
    if room then (do
      bs ← branches
      o ← otherwised
      expect k.WordEndif
      at ← since start
      pure (selection at (branches_of bs) o)) else refuse

  -- from `foreach`, which comes next
  unfoldable pub iterated : Parser (Statement Span)
  iterated = do
    start ← here
    if room then (do
      take_token
      xs ← names
      expect k.Colon
      e ← inner
      b ← bodied
      expect k.WordEndforeach
      at ← since start
      pure (iteration at xs e b)) else refuse

  -- from `break` or `continue`, which comes next
  unfoldable pub broken : Parser (Statement Span)
  broken = do
    start ← here
    take_token
    at ← since start
    pure (breaks at)

  unfoldable pub continued : Parser (Statement Span)
  continued = do
    start ← here
    take_token
    at ← since start
    pure (continues at)

  abbrev pub stmt_by : Option Kind → Parser (Statement Span)
  stmt_by (Some k.WordIf) = selected
  stmt_by (Some k.WordForeach) = iterated
  stmt_by (Some k.WordBreak) = broken
  stmt_by (Some k.WordContinue) = continued
  stmt_by _ = simple

  unfoldable pub stmt : Parser (Statement Span)
  stmt = peek >>= stmt_by

  -- a statement and its line end
  unfoldable pub statement_line : Parser (Statement Span)
  statement_line = do
    s ← stmt
    expect k.LineEnd
    pure s

  -- the statements up to the end of their block. The number bounds the turns.
  unfoldable pub lines_from : ℕ → List (Statement Span) → Parser (List (Statement Span))
  lines_from zero found = pure found
  lines_from (suc n) found = do
    kind ← peek
    if ends_block kind then pure found else (do s ← statement_line; lines_from n (found ++ s ∷ []))

  unfoldable pub statement_lines : Parser (List (Statement Span))
  statement_lines = λ i. lines_from (left i) [] i

  -- the statements, from the first to the last
  unfoldable pub blocked : Parser (Block Span)
  blocked = do
    start ← here
    found ← statement_lines
    λ i. Some (block (block_span start found i) (statements_of found), i)

-- a block in which fewer than this number of constructs are inside one another
unfoldable pub block_within : ℕ → Parser (Block Span)
block_within zero = refuse
block_within (suc depth) = blocked (room depth) (expression (suc depth)) (expression depth) (block_within depth)

-- ---- files

abbrev pub if_over : {A : Type 0} → A → List Token → Option A
if_over x [] = Some x
if_over x (t ∷ ts) = None

abbrev pub file_of_block : ℕ → Outcome (Block Span) → Option (File Span)
file_of_block len None = None
file_of_block len (Some p) = if_over (file (record { from = 0; to = len }) p.0) p.1.rest

-- the file of this number of bytes with these tokens, if at most depth constructs are inside one another
unfoldable pub whole : ℕ → ℕ → List Token → Option (File Span)
whole depth len ts = file_of_block len (block_within (suc depth) (record { last = 0; rest = ts }))
