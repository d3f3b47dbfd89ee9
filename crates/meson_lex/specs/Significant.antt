-- The significant tokens of a text: its items without blanks, comments, continuations and the line ends inside brackets.
-- A run of line ends counts as one; none is at the start, and one is added at an end that has none.
use Rattle.std.specs.Prelude.{ℕ, zero, suc, pred, Bool, true, false, List, [], ◌∷◌, ◌++◌}
use Rattle.meson_lex.specs.declared.kinds.Kind.{Kind}
use Rattle.meson_lex.specs.declared.kinds.Kind.TheVariants.{Blank, LineEnd, Comment, Continuation, Identifier, Integer, PlainString, MultilineString, FormatString, FormatMultilineString, OpenRound, CloseRound, OpenSquare, CloseSquare, OpenCurly, CloseCurly}
use Rattle.meson_lex.specs.Items.{Lexeme}

-- a word is a token without its place: its kind, and its text if the kind does not determine it
abbrev pub Word : Type 0
Word = Kind × List ℕ

abbrev pub kept : Kind → List ℕ → List ℕ
kept Identifier text = text
kept Integer text = text
kept PlainString text = text
kept MultilineString text = text
kept FormatString text = text
kept FormatMultilineString text = text
kept _ text = []

-- the word of a line end
abbrev pub new_line : Word
new_line = (LineEnd, [])

-- the role of an item for the tokens
pub data Role : Type 0 where
  -- a blank, a comment or a continuation
  Gap : Role
  -- a line end
  Ends : Role
  -- a bracket that opens, and one that closes
  Opens : Role
  Closes : Role
  -- every other token
  Other : Role

abbrev pub role : Kind → Role
role Blank = Gap
role Comment = Gap
role Continuation = Gap
role LineEnd = Ends
role OpenRound = Opens
role OpenSquare = Opens
role OpenCurly = Opens
role CloseRound = Closes
role CloseSquare = Closes
role CloseCurly = Closes
role _ = Other

-- the number of open brackets, and whether there was no token yet or the last one was a line end. A bracket that closes when none is open leaves none open:
-- such a text is not a file's.
pub record State : Type 0 where
  pub depth : ℕ
  pub fresh : Bool

abbrev pub start : State
start = record { depth = 0; fresh = true }

-- whether a line end at this depth leaves the state fresh
abbrev pub fresh_after : ℕ → Bool → Bool
fresh_after zero fresh = true
fresh_after (suc depth) fresh = fresh

abbrev pub step_by : Role → State → State
step_by Gap s = s
step_by Ends s = record { depth = s.depth; fresh = fresh_after s.depth s.fresh }
step_by Opens s = record { depth = suc s.depth; fresh = false }
step_by Closes s = record { depth = pred s.depth; fresh = false }
step_by Other s = record { depth = s.depth; fresh = false }

-- whether a line end at this state is a token: outside brackets, after another token
abbrev pub ends_line : ℕ → Bool → Bool
ends_line zero true = false
ends_line zero false = true
ends_line (suc depth) fresh = false

abbrev pub only_if : {A : Type 0} → Bool → A → List A
only_if true x = x ∷ []
only_if false x = []

abbrev pub emit_by : Role → State → Word → List Word
emit_by Gap s w = []
emit_by Ends s w = only_if (ends_line s.depth s.fresh) new_line
emit_by Opens s w = w ∷ []
emit_by Closes s w = w ∷ []
emit_by Other s w = w ∷ []

abbrev pub step : State → Lexeme → State
step s x = step_by (role x.kind) s

abbrev pub emit : State → Lexeme → List Word
emit s x = emit_by (role x.kind) s (x.kind, kept x.kind x.text)

-- the state after items, and the words that they give
abbrev pub after : State → List Lexeme → State
after s [] = s
after s (x ∷ xs) = after (step s x) xs

abbrev pub emitted : State → List Lexeme → List Word
emitted s [] = []
emitted s (x ∷ xs) = emit s x ++ emitted (step s x) xs

abbrev pub closing : Bool → List Word
closing true = []
closing false = new_line ∷ []

-- the significant tokens of a text's items
abbrev pub significant : List Lexeme → List Word
significant xs = emitted start xs ++ closing (after start xs).fresh
