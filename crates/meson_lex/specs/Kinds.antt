-- The text that an item of each kind has. The kinds are those of the Meson manual's page Syntax; each has what that page says of it, and what this project
-- decided itself.
use Rattle.std.specs.Prelude.{◌≡◌, ◌≢◌, ℕ, ◌==◌, nat_le, Bool, true, false, not, ◌&&◌, ◌||◌, ◌⊎◌, List, [], ◌∷◌, ◌++◌, codes}
use Rattle.std.specs.List.{list_all}
use Rattle.meson_lex.specs.declared.kinds.Kind.{Kind}
use Rattle.meson_lex.specs.declared.kinds.Kind.TheVariants.{Blank, LineEnd, Comment, Continuation, Identifier, WordTrue, WordFalse, WordIf, WordElif, WordElse, WordEndif, WordAnd, WordOr, WordNot, WordIn, WordForeach, WordEndforeach, WordBreak, WordContinue, Integer, PlainString, MultilineString, FormatString, FormatMultilineString, OpenRound, CloseRound, OpenSquare, CloseSquare, OpenCurly, CloseCurly, Comma, Dot, Colon, Question, Plus, Minus, Star, Slash, Percent, Assign, PlusAssign, Equal, NotEqual, Less, LessEqual, Greater, GreaterEqual}
use Rattle.meson_lex.specs.Bytes.{is_blank, is_line_byte, is_word_start, is_word_byte, is_digit, is_hexadecimal, is_octal, is_binary, begins_three_quotes}

-- ---- blanks, line ends, comments, continuations

-- a text that is not empty, and whose bytes all pass: blanks, which mean nothing but between items
abbrev pub IsRun : (ℕ → Bool) → List ℕ → Type 0
IsRun test [] = ⊥
IsRun test (b ∷ bs) = (test b ≡ true) × (list_all test bs ≡ true)

-- LF, or CR LF: a statement ends with its line (as one item, and no form feed among the blanks: decided here)
abbrev pub IsLineEnd : List ℕ → Type 0
IsLineEnd text = (text ≡ 10 ∷ []) ⊎ (text ≡ 13 ∷ 10 ∷ [])

-- `#`, and then no CR and no LF: a comment continues to the end of its line
abbrev pub IsComment : List ℕ → Type 0
IsComment [] = ⊥
IsComment (b ∷ bs) = (b ≡ 35) × (list_all (λ c. not (is_line_byte c)) bs ≡ true)

-- a backslash, blanks or none, a comment or none, a line end: a backslash at a line's end joins the next line (in this form: decided here)
pub record IsContinuation (text : List ℕ) : Type 0 where
  pub blanks : List ℕ
  pub note : List ℕ
  pub end : List ℕ
  pub joins : 92 ∷ (blanks ++ (note ++ end)) ≡ text
  pub all_blank : list_all is_blank blanks ≡ true
  pub is_note : (note ≡ []) ⊎ IsComment note
  pub is_end : IsLineEnd end

-- ---- words and integers

-- a letter or `_`, and then letters, digits and `_`: the grammar's id_expression
abbrev pub IsWord : List ℕ → Type 0
IsWord [] = ⊥
IsWord (b ∷ bs) = (is_word_start b ≡ true) × (list_all is_word_byte bs ≡ true)

-- one or more bytes that pass
abbrev pub is_run : (ℕ → Bool) → List ℕ → Bool
is_run test [] = false
is_run test (b ∷ bs) = test b && list_all test bs

-- what may follow a first digit 0: nothing, or the letter of a base and then digits of that base
abbrev pub is_after_zero : List ℕ → Bool
is_after_zero [] = true
is_after_zero (c ∷ digits) = (c == 120 || c == 88) && is_run is_hexadecimal digits || (c == 111 || c == 79) && is_run is_octal digits
    || (c == 98 || c == 66) && is_run is_binary digits

-- `0`, decimal digits of which the first is not 0, or `0x`, `0o`, `0b` with digits: Numbers, and the grammar's integer_literal (beside it `0`,
-- `0b` and capitals: decided here)
abbrev pub is_integer : List ℕ → Bool
is_integer [] = false
is_integer (b ∷ bs) = b == 48 && is_after_zero bs || (nat_le 49 b && nat_le b 57) && list_all is_digit bs

-- ---- strings

-- what follows an opening quote, up to and with the closing one: bytes other than quote and backslash, and a backslash with any byte after it
-- (Strings; that a line end may be inside: decided here)
abbrev pub IsQuotedRest : List ℕ → Type 0
IsQuotedRest [] = ⊥
IsQuotedRest (b ∷ []) = b ≡ 39
IsQuotedRest (b ∷ c ∷ bs) = ((b ≡ 92) × IsQuotedRest bs) ⊎ ((b ≢ 39) × (b ≢ 92) × IsQuotedRest (c ∷ bs))

-- what follows three opening quotes: any bytes, up to the first three quotes and with them (Strings, multiline)
abbrev pub IsTripledRest : List ℕ → Type 0
IsTripledRest [] = ⊥
IsTripledRest (b ∷ bs) = (b ∷ bs ≡ codes "'''") ⊎ ((begins_three_quotes (b ∷ bs) ≡ false) × IsTripledRest bs)

-- what opens a string of the kind: an `f` directly before the quotes makes it a format string (Format strings)
abbrev pub opener : Kind → List ℕ
opener PlainString = codes "'"
opener MultilineString = codes "'''"
opener FormatString = codes "f'"
opener FormatMultilineString = codes "f'''"
opener _ = []

-- what may follow that
abbrev pub IsRestOf : Kind → List ℕ → Type 0
IsRestOf PlainString rest = IsQuotedRest rest
IsRestOf MultilineString rest = IsTripledRest rest
IsRestOf FormatString rest = IsQuotedRest rest
IsRestOf FormatMultilineString rest = IsTripledRest rest
IsRestOf _ rest = ⊥

-- the text is a closed string of the kind
pub record IsString (kind : Kind) (text : List ℕ) : Type 0 where
  pub rest : List ℕ
  pub joins : opener kind ++ rest ≡ text
  pub closed : IsRestOf kind rest

-- ---- reserved words and punctuation

-- the one text of a reserved word or a punctuation mark; nothing for the other kinds
abbrev pub spelling : Kind → List ℕ
spelling WordTrue = codes "true"
spelling WordFalse = codes "false"
spelling WordIf = codes "if"
spelling WordElif = codes "elif"
spelling WordElse = codes "else"
spelling WordEndif = codes "endif"
spelling WordAnd = codes "and"
spelling WordOr = codes "or"
spelling WordNot = codes "not"
spelling WordIn = codes "in"
spelling WordForeach = codes "foreach"
spelling WordEndforeach = codes "endforeach"
spelling WordBreak = codes "break"
spelling WordContinue = codes "continue"
spelling OpenRound = codes "("
spelling CloseRound = codes ")"
spelling OpenSquare = codes "["
spelling CloseSquare = codes "]"
spelling OpenCurly = codes "{"
spelling CloseCurly = codes "}"
spelling Comma = codes ","
spelling Dot = codes "."
spelling Colon = codes ":"
spelling Question = codes "?"
spelling Plus = codes "+"
spelling Minus = codes "-"
spelling Star = codes "*"
spelling Slash = codes "/"
spelling Percent = codes "%"
spelling Assign = codes "="
spelling PlusAssign = codes "+="
spelling Equal = codes "=="
spelling NotEqual = codes "!="
spelling Less = codes "<"
spelling LessEqual = codes "<="
spelling Greater = codes ">"
spelling GreaterEqual = codes ">="
spelling _ = []

-- the reserved words: those of the selections, iterations, logical operations and truth values
abbrev pub reserved : List Kind
reserved = WordTrue ∷ WordFalse ∷ WordIf ∷ WordElif ∷ WordElse ∷ WordEndif ∷ WordAnd ∷ WordOr ∷ WordNot ∷ WordIn ∷ WordForeach ∷ WordEndforeach ∷ WordBreak
    ∷ WordContinue ∷ []

-- the text is the spelling of none of these
abbrev pub IsNoneOf : List Kind → List ℕ → Type 0
IsNoneOf [] text = Unit {0}
IsNoneOf (k ∷ ks) text = (text ≢ spelling k) × IsNoneOf ks text

-- a word that is not reserved
abbrev pub IsIdentifier : List ℕ → Type 0
IsIdentifier text = IsWord text × IsNoneOf reserved text

-- ---- all kinds

-- the text is one of the kind
abbrev pub OfKind : Kind → List ℕ → Type 0
OfKind Blank text = IsRun is_blank text
OfKind LineEnd text = IsLineEnd text
OfKind Comment text = IsComment text
OfKind Continuation text = IsContinuation text
OfKind Identifier text = IsIdentifier text
OfKind Integer text = is_integer text ≡ true
OfKind PlainString text = IsString PlainString text
OfKind MultilineString text = IsString MultilineString text
OfKind FormatString text = IsString FormatString text
OfKind FormatMultilineString text = IsString FormatMultilineString text
OfKind kind text = text ≡ spelling kind
