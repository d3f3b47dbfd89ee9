-- Which items may be side by side. The Syntax page leaves it to the longest item from the left; here no longest item is named. A text of a kind may be before
-- what follows it if that would neither lengthen it nor make it another item.
use Rattle.std.specs.Prelude.{◌≡◌, ℕ, true, false, ◌⊎◌, List, [], codes}
use Rattle.meson_lex.specs.declared.kinds.Kind.{Kind}
use Rattle.meson_lex.specs.declared.kinds.Kind.TheVariants.{Blank, Comment, Identifier, WordTrue, WordFalse, WordIf, WordElif, WordElse, WordEndif, WordAnd, WordOr, WordNot, WordIn, WordForeach, WordEndforeach, WordBreak, WordContinue, Integer, PlainString, FormatString, Plus, Assign, Less, Greater}
use Rattle.meson_lex.specs.Bytes.{is_blank, is_line_byte, is_word_byte, is_quote, is_equals, begins, begins_bare_return}

-- what of a kind matters to its neighbours
pub data Shape : Type 0 where
  -- blanks
  blanks : Shape
  -- a comment
  note : Shape
  -- an identifier
  name : Shape
  -- a reserved word or an integer
  word : Shape
  -- a string of one quote, and one with an `f` before it
  quoted : Shape
  format_quoted : Shape
  -- a mark that becomes another one with a `=` after it
  extendable : Shape
  -- all else
  closed : Shape

abbrev pub shape : Kind → Shape
shape Blank = blanks
shape Comment = note
shape Identifier = name
shape WordTrue = word
shape WordFalse = word
shape WordIf = word
shape WordElif = word
shape WordElse = word
shape WordEndif = word
shape WordAnd = word
shape WordOr = word
shape WordNot = word
shape WordIn = word
shape WordForeach = word
shape WordEndforeach = word
shape WordBreak = word
shape WordContinue = word
shape Integer = word
shape PlainString = quoted
shape FormatString = format_quoted
shape Plus = extendable
shape Assign = extendable
shape Less = extendable
shape Greater = extendable
shape _ = closed

-- a text of the shape may be before the rest
abbrev pub StandsBefore : Shape → List ℕ → List ℕ → Type 0
-- no blank follows blanks
StandsBefore blanks text rest = begins is_blank rest ≡ false
-- nothing follows a comment, or a line end does
StandsBefore note text rest = (rest ≡ []) ⊎ ((begins is_line_byte rest ≡ true) × (begins_bare_return rest ≡ false))
-- no letter, digit or `_` follows a word or an integer, and no quote the identifier `f`
StandsBefore name text rest = (begins is_word_byte rest ≡ false) × (text ≡ codes "f" → begins is_quote rest ≡ false)
StandsBefore word text rest = begins is_word_byte rest ≡ false
-- no quote follows an empty string
StandsBefore quoted text rest = text ≡ codes "''" → begins is_quote rest ≡ false
StandsBefore format_quoted text rest = text ≡ codes "f''" → begins is_quote rest ≡ false
-- no `=` follows `+`, `=`, `<` or `>`
StandsBefore extendable text rest = begins is_equals rest ≡ false
StandsBefore closed text rest = Unit {0}

-- a text of the kind may be before the rest
abbrev pub MayStand : Kind → List ℕ → List ℕ → Type 0
MayStand kind text rest = StandsBefore (shape kind) text rest
