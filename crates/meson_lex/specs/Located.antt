-- The significant tokens of a text with their places.
use Rattle.std.specs.Prelude.{ℕ, ◌+◌, Bool, true, false, List, [], ◌∷◌, ◌++◌, length, map}
use Rattle.meson_lex.specs.declared.kinds.Kind.{Kind}
use Rattle.meson_lex.specs.declared.kinds.Kind.TheVariants.{LineEnd}
use Rattle.meson_lex.specs.Items.{Lexeme}
use Rattle.meson_lex.specs.Significant.{Word, kept, Role, Gap, Ends, Opens, Closes, Other, role, State, start, step, after, ends_line, only_if}

-- a token, and its span in bytes
pub record Token : Type 0 where
  pub kind : Kind
  pub text : List ℕ
  pub from : ℕ
  pub to : ℕ

abbrev pub word_of : Token → Word
word_of t = (t.kind, kept t.kind t.text)

abbrev pub words : List Token → List Word
words = map word_of

-- a line end is the empty token at the end of the token before it
abbrev pub line_end_at : ℕ → Token
line_end_at end = record { kind = LineEnd; text = []; from = end; to = end }

abbrev pub token_at : Lexeme → ℕ → Token
token_at x at = record { kind = x.kind; text = x.text; from = at; to = at + length x.text }

-- the token of one item, which begins at `at`; the last token before it ended at `end`
abbrev pub spot_by : Role → State → Lexeme → ℕ → ℕ → List Token
spot_by Gap s x end at = []
spot_by Ends s x end at = only_if (ends_line s.depth s.fresh) (line_end_at end)
spot_by Opens s x end at = token_at x at ∷ []
spot_by Closes s x end at = token_at x at ∷ []
spot_by Other s x end at = token_at x at ∷ []

-- where the last token ends after an item
abbrev pub end_by : Role → Lexeme → ℕ → ℕ → ℕ
end_by Gap x end at = end
end_by Ends x end at = end
end_by Opens x end at = at + length x.text
end_by Closes x end at = at + length x.text
end_by Other x end at = at + length x.text

-- the tokens of items of which the first begins at `at`
abbrev pub spots : State → ℕ → ℕ → List Lexeme → List Token
spots s end at [] = []
spots s end at (x ∷ xs) = spot_by (role x.kind) s x end at ++ spots (step s x) (end_by (role x.kind) x end at) (at + length x.text) xs

-- where the last token of the items ends
abbrev pub end_after : ℕ → ℕ → List Lexeme → ℕ
end_after end at [] = end
end_after end at (x ∷ xs) = end_after (end_by (role x.kind) x end at) (at + length x.text) xs

abbrev pub closing_at : Bool → ℕ → List Token
closing_at true end = []
closing_at false end = line_end_at end ∷ []

-- the significant tokens of a file's items, with their places
abbrev pub located : List Lexeme → List Token
located xs = spots start 0 0 xs ++ closing_at (after start xs).fresh (end_after 0 0 xs)
