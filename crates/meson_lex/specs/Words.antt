-- The words of items inside brackets, where line ends are not tokens.
use Rattle.std.specs.Prelude.{◌≡◌, Bool, true, false, List, [], ◌∷◌, ◌++◌}
use Rattle.meson_lex.specs.Items.{Lexeme}
use Rattle.meson_lex.specs.Significant.{Word, kept, Role, Gap, Ends, Opens, Closes, Other, role}

-- whether an item with this role is always a token by itself
abbrev pub speaks : Role → Bool
speaks Gap = false
speaks Ends = false
speaks Opens = true
speaks Closes = true
speaks Other = true

abbrev pub spoken_by : Role → Word → List Word
spoken_by Gap w = []
spoken_by Ends w = []
spoken_by Opens w = w ∷ []
spoken_by Closes w = w ∷ []
spoken_by Other w = w ∷ []

abbrev pub word : Lexeme → Word
word x = (x.kind, kept x.kind x.text)

-- the words of items, without line ends: inside brackets these are all of their tokens
abbrev pub spoken : List Lexeme → List Word
spoken [] = []
spoken (x ∷ xs) = spoken_by (role x.kind) (word x) ++ spoken xs

-- the first and the last of the items are tokens by themselves: no blank, comment, continuation or line end is at either end
pub record IsTight (own : List Lexeme) : Type 0 where
  pub first : Lexeme
  pub more : List Lexeme
  pub begins : own ≡ first ∷ more
  pub first_speaks : speaks (role first.kind) ≡ true
  pub front : List Lexeme
  pub last : Lexeme
  pub ends : own ≡ front ++ last ∷ []
  pub last_speaks : speaks (role last.kind) ≡ true
