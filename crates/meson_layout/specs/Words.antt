-- Words at the ends of what is in a list, and the remarks beside words.
use Rattle.std.specs.Prelude.{◌≡◌, Bool, true, false, List, [], ◌∷◌, ◌++◌, ◌⊎◌, if◌then◌else◌}
use Rattle.meson_lex.specs.declared.kinds.Kind.{Kind}
use Rattle.meson_lex.specs.declared.kinds.Kind.TheVariants.{Comment, Continuation, Comma, Colon}
use Rattle.meson_lex.specs.Items.{Lexeme}
use Rattle.meson_lex.specs.Significant.{Word}

abbrev pub comma_word : Word
comma_word = (Comma, [])

abbrev pub colon_word : Word
colon_word = (Colon, [])

-- ---- remarks

abbrev pub is_remark : Kind → Bool
is_remark Comment = true
is_remark Continuation = true
is_remark _ = false

-- the comments and continuations of items
abbrev pub remarks : List Lexeme → List Lexeme
remarks [] = []
remarks (x ∷ xs) = if is_remark x.kind then x ∷ remarks xs else remarks xs

-- ---- ends of words

-- nothing, or a comma is first
abbrev pub IsBehindElement : List Word → Type 0
IsBehindElement words = (words ≡ []) ⊎ ((more : List Word) × (words ≡ comma_word ∷ more))

-- nothing, or a comma is last
abbrev pub IsBeforeElement : List Word → Type 0
IsBeforeElement words = (words ≡ []) ⊎ ((front : List Word) × (words ≡ front ++ comma_word ∷ []))

-- nothing, or a comma or the colon of a named argument is last
abbrev pub IsBeforeValue : List Word → Type 0
IsBeforeValue words = IsBeforeElement words ⊎ ((front : List Word) × (words ≡ front ++ colon_word ∷ []))

-- nothing, or one comma
abbrev pub IsCommaAtMost : List Word → Type 0
IsCommaAtMost words = (words ≡ []) ⊎ (words ≡ comma_word ∷ [])
