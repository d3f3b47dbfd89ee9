-- The tokens that are left of a source.
use Rattle.std.specs.Prelude.{ℕ, List, [], ◌∷◌}
use Rattle.meson_syntax.specs.declared.token.Token.{Token}
use Rattle.meson_syntax.specs.inside.Input.{Input}
use Rattle.meson_syntax.specs.inside.Tokens.{tokens_of}
use Rattle.meson_syntax.specs.View.{Bytes}

-- where the last token ended, and those that are left
pub record Cursor : Type 0 where
  pub last : ℕ
  pub rest : List Token

-- with their texts in the source
unfoldable pub input : Bytes → Cursor → Input
input source cursor = record { last = cursor.last; rest = tokens_of source cursor.rest }

-- the offset that a refusal names: the next token's, or the end
abbrev pub place_of : ℕ → List Token → ℕ
place_of end [] = end
place_of end (t ∷ ts) = t.place
