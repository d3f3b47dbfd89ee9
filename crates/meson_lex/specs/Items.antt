-- The items of a text, in a list.
use Rattle.std.specs.Prelude.{◌≡◌, ℕ, List, [], ◌∷◌, ◌++◌, None}
use Rattle.meson_lex.specs.declared.kinds.Kind.{Kind}
use Rattle.meson_lex.specs.Bytes.{first_bare_return}
use Rattle.meson_lex.specs.Kinds.{OfKind}
use Rattle.meson_lex.specs.Neighbours.{MayStand}

-- an item's kind and text
pub record Lexeme : Type 0 where
  pub kind : Kind
  pub text : List ℕ

-- the texts, joined
abbrev pub joined : List Lexeme → List ℕ
joined [] = []
joined (x ∷ xs) = x.text ++ joined xs

-- the text is of its kind, has no CR without LF after it, and may be before the rest
abbrev pub IsItem : Lexeme → List ℕ → Type 0
IsItem x rest = OfKind x.kind x.text × (first_bare_return x.text ≡ None) × MayStand x.kind x.text rest

-- each is an item before those that follow it and the rest
abbrev pub AreItems : List Lexeme → List ℕ → Type 0
AreItems [] rest = Unit {0}
AreItems (x ∷ xs) rest = IsItem x (joined xs ++ rest) × AreItems xs rest

-- the text is these items
pub record IsItemList (bytes : List ℕ) (xs : List Lexeme) : Type 0 where
  pub joins : joined xs ≡ bytes
  pub each : AreItems xs []

-- the items but for CRs: each text is of its kind, and may be before those that follow it and the rest
abbrev pub StandTogether : List Lexeme → List ℕ → Type 0
StandTogether [] rest = Unit {0}
StandTogether (x ∷ xs) rest = OfKind x.kind x.text × MayStand x.kind x.text (joined xs ++ rest) × StandTogether xs rest
