-- The tokens of a text in which one list is replaced by another one.
use Rattle.std.specs.Prelude.{◌≡◌, ℕ, ◌+◌, List, [], ◌∷◌, ◌++◌, length}
use Rattle.meson_lex.specs.declared.kinds.Span.{Span}
use Rattle.meson_lex.specs.Items.{Lexeme, IsItemList}
use Rattle.meson_lex.specs.Significant.{start, after, emitted, closing}
use Rattle.meson_lex.specs.Located.{Token, words, spots, located}
use Rattle.meson_syntax.specs.Tree.{Nowhere, Listing}
use Rattle.meson_syntax.specs.Paths.{ListAt, list_span, inner_words}
use Rattle.meson_edit.specs.Standing.{ListStands}
use Rattle.meson_syntax.specs.ReadsList.{IsListText}
use Rattle.meson_edit.specs.Moves.{tokens_by}
use Rattle.meson_syntax.specs.Moving.{moved}

-- the tokens of a list's items alone, moved to where the list begins
abbrev pub list_tokens : ℕ → (open_item : Lexeme) (inner : List Lexeme) (close_item : Lexeme) → List Token
list_tokens from o inner c = tokens_by (λ n. n + from) (spots start 0 0 (o ∷ (inner ++ c ∷ [])))

-- How the tokens of a text change when one of its lists, which begins at `from`, is replaced by another one. The tokens of the other list are in the place of
-- the list's own. The tokens before them stay, and each border after them moves by `g`.
pub record TokensExchanged (left right : List Lexeme) (o c : Lexeme) (inner : List Lexeme) (q d : Lexeme) (other : List Lexeme)
    (from : ℕ) (g : ℕ → ℕ) : Type 0 where
  pub behind : List Token
  pub old : located (left ++ o ∷ (inner ++ c ∷ right)) ≡ spots start 0 0 left ++ (list_tokens from o inner c ++ behind)
  pub new : located (left ++ q ∷ (other ++ d ∷ right)) ≡ spots start 0 0 left ++ (list_tokens from q other d ++ tokens_by g behind)
  pub is_behind : words behind ≡ emitted (after start (left ++ o ∷ (inner ++ c ∷ []))) right ++ closing (after start (left ++ o ∷ (inner ++ c ∷ right))).fresh
  pub stay : tokens_by g (spots start 0 0 left) ≡ spots start 0 0 left

-- If a list of `was` bytes is replaced by the text of another one, all after it moves by the difference of the lengths.
abbrev pub TokensMove : Type 0
TokensMove =
    (bytes : List ℕ) (items : List Lexeme) → IsItemList bytes items → (p : ListAt Span) (s : ListStands items p) (l : Listing Nowhere) (text : List ℕ)
    (t : IsListText text p.bracket (inner_words l))
    → (was : ℕ) → (list_span p.list).from + was ≡ (list_span p.list).to
    → TokensExchanged s.left s.right s.open_item s.close_item s.inner t.open_item t.close_item t.inner (list_span p.list).from
    (moved (list_span p.list).to was (length text))
