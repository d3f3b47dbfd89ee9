-- A list among the items of a source, and what an edit within it gives.
use Rattle.std.specs.Prelude.{◌≡◌, ℕ, List, [], ◌∷◌, ◌++◌, length, Result, Ok}
use Rattle.meson_lex.specs.declared.kinds.Span.{Span}
use Rattle.meson_lex.specs.Items.{Lexeme, joined, IsItemList}
use Rattle.meson_lex.specs.Significant.{Word, Opens, Closes, role}
use Rattle.meson_splice.specs.declared.fault.SpliceFault.{SpliceFault}
use Rattle.meson_splice.specs.declared.splice.Splice.{Splice}
use Rattle.meson_splice.specs.Patch.{patched, then_ok}
use Rattle.meson_lex.specs.Words.{spoken, IsTight}
use Rattle.meson_layout.specs.Words.{remarks, IsCommaAtMost}

-- a list, from its opening bracket to its closing one
pub record ListOfItems (items : List Lexeme) : Type 0 where
  pub front : List Lexeme
  pub open_item : Lexeme
  pub inner : List Lexeme
  pub close_item : Lexeme
  pub rest : List Lexeme
  pub parts : items ≡ front ++ open_item ∷ (inner ++ close_item ∷ rest)
  pub opens : role open_item.kind ≡ Opens
  pub closes : role close_item.kind ≡ Closes

-- a part of the list: an element, or the value of one
pub record PartIn (items : List Lexeme) (l : ListOfItems items) (s : Span) : Type 0 where
  pub left : List Lexeme
  pub own : List Lexeme
  pub right : List Lexeme
  pub parts : l.inner ≡ left ++ (own ++ right)
  pub from : s.from ≡ length (joined (l.front ++ l.open_item ∷ left))
  pub to : s.to ≡ length (joined (l.front ++ l.open_item ∷ (left ++ own)))
  pub tight : IsTight own

-- what is written in the place of a value, or as an element
pub record IsNew (bytes : List ℕ) (items : List Lexeme) : Type 0 where
  pub are_items : IsItemList bytes items
  pub tight : IsTight items
  pub no_remarks : remarks items ≡ []

-- the bytes after splices, each at what the ones before it left
abbrev pub patched_by : List ℕ → List Splice → Result (List ℕ) SpliceFault
patched_by bytes [] = Ok bytes
patched_by bytes (s ∷ ss) = then_ok (patched bytes s) (λ next. patched_by next ss)

-- What is left of the touched part keeps its bytes, but for at most a comma and white space at its end. So does what is right of it.
pub record Keeps (left right : List Lexeme) (text : List ℕ) : Type 0 where
  pub front : List Lexeme
  pub gone : List Lexeme
  pub between : List ℕ
  pub lost : List Lexeme
  pub rest : List Lexeme
  pub left_is : left ≡ front ++ gone
  pub right_is : right ≡ lost ++ rest
  pub text_is : text ≡ joined front ++ (between ++ joined rest)
  pub gone_is : IsCommaAtMost (spoken gone)
  pub lost_is : IsCommaAtMost (spoken lost)

-- The splices give a text that differs within the brackets alone. Between them is a list with these words and remarks, and the items left and right of the
-- touched part are kept.
pub record Edited (source : List ℕ) (items : List Lexeme) (l : ListOfItems items) (left right : List Lexeme) (ss : List Splice) (words : List Word)
    (notes : List Lexeme) : Type 0 where
  pub inner : List Lexeme
  pub text : List ℕ
  pub patches : patched_by source ss ≡ Ok (joined l.front ++ (text ++ joined l.rest))
  pub are_items : IsItemList text (l.open_item ∷ (inner ++ l.close_item ∷ []))
  pub says : spoken inner ≡ words
  pub noted : remarks inner ≡ notes
  pub keeps : Keeps left right (joined inner)
