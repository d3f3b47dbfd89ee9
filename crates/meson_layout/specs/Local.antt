-- An edit of a list, laid out on the list's own text.
use Rattle.std.specs.Prelude.{◌≡◌, ℕ, ◌+◌, ◌-◌, List, [], ◌∷◌, ◌++◌, length, map}
use Rattle.meson_lex.specs.declared.kinds.Span.{Span}
use Rattle.meson_lex.specs.Items.{Lexeme, joined, IsItemList}
use Rattle.meson_splice.specs.declared.splice.Splice.{Splice}
use Rattle.meson_layout.specs.declared.primitive.Primitive.{Primitive}
use Rattle.meson_layout.specs.declared.primitive.Primitive.TheVariants.{First, After, Remove, Replace, Wrap, RemoveStatement, Append, Lines}
use Rattle.meson_layout.specs.declared.primitive.LineSpot.{LineSpot}
use Rattle.meson_layout.specs.declared.primitive.LineSpot.TheVariants as spot
use Rattle.meson_layout.specs.Edited.{ListOfItems, PartIn}
use Rattle.meson_layout.specs.Layout.{layout_of}

-- ---- places that count from the beginning of the list

abbrev pub nearer_span : ℕ → Span → Span
nearer_span n s = record { from = s.from - n; to = s.to - n }

abbrev pub nearer_spot : ℕ → LineSpot → LineSpot
nearer_spot n (spot.Above statement) = spot.Above (nearer_span n statement)
nearer_spot n (spot.Below statement) = spot.Below (nearer_span n statement)
nearer_spot n spot.End = spot.End

-- the edit, with a number of bytes before its places left out
abbrev pub nearer : ℕ → Primitive → Primitive
nearer n (First bracket new) = First (bracket - n) new
nearer n (After element new) = After (nearer_span n element) new
nearer n (Remove element) = Remove (nearer_span n element)
nearer n (Replace value new) = Replace (nearer_span n value) new
nearer n (Wrap value) = Wrap (nearer_span n value)
nearer n (RemoveStatement statement blank) = RemoveStatement (nearer_span n statement) blank
nearer n (Append new) = Append new
nearer n (Lines spot new) = Lines (nearer_spot n spot) new

-- the splice, with a number of bytes more before it
abbrev pub farther : ℕ → Splice → Splice
farther n s = record { file = s.file; at = n + s.at; was = s.was; now = s.now }

-- ---- the list alone

abbrev pub alone : (items : List Lexeme) → ListOfItems items → List Lexeme
alone items l = l.open_item ∷ (l.inner ++ l.close_item ∷ [])

-- the edit names the list's bracket, or a part of the list
abbrev pub IsOfList : (items : List Lexeme) → ListOfItems items → Primitive → Type 0
IsOfList items l (First bracket new) = bracket ≡ length (joined l.front)
IsOfList items l (After element new) = PartIn items l element
IsOfList items l (Remove element) = PartIn items l element
IsOfList items l (Replace value new) = PartIn items l value
IsOfList items l (Wrap value) = PartIn items l value
IsOfList items l (RemoveStatement statement blank) = ⊥
IsOfList items l (Append new) = ⊥
IsOfList items l (Lines spot new) = ⊥

-- the list's span in a source of these items
abbrev pub span_in : (items : List Lexeme) → ListOfItems items → Span
span_in items l = record { from = length (joined l.front); to = length (joined (l.front ++ alone items l)) }

-- The source has an item list with a list at the span, and the edit is one of that list.
pub record IsReadyIn (source : List ℕ) (list : Span) (primitive : Primitive) : Type 0 where
  pub items : List Lexeme
  pub are_items : IsItemList source items
  pub list_in : ListOfItems items
  pub span : list ≡ span_in items list_in
  pub of_list : IsOfList items list_in primitive

-- ---- the law

-- The place of a list changes nothing in how an edit of it is laid out: its splices are those in the list's own text.
abbrev pub LocalLaw : Type 0
LocalLaw = (file source : List ℕ) (items : List Lexeme) → IsItemList source items → (l : ListOfItems items) → (primitive : Primitive)
    → IsOfList items l primitive
    → layout_of file items primitive ≡ map (farther (length (joined l.front))) (layout_of file (alone items l) (nearer (length (joined l.front)) primitive))
