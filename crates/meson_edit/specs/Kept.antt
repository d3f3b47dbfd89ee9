-- What an edit keeps. In a list: what is left and right of the touched part, but for commas, blanks and line ends. So every comment and every other element
-- stays. Of statements: all but the statement's own items and the blanks and the line end that are removed with it. Of an
-- assignment: all but the value. Around new lines: all.
use Rattle.std.specs.Prelude.{◌≡◌, ℕ, ◌<◌, ◌≤◌, List, [], ◌∷◌, ◌++◌, ◌⊎◌, codes, length, Some, Ok}
use Rattle.meson_lex.specs.declared.kinds.Span.{Span}
use Rattle.meson_lex.specs.Kinds.{IsLineEnd}
use Rattle.meson_lex.specs.Items.{Lexeme, joined, IsItemList}
use Rattle.meson_layout.specs.declared.primitive.BlankLines.{BlankLines}
use Rattle.meson_layout.specs.declared.primitive.Primitive.{Primitive}
use Rattle.meson_layout.specs.Layout.{layout_of}
use Rattle.meson_layout.specs.Words.{remarks}
use Rattle.meson_layout.specs.Edited.{Keeps, patched_by}
use Rattle.meson_layout.specs.FileLaws.{IsCut}
use Rattle.meson_syntax.specs.declared.source.Limits.{Limits}
use Rattle.meson_syntax.specs.Tree.{Plain, Expression, File, erase}
use Rattle.meson_syntax.specs.Paths.{ListAt, list_at, ElementAt, element_at, value_of}
use Rattle.meson_edit.specs.Standing.{argument_span, ListStands, ElementStands, ValueStands, ListPlaces}
use Rattle.meson_syntax.specs.Reads.{IsSpannedWithin}
use Rattle.meson_edit.specs.Edits.{Edit, First, After, Remove, Replace, Wrap, RemoveStatement, Append, Assign, Lines, edited}
use Rattle.meson_edit.specs.Places.{primitive_of, Writes, span_of_statement, value_span, assigned_span}

-- ---- lists

-- What an edit of the list `p` touches: no item, if an element is inserted, else the items of an element or of its value. `left` and `right` are the items of
-- the list left and right of that, and `notes` the comments and continuations that it must not remove.
abbrev pub Touches : (items : List Lexeme) (p : ListAt Span) → ListStands items p → Edit → (left right notes : List Lexeme) → Type 0
Touches items p l (First path new) left right notes = (left ≡ []) × (right ≡ l.inner) × (notes ≡ remarks l.inner)
Touches items p l (After path n new) left right notes =
    (x : ElementAt Span) × (element_at p.list n ≡ Some x)
    × (part : ElementStands items p l x) × (left ≡ part.left ++ part.own) × (right ≡ part.right) × (notes ≡ remarks l.inner)
Touches items p l (Remove path n) left right notes =
    (x : ElementAt Span) × (element_at p.list n ≡ Some x)
    × (part : ElementStands items p l x) × (left ≡ part.left) × (right ≡ part.right) × (notes ≡ remarks left ++ remarks right)
Touches items p l (Replace path n new) left right notes =
    (x : ElementAt Span) × (element_at p.list n ≡ Some x) × (v : Expression Span) × (value_of x.element ≡ Some v)
    × (part : ValueStands items p l x v) × (left ≡ part.left) × (right ≡ part.right) × (notes ≡ remarks left ++ remarks right)
Touches items p l (Wrap path n) left right notes =
    (x : ElementAt Span) × (element_at p.list n ≡ Some x) × (v : Expression Span) × (value_of x.element ≡ Some v)
    × (part : ValueStands items p l x v) × (left ≡ part.left) × (right ≡ part.right) × (notes ≡ remarks l.inner)
Touches items p l (RemoveStatement blank path n) left right notes = ⊥
Touches items p l (Append new) left right notes = ⊥
Touches items p l (Assign path new) left right notes = ⊥
Touches items p l (Lines place new) left right notes = ⊥

-- The new text is the old one but for the items between the brackets of the list. Of these all bytes left and right of the touched part stay, but for at most a
-- comma, blanks and line ends beside it. Every comment and continuation stays, in order.
pub record KeepsList (bytes text : List ℕ) (items : List Lexeme) (e : Edit) (p : ListAt Span) : Type 0 where
  pub places : ListPlaces items p
  pub left : List Lexeme
  pub right : List Lexeme
  pub notes : List Lexeme
  pub touches : Touches items p places.list e left right notes
  pub inner : List Lexeme
  pub now : List ℕ
  pub are_items : IsItemList now (places.list.open_item ∷ (inner ++ places.list.close_item ∷ []))
  pub is_text : text ≡ joined places.list.left ++ (now ++ joined places.list.right)
  pub keeps : Keeps left right (joined inner)
  pub comments : remarks inner ≡ notes

-- whether the element of this number is before what an edit touches, and whether it is after it
abbrev pub IsBefore : Edit → ℕ → Type 0
IsBefore (First path new) m = ⊥
IsBefore (After path n new) m = m ≤ n
IsBefore (Remove path n) m = m < n
IsBefore (Replace path n new) m = m < n
IsBefore (Wrap path n) m = m < n
IsBefore (RemoveStatement blank path n) m = ⊥
IsBefore (Append new) m = ⊥
IsBefore (Assign path new) m = ⊥
IsBefore (Lines place new) m = ⊥

abbrev pub IsBehind : Edit → ℕ → Type 0
IsBehind (First path new) m = ⊥
IsBehind (After path n new) m = n < m
IsBehind (Remove path n) m = n < m
IsBehind (Replace path n new) m = n < m
IsBehind (Wrap path n) m = n < m
IsBehind (RemoveStatement blank path n) m = ⊥
IsBehind (Append new) m = ⊥
IsBehind (Assign path new) m = ⊥
IsBehind (Lines place new) m = ⊥

-- up to this offset the texts are the same
pub record SameUpTo (to : ℕ) (bytes text : List ℕ) : Type 0 where
  pub front : List ℕ
  pub was : List ℕ
  pub now : List ℕ
  pub old : bytes ≡ front ++ was
  pub new : text ≡ front ++ now
  pub is : length front ≡ to

-- from this offset of the old text on they are the same
pub record SameFrom (from : ℕ) (bytes text : List ℕ) : Type 0 where
  pub was : List ℕ
  pub now : List ℕ
  pub back : List ℕ
  pub old : bytes ≡ was ++ back
  pub new : text ≡ now ++ back
  pub is : length was ≡ from

-- Every other element keeps its bytes. The text stays up to the end of each element before the touched part, and from the beginning of each after it.
abbrev pub OthersStay : (bytes text : List ℕ) → Edit → ListAt Span → Type 0
OthersStay bytes text e p =
    (m : ℕ) (x : ElementAt Span) → element_at p.list m ≡ Some x
    → (IsBefore e m → SameUpTo (argument_span x.element).to bytes text) × (IsBehind e m → SameFrom (argument_span x.element).from bytes text)

-- ---- statements

-- Of the items around the statement those go that this is said of: with blank lines that stay, the blank directly before it, the one directly after it, and then
-- the line end, if the statement began its line; else blanks and line ends. All else stays.
pub record KeepsAround (blank : BlankLines) (bytes text : List ℕ) (items : List Lexeme) (s : Span) : Type 0 where
  pub front : List Lexeme
  pub before : List Lexeme
  pub own : List Lexeme
  pub behind : List Lexeme
  pub back : List Lexeme
  pub old : items ≡ front ++ (before ++ (own ++ (behind ++ back)))
  pub new : text ≡ joined front ++ joined back
  pub from : s.from ≡ length (joined (front ++ before))
  pub to : s.to ≡ length (joined (front ++ (before ++ own)))
  pub is_cut : IsCut blank front before behind back

-- ---- every edit

-- in the list that the path names
pub record KeepsIn (bytes text : List ℕ) (f : File Span) (items : List Lexeme) (e : Edit) (path : List ℕ) : Type 0 where
  pub p : ListAt Span
  pub is_p : list_at f path ≡ Some p
  pub list : KeepsList bytes text items e p
  pub others : OthersStay bytes text e p

-- The value of the element of this number keeps its bytes, and so do all bytes before and after it. Only the brackets of the array are added around it.
pub record WrapsValue (bytes text : List ℕ) (f : File Span) (path : List ℕ) (n : ℕ) : Type 0 where
  pub span : Span
  pub is_span : value_span f path n ≡ Some span
  pub front : List ℕ
  pub value : List ℕ
  pub back : List ℕ
  pub old : bytes ≡ front ++ (value ++ back)
  pub from : length front ≡ span.from
  pub to : length (front ++ value) ≡ span.to
  pub new : text ≡ front ++ (codes "[" ++ (value ++ (codes "]" ++ back)))

-- Only the bytes of the value that the assignment at this path assigns are replaced. All bytes before and after it stay.
pub record ReplacesAssigned (bytes text : List ℕ) (f : File Span) (path new : List ℕ) : Type 0 where
  pub span : Span
  pub is_span : assigned_span f path ≡ Some span
  pub front : List ℕ
  pub was : List ℕ
  pub back : List ℕ
  pub old : bytes ≡ front ++ (was ++ back)
  pub from : length front ≡ span.from
  pub to : length (front ++ was) ≡ span.to
  pub now : text ≡ front ++ (new ++ back)

-- All bytes stay. The new lines are between them, after a line end if the bytes before them do not end their line.
pub record InsertsLines (bytes text new : List ℕ) : Type 0 where
  pub front : List ℕ
  pub back : List ℕ
  pub break : List ℕ
  pub old : bytes ≡ front ++ back
  pub is_break : (break ≡ []) ⊎ IsLineEnd break
  pub now : text ≡ front ++ (break ++ (new ++ back))

-- What an edit of the file keeps; an appended statement is after all bytes.
abbrev pub EditKeeps : (bytes text : List ℕ) → File Span → List Lexeme → Edit → Type 0
EditKeeps bytes text f items (First path new) = KeepsIn bytes text f items (First path new) path
EditKeeps bytes text f items (After path n new) = KeepsIn bytes text f items (After path n new) path
EditKeeps bytes text f items (Remove path n) = KeepsIn bytes text f items (Remove path n) path
EditKeeps bytes text f items (Replace path n new) = KeepsIn bytes text f items (Replace path n new) path
EditKeeps bytes text f items (Wrap path n) = KeepsIn bytes text f items (Wrap path n) path × WrapsValue bytes text f path n
EditKeeps bytes text f items (RemoveStatement blank path n) = (s : Span) × (span_of_statement f path n ≡ Some s) × KeepsAround blank bytes text items s
EditKeeps bytes text f items (Append new) = (come : List ℕ) × (text ≡ bytes ++ come)
EditKeeps bytes text f items (Assign path new) = ReplacesAssigned bytes text f path new.bytes
EditKeeps bytes text f items (Lines place new) = InsertsLines bytes text new.bytes

abbrev pub EditsKeep : Type 0
EditsKeep =
    (e : Edit) (limits : Limits) (bytes : List ℕ) (f : File Span) → IsSpannedWithin limits bytes f → (items : List Lexeme) → IsItemList bytes items
    → (name : List ℕ)
    → Writes e → (t : Plain) → edited e (erase f) ≡ Some t → (primitive : Primitive) → primitive_of f e ≡ Some primitive
    → (text : List ℕ) → patched_by bytes (layout_of name items primitive) ≡ Ok text → EditKeeps bytes text f items e
