-- The splices of an edit make of the text of a tree the text of the edited tree.
use Rattle.std.specs.Str.{IsUtf8}
use Rattle.std.specs.Prelude.{◌≡◌, ◌≤◌, ℕ, List, ◌++◌, length, Some, Ok}
use Rattle.meson_lex.specs.declared.kinds.Span.{Span}
use Rattle.meson_lex.specs.Items.{Lexeme, IsItemList}
use Rattle.meson_layout.specs.declared.primitive.BlankLines.{BlankLines}
use Rattle.meson_layout.specs.declared.primitive.Primitive.{Primitive}
use Rattle.meson_layout.specs.Layout.{layout_of, IsPlaced}
use Rattle.meson_layout.specs.Edited.{patched_by}
use Rattle.meson_layout.specs.Laws.{AreTexts}
use Rattle.meson_layout.specs.Local.{IsReadyIn}
use Rattle.meson_syntax.specs.declared.source.Limits.{Limits}
use Rattle.meson_syntax.specs.Tree.{Nowhere, Plain, Listing, Argument, Expression, Statement, File, erase}
use Rattle.meson_syntax.specs.Grammar.{LevelFile, file_depth}
use Rattle.meson_syntax.specs.Paths.{ListAt, list_at, list_span, inner_words}
use Rattle.meson_syntax.specs.ReadsList.{IsListText, ReadsListWithin}
use Rattle.meson_syntax.specs.Reads.{Spells, IsSpannedWithin}
use Rattle.meson_edit.specs.Edits.{Written, LinePlace, Edit, First, After, Remove, Replace, Wrap, RemoveStatement, Append, Assign, Lines, edited}
use Rattle.meson_edit.specs.Places.{primitive_of, Writes}

-- The edit has its place among the items, and its splices give a text that spells the edited tree.
pub record MakesText (bytes : List ℕ) (f : File Span) (items : List Lexeme) (name : List ℕ) (e : Edit) (t : Plain) : Type 0 where
  pub primitive : Primitive
  pub is_primitive : primitive_of f e ≡ Some primitive
  pub placed : IsPlaced primitive items
  pub text : List ℕ
  pub patches : patched_by bytes (layout_of name items primitive) ≡ Ok text
  pub utf8 : IsUtf8 text
  pub texts : AreTexts (layout_of name items primitive)
  pub spells : Spells text t

-- Each edit of this form does so, in each file that parses as a tree, if the edited tree has its levels.
abbrev pub Spelled : Edit → Type 0
Spelled e =
    (limits : Limits) (bytes : List ℕ) (f : File Span) → IsSpannedWithin limits bytes f → (items : List Lexeme) → IsItemList bytes items → (name : List ℕ)
    → Writes e → (t : Plain) → edited e (erase f) ≡ Some t → LevelFile t → MakesText bytes f items name e t

abbrev pub FirstsSpell : Type 0
FirstsSpell = (path : List ℕ) (new : Written (Argument Nowhere)) → Spelled (First path new)

abbrev pub InsertionsSpell : Type 0
InsertionsSpell = (path : List ℕ) (n : ℕ) (new : Written (Argument Nowhere)) → Spelled (After path n new)

abbrev pub RemovalsSpell : Type 0
RemovalsSpell = (path : List ℕ) (n : ℕ) → Spelled (Remove path n)

abbrev pub ReplacementsSpell : Type 0
ReplacementsSpell = (path : List ℕ) (n : ℕ) (new : Written (Expression Nowhere)) → Spelled (Replace path n new)

abbrev pub WrapsSpell : Type 0
WrapsSpell = (path : List ℕ) (n : ℕ) → Spelled (Wrap path n)

abbrev pub StatementRemovalsSpell : Type 0
StatementRemovalsSpell = (blank : BlankLines) (path : List ℕ) (n : ℕ) → Spelled (RemoveStatement blank path n)

abbrev pub AppendedSpell : Type 0
AppendedSpell = (new : Written (Statement Nowhere)) → Spelled (Append new)

abbrev pub AssignmentsSpell : Type 0
AssignmentsSpell = (path : List ℕ) (new : Written (Expression Nowhere)) → Spelled (Assign path new)

abbrev pub LinesSpell : Type 0
LinesSpell = (place : LinePlace) (new : Written (List (Statement Nowhere))) → Spelled (Lines place new)

-- ---- what is written

-- Of the text only the bytes of a list are replaced: those of the list that the tree `t` has there.
pub record WritesList (bytes text : List ℕ) (f : File Span) (path : List ℕ) (p : ListAt Span) (t : Plain) : Type 0 where
  -- the list in the tree without spans, and the one that takes its place
  pub q : ListAt Nowhere
  pub is_q : list_at (erase f) path ≡ Some q
  pub bracket : q.bracket ≡ p.bracket
  pub list : Listing Nowhere
  pub is_tree : q.back list ≡ t
  -- the bytes before the list, of the old list, of the new one, and after it
  pub front : List ℕ
  pub was : List ℕ
  pub now : List ℕ
  pub back : List ℕ
  pub old : bytes ≡ front ++ (was ++ back)
  pub new : text ≡ front ++ (now ++ back)
  pub from : length front ≡ (list_span p.list).from
  pub to : length (front ++ was) ≡ (list_span p.list).to
  pub is_text : IsListText now q.bracket (inner_words list)
  pub utf8 : IsUtf8 now

-- the list that an edit changes
abbrev pub IsEditOf : List ℕ → Edit → Type 0
IsEditOf path (First list new) = path ≡ list
IsEditOf path (After list n new) = path ≡ list
IsEditOf path (Remove list n) = path ≡ list
IsEditOf path (Replace list n new) = path ≡ list
IsEditOf path (Wrap list n) = path ≡ list
IsEditOf path (RemoveStatement blank block n) = ⊥
IsEditOf path (Append new) = ⊥
IsEditOf path (Assign assignment new) = ⊥
IsEditOf path (Lines place new) = ⊥

-- An edit of a list changes no byte outside that list, and in its place writes the text of the edited list.
abbrev pub ListEditsWrite : Type 0
ListEditsWrite =
    (e : Edit) (limits : Limits) (bytes : List ℕ) (f : File Span) → IsSpannedWithin limits bytes f → (items : List Lexeme) → IsItemList bytes items
    → (name : List ℕ)
    → Writes e → (t : Plain) → edited e (erase f) ≡ Some t → (path : List ℕ) → IsEditOf path e → (p : ListAt Span) → list_at f path ≡ Some p
    → (primitive : Primitive) → primitive_of f e ≡ Some primitive → (text : List ℕ) → patched_by bytes (layout_of name items primitive) ≡ Ok text
    → WritesList bytes text f path p t

-- An edit of a list reads that list alone.
abbrev pub ListEditsLook : Type 0
ListEditsLook =
    (e : Edit) (limits : Limits) (bytes : List ℕ) (f : File Span) → IsSpannedWithin limits bytes f → Writes e → (t : Plain) → edited e (erase f) ≡ Some t
    → (path : List ℕ) → IsEditOf path e
    → (p : ListAt Span) → list_at f path ≡ Some p → (primitive : Primitive) → primitive_of f e ≡ Some primitive → IsReadyIn bytes (list_span p.list) primitive

-- What an edit writes in the place of a list parses by itself as the edited list, within the depth of the edited file.
abbrev pub WrittenListsRead : Type 0
WrittenListsRead = (bytes text : List ℕ) (f : File Span) (path : List ℕ) (p : ListAt Span) (t : Plain) (w : WritesList bytes text f path p t) → LevelFile t
    → (depth : ℕ) → file_depth t ≤ depth → ReadsListWithin depth w.q.bracket w.now w.list
