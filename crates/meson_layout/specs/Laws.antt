-- What the splices of an edit within a list make of the text. Between the same brackets is the edited list, and all else keeps its bytes.
use Rattle.std.specs.Str.{IsUtf8}
use Rattle.std.specs.Prelude.{◌≡◌, ℕ, List, [], ◌∷◌, ◌++◌, ◌⊎◌, length, Some, Ok}
use Rattle.meson_lex.specs.declared.kinds.Kind.TheVariants.{OpenSquare, CloseSquare}
use Rattle.meson_lex.specs.declared.kinds.Span.{Span}
use Rattle.meson_lex.specs.Items.{Lexeme, joined, IsItemList}
use Rattle.meson_lex.specs.Significant.{Word}
use Rattle.meson_splice.specs.declared.file_set.File.{File}
use Rattle.meson_splice.specs.declared.splice.Splice.{Splice}
use Rattle.meson_splice.specs.Files.{position_of_file, bytes_at, with_bytes}
use Rattle.meson_splice.specs.Patch.{patched_all}
use Rattle.meson_layout.specs.declared.primitive.Primitive.{Primitive}
use Rattle.meson_layout.specs.declared.primitive.Primitive.TheVariants.{First, After, Remove, Replace, Wrap, RemoveStatement, Append, Lines}
use Rattle.meson_layout.specs.Layout.{layout_of}
use Rattle.meson_lex.specs.Words.{spoken}
use Rattle.meson_layout.specs.Words.{remarks, comma_word, IsBehindElement, IsBeforeElement, IsBeforeValue}
use Rattle.meson_layout.specs.Edited.{ListOfItems, PartIn, IsNew, Edited, patched_by}

-- The first element of an empty list.
abbrev pub FirstLaw : Type 0
FirstLaw = (file source : List ℕ) (items : List Lexeme) → IsItemList source items → (l : ListOfItems items) → spoken l.inner ≡ []
    → (at : ℕ) → at ≡ length (joined l.front) → (new : List ℕ) (fresh : List Lexeme) → IsNew new fresh
    → Edited source items l [] l.inner (layout_of file items (First at new)) (spoken fresh) (remarks l.inner)

-- A new element after another one: its words are added after a comma. No comment and no continuation is removed.
abbrev pub InsertionLaw : Type 0
InsertionLaw = (file source : List ℕ) (items : List Lexeme) → IsItemList source items → (l : ListOfItems items) (s : Span) (p : PartIn items l s)
    → IsBehindElement (spoken p.right)
    → (new : List ℕ) (fresh : List Lexeme) → IsNew new fresh
    → Edited source items l (p.left ++ p.own) p.right (layout_of file items (After s new))
    (spoken p.left ++ (spoken p.own ++ comma_word ∷ (spoken fresh ++ spoken p.right))) (remarks l.inner)

-- the words of a list without an element, by those before and after it: the comma after it is removed, else the one before it
abbrev pub IsWithout : List Word → List Word → List Word → Type 0
IsWithout left right words =
    ((more : List Word) × (right ≡ comma_word ∷ more) × (words ≡ left ++ more))
    ⊎ ((front : List Word) × (right ≡ []) × (left ≡ front ++ comma_word ∷ []) × (words ≡ front))
    ⊎ ((right ≡ []) × (left ≡ []) × (words ≡ []))

-- An element removed: its own comments and continuations are removed, and no others.
abbrev pub RemovalLaw : Type 0
RemovalLaw = (file source : List ℕ) (items : List Lexeme) → IsItemList source items → (l : ListOfItems items) (s : Span) (p : PartIn items l s)
    → IsBeforeElement (spoken p.left) → IsBehindElement (spoken p.right) → (words : List Word) → IsWithout (spoken p.left) (spoken p.right) words
    → Edited source items l p.left p.right (layout_of file items (Remove s)) words (remarks p.left ++ remarks p.right)

-- A value that is replaced by another one.
abbrev pub ReplacementLaw : Type 0
ReplacementLaw = (file source : List ℕ) (items : List Lexeme) → IsItemList source items → (l : ListOfItems items) (s : Span) (p : PartIn items l s)
    → IsBeforeValue (spoken p.left) → IsBehindElement (spoken p.right) → (new : List ℕ) (fresh : List Lexeme) → IsNew new fresh
    → Edited source items l p.left p.right (layout_of file items (Replace s new)) (spoken p.left ++ (spoken fresh ++ spoken p.right))
    (remarks p.left ++ remarks p.right)

-- A value that is replaced by the array of it.
abbrev pub WrapLaw : Type 0
WrapLaw = (file source : List ℕ) (items : List Lexeme) → IsItemList source items → (l : ListOfItems items) (s : Span) (p : PartIn items l s)
    → IsBeforeValue (spoken p.left) → IsBehindElement (spoken p.right)
    → Edited source items l p.left p.right (layout_of file items (Wrap s))
    (spoken p.left ++ ((OpenSquare, []) ∷ (spoken p.own ++ (CloseSquare, []) ∷ spoken p.right))) (remarks l.inner)

-- It is one splice, and the value keeps its bytes.
abbrev pub WrapKeeps : Type 0
WrapKeeps = (file source : List ℕ) (items : List Lexeme) → IsItemList source items → (l : ListOfItems items) (s : Span) (p : PartIn items l s)
    → layout_of file items (Wrap s) ≡ record { file = file; at = s.from; was = joined p.own; now = 91 ∷ (joined p.own ++ 93 ∷ []) } ∷ []

-- In a set of files the splices of an edit change the one file, and in the same way.
abbrev pub FilesLaw : Type 0
FilesLaw = (files : List File) (i : ℕ) (file source text : List ℕ) (items : List Lexeme) (primitive : Primitive) → position_of_file file files ≡ Some i
    → bytes_at i files ≡ source
    → patched_by source (layout_of file items primitive) ≡ Ok text → patched_all files (layout_of file items primitive) ≡ Ok (with_bytes i text files)

-- what is new is UTF-8
abbrev pub WritesUtf8 : Primitive → Type 0
WritesUtf8 (First bracket new) = IsUtf8 new
WritesUtf8 (After element new) = IsUtf8 new
WritesUtf8 (Remove element) = Unit {0}
WritesUtf8 (Replace value new) = IsUtf8 new
WritesUtf8 (Wrap value) = Unit {0}
WritesUtf8 (RemoveStatement statement blank) = Unit {0}
WritesUtf8 (Append new) = IsUtf8 new
WritesUtf8 (Lines spot new) = IsUtf8 new

-- each item is UTF-8
abbrev pub AreUtf8 : List Lexeme → Type 0
AreUtf8 [] = Unit {0}
AreUtf8 (x ∷ xs) = IsUtf8 x.text × AreUtf8 xs

-- If each item is UTF-8, the splices of an edit make a text in UTF-8.
abbrev pub CodingLaw : Type 0
CodingLaw = (file source : List ℕ) (items : List Lexeme) → IsItemList source items → AreUtf8 items → (primitive : Primitive) → WritesUtf8 primitive
    → (text : List ℕ) → patched_by source (layout_of file items primitive) ≡ Ok text → IsUtf8 text

-- both texts of each splice are UTF-8
abbrev pub AreTexts : List Splice → Type 0
AreTexts [] = Unit {0}
AreTexts (s ∷ ss) = (IsUtf8 s.was × IsUtf8 s.now) × AreTexts ss

-- If each item is UTF-8, so is what the splices of an edit remove and insert.
abbrev pub TextsLaw : Type 0
TextsLaw = (file : List ℕ) (items : List Lexeme) → AreUtf8 items → (primitive : Primitive) → WritesUtf8 primitive → AreTexts (layout_of file items primitive)
