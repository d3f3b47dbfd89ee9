-- The law that the text of one list may replace another's.
use Rattle.std.specs.Str.{IsUtf8}
use Rattle.std.specs.Prelude.{◌≡◌, ◌≤◌, ℕ, List, ◌++◌, length, Some}
use Rattle.meson_lex.specs.declared.kinds.Span.{Span}
use Rattle.meson_syntax.specs.declared.source.Limits.{Limits}
use Rattle.meson_syntax.specs.Tree.{Nowhere, Plain, Listing, File, erase}
use Rattle.meson_syntax.specs.Grammar.{LevelListing, LevelFile, file_depth}
use Rattle.meson_syntax.specs.Reads.{Fits, Spells, ReadsWithin, IsSpannedWithin}
use Rattle.meson_syntax.specs.Paths.{ListAt, list_at, list_span, inner_words}
use Rattle.meson_syntax.specs.ReadsList.{IsListText}

-- The bytes of a list may be replaced by the text of another one. Then the new text spells the tree with the other list in that place. `p` is the list among
-- the spans of the text, and `q` the same one in the tree without spans.
abbrev pub ListsExchange : Type 0
ListsExchange = (limits : Limits) (bytes : List ℕ) (f : File Span) (s : IsSpannedWithin limits bytes f) (path : List ℕ) (p : ListAt Span)
    → list_at f path ≡ Some p
    → (q : ListAt Nowhere) → list_at (erase f) path ≡ Some q
    → (l : Listing Nowhere) (text : List ℕ) → IsListText text q.bracket (inner_words l) → LevelFile (q.back l)
    → (front was back : List ℕ) → bytes ≡ front ++ (was ++ back) → length front ≡ (list_span p.list).from → length (front ++ was) ≡ (list_span p.list).to
    → Spells (front ++ (text ++ back)) (q.back l)

-- And it parses as that tree, if its length and its depth allow it and the other list's text is UTF-8.
abbrev pub ListsReadAgain : Type 0
ListsReadAgain = (limits : Limits) (bytes : List ℕ) (f : File Span) (s : IsSpannedWithin limits bytes f) (path : List ℕ) (p : ListAt Span)
    → list_at f path ≡ Some p
    → (q : ListAt Nowhere) → list_at (erase f) path ≡ Some q
    → (l : Listing Nowhere) (text : List ℕ) → IsListText text q.bracket (inner_words l) → LevelFile (q.back l)
    → (front was back : List ℕ) → bytes ≡ front ++ (was ++ back) → length front ≡ (list_span p.list).from → length (front ++ was) ≡ (list_span p.list).to
    → IsUtf8 text → Fits limits.len (length (front ++ (text ++ back))) → file_depth (q.back l) ≤ limits.depth
    → ReadsWithin limits (front ++ (text ++ back)) (q.back l)

-- The tree with the other list has its levels if the list has them.
abbrev pub ListsLevel : Type 0
ListsLevel = (t : Plain) (path : List ℕ) (q : ListAt Nowhere) → list_at t path ≡ Some q → LevelFile t → (l : Listing Nowhere) → LevelListing l q.bracket
    → LevelFile (q.back l)
