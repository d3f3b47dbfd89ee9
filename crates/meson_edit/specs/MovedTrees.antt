-- Laws of trees that are kept while their text changes.
use Rattle.std.specs.Prelude.{◌≡◌, ℕ, List}
use Rattle.meson_lex.specs.declared.kinds.Span.{Span}
use Rattle.meson_lex.specs.Located.{Token}
use Rattle.meson_syntax.specs.declared.operator.Bracket.{Bracket}
use Rattle.meson_syntax.specs.declared.tree.List as rust
use Rattle.meson_syntax.specs.declared.tree.Parsed.{Parsed}
use Rattle.meson_syntax.specs.Tree.{Listing, File}
use Rattle.meson_syntax.specs.Spelling.{SpellsFile, SpellsListing}
use Rattle.meson_syntax.specs.View.{list_view, view}
use Rattle.meson_syntax.specs.Texts.{texts_of, texts_of_listing}
use Rattle.meson_syntax.specs.MovedCode.{moved_list, moved_parsed}
use Rattle.meson_edit.specs.Moves.{each_file, each_listing, tokens_by}
use Rattle.meson_syntax.specs.Moving.{span_by}

-- If tokens spell a tree, the moved tokens spell the moved tree, however borders move, if the first one stays.
abbrev pub FilesMove : Type 0
FilesMove = (g : ℕ → ℕ) → g 0 ≡ 0 → (f : File Span) (len depth : ℕ) (ts : List Token) → SpellsFile f len depth ts
    → SpellsFile (each_file (span_by g) f) (g len) depth (tokens_by g ts)

-- So do those of a list, and there the first border may move as well.
abbrev pub ListsMove : Type 0
ListsMove = (g : ℕ → ℕ) (l : Listing Span) (b : Bracket) (depth : ℕ) (ts : List Token) → SpellsListing l b depth ts
    → SpellsListing (each_listing (span_by g) l) b depth (tokens_by g ts)

-- ---- views

-- The view of a value of the code determines the value.
abbrev pub ViewsTell : Type 0
ViewsTell = (source : List ℕ) (t u : Parsed) → view source t ≡ view source u → t ≡ u

-- So does that of a list.
abbrev pub ListViewsTell : Type 0
ListViewsTell = (source : List ℕ) (l m : rust.List) → list_view source l ≡ list_view source m → l ≡ m

-- Over another source a tree looks the same but for its texts.
abbrev pub ViewsText : Type 0
ViewsText = (source other : List ℕ) (t : Parsed) → view source t ≡ texts_of source (view other t)

abbrev pub ListViewsText : Type 0
ListViewsText = (source other : List ℕ) (l : rust.List) → list_view source l ≡ texts_of_listing source (list_view other l)

-- A tree whose borders are moved looks as before, with its borders moved, but for its texts.
abbrev pub ViewsMove : Type 0
ViewsMove = (g : ℕ → ℕ) (source other : List ℕ) (t : Parsed)
    → view source (moved_parsed g t) ≡ texts_of source (each_file (span_by g) (view other t))

abbrev pub ListViewsMove : Type 0
ListViewsMove = (g : ℕ → ℕ) (source other : List ℕ) (l : rust.List)
    → list_view source (moved_list g l) ≡ texts_of_listing source (each_listing (span_by g) (list_view other l))
