-- Laws of the trees of the code while lists are put in them.
use Rattle.std.specs.Prelude.{◌≡◌, ℕ, ◌+◌, List, Some}
use Rattle.meson_lex.specs.declared.kinds.Span.{Span}
use Rattle.meson_syntax.specs.declared.source.Limits.{Limits}
use Rattle.meson_syntax.specs.declared.tree.List as rust
use Rattle.meson_syntax.specs.declared.tree.Parsed.{Parsed}
use Rattle.meson_syntax.specs.Tree.{Listing, listing, File}
use Rattle.meson_syntax.specs.Reads.{IsSpannedWithin}
use Rattle.meson_syntax.specs.View.{list_view, view}
use Rattle.meson_syntax.specs.Texts.{texts_of, texts_of_listing}
use Rattle.meson_edit.specs.Moves.{each_listing}
use Rattle.meson_syntax.specs.Moving.{span_by, moved}
use Rattle.meson_syntax.specs.Paths.{ListAt, list_at, list_span}
use Rattle.meson_syntax.specs.ListPut.{with_list}

-- A tree of the code looks like a tree but for its texts. It still does so when a list is put in both, if the two lists look alike.
abbrev pub PutListsLook : Type 0
PutListsLook = (source : List ℕ) (t : Parsed) (f : File Span) → view source t ≡ texts_of source f → (path : List ℕ) (r : ListAt Span) → list_at f path ≡ Some r
    → (l : rust.List) (m : Listing Span) → list_view source l ≡ texts_of_listing source m → view source (with_list path l t) ≡ texts_of source (r.back m)

-- And what a path names in it looks like that list of the tree.
abbrev pub FoundListsLook : Type 0
FoundListsLook = (source : List ℕ) (f : File Span) (path : List ℕ) (r : ListAt Span) → list_at f path ≡ Some r
    → (p : ListAt Span) → list_at (texts_of source f) path ≡ Some p → p.list ≡ texts_of_listing source r.list

-- a list with another span for that from its opening bracket to its closing one
abbrev pub with_span : Span → Listing Span → Listing Span
with_span s (listing old trailing list) = listing s trailing list

-- If the borders from a list's end on move, its elements stay where they are.
abbrev pub ElementsStay : Type 0
ElementsStay = (limits : Limits) (bytes : List ℕ) (f : File Span) → IsSpannedWithin limits bytes f → (path : List ℕ) (p : ListAt Span) → list_at f path ≡ Some p
    → (was now : ℕ) → (list_span p.list).from + was ≡ (list_span p.list).to
    → with_span (list_span p.list) (each_listing (span_by (moved (list_span p.list).to was now)) p.list) ≡ p.list
