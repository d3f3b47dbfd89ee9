-- A list in a text may be replaced by another one. Then the new text's tree is the old tree, moved, with the other list in that place.
use Rattle.std.specs.Prelude.{◌≡◌, ◌≤◌, ℕ, ◌+◌, List, ◌++◌, length, Some}
use Rattle.meson_lex.specs.declared.kinds.Span.{Span}
use Rattle.meson_syntax.specs.declared.source.Limits.{Limits}
use Rattle.meson_syntax.specs.Tree.{Nowhere, Listing, File, erase, erase_listing}
use Rattle.meson_syntax.specs.Grammar.{listing_depth}
use Rattle.meson_syntax.specs.Reads.{ReadsWithin, IsSpannedWithin}
use Rattle.meson_syntax.specs.ReadsList.{IsSpannedListWithin}
use Rattle.meson_syntax.specs.Paths.{ListAt, list_at, list_span}
use Rattle.meson_edit.specs.Moves.{each_file, each_listing}
use Rattle.meson_syntax.specs.Moving.{span_by, moved}

-- The bytes of a list are replaced by the text of another one. The new text parses as the tree with that list in place of the old one. Then the nodes of the
-- old tree are where it says, with each border after the list moved. The nodes of the other list are where it says, moved to its place.
abbrev pub ListsKept : Type 0
ListsKept = (limits : Limits) (bytes : List ℕ) (f : File Span) → IsSpannedWithin limits bytes f → (path : List ℕ) (p : ListAt Span) → list_at f path ≡ Some p
    → (front was now back : List ℕ) → bytes ≡ front ++ (was ++ back) → length front ≡ (list_span p.list).from → length (front ++ was) ≡ (list_span p.list).to
    → (depth : ℕ) (l : Listing Span) → IsSpannedListWithin depth p.bracket now l
    → (r : ListAt Span) → list_at (each_file (span_by (moved (length (front ++ was)) (length was) (length now))) f) path ≡ Some r
    → ReadsWithin limits (front ++ (now ++ back)) (erase (r.back (each_listing (span_by (λ n. n + length front)) l)))
    → IsSpannedWithin limits (front ++ (now ++ back)) (r.back (each_listing (span_by (λ n. n + length front)) l))

-- Without its spans the moved tree with a list is the old one with that list, whatever the spans of either.
abbrev pub ListsPutErase : Type 0
ListsPutErase = (h : Span → Span) (f : File Span) (path : List ℕ) (r : ListAt Span) → list_at (each_file h f) path ≡ Some r
    → (q : ListAt Nowhere) → list_at (erase f) path ≡ Some q → (l : Listing Span) → erase (r.back l) ≡ q.back (erase_listing l)

-- A list of a tree is the list that is parsed from its own bytes, moved to its place.
abbrev pub ListsAlone : Type 0
ListsAlone = (limits : Limits) (bytes : List ℕ) (f : File Span) → IsSpannedWithin limits bytes f → (path : List ℕ) (p : ListAt Span) → list_at f path ≡ Some p
    → (front was back : List ℕ) → bytes ≡ front ++ (was ++ back) → length front ≡ (list_span p.list).from → length (front ++ was) ≡ (list_span p.list).to
    → (depth : ℕ) → listing_depth p.list ≤ depth
    → (l : Listing Span) × IsSpannedListWithin depth p.bracket was l × (each_listing (span_by (λ n. n + length front)) l ≡ p.list)
