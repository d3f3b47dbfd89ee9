-- A replacement of a list is undone by the replacement back.
use Rattle.std.specs.Prelude.{◌≡◌, ℕ, ◌+◌, List, ◌++◌, length, Some}
use Rattle.meson_lex.specs.declared.kinds.Span.{Span}
use Rattle.meson_syntax.specs.declared.source.Limits.{Limits}
use Rattle.meson_syntax.specs.Tree.{Listing, File}
use Rattle.meson_syntax.specs.Reads.{IsSpannedWithin}
use Rattle.meson_syntax.specs.ReadsList.{IsSpannedListWithin}
use Rattle.meson_syntax.specs.Paths.{ListAt, list_at, list_span}
use Rattle.meson_edit.specs.Moves.{each_file, each_listing}
use Rattle.meson_syntax.specs.Moving.{span_by, moved}

-- A list was replaced by another one and is parsed again from its old bytes. Then take the tree with that list in its old place, and with the borders after it
-- moved back. It is the tree that was there before, to the last border.
abbrev pub ListsPutBack : Type 0
ListsPutBack = (limits : Limits) (bytes : List ℕ) (f : File Span) → IsSpannedWithin limits bytes f → (path : List ℕ) (p : ListAt Span) → list_at f path ≡ Some p
    → (front was now back : List ℕ) → bytes ≡ front ++ (was ++ back) → length front ≡ (list_span p.list).from → length (front ++ was) ≡ (list_span p.list).to
    → (depth : ℕ) (l : Listing Span) → IsSpannedListWithin depth p.bracket now l
    → (r : ListAt Span) → list_at (each_file (span_by (moved (length (front ++ was)) (length was) (length now))) f) path ≡ Some r
    → IsSpannedWithin limits (front ++ (now ++ back)) (r.back (each_listing (span_by (λ n. n + length front)) l))
    → (other : ℕ) (m : Listing Span) → IsSpannedListWithin other p.bracket was m
    → (u : ListAt Span)
    → list_at (each_file (span_by (moved (length (front ++ now)) (length now) (length was))) (r.back (each_listing (span_by (λ n. n + length front)) l))) path
    ≡ Some u
    → u.back (each_listing (span_by (λ n. n + length front)) m) ≡ f
