-- Laws of build files and their trees.
use Rattle.std.specs.Prelude.{◌≡◌, ℕ, List}
use Rattle.meson_syntax.specs.declared.operator.Bracket.{Bracket}
use Rattle.meson_lex.specs.declared.kinds.Span.{Span}
use Rattle.meson_syntax.specs.declared.source.Limits.{Limits}
use Rattle.meson_syntax.specs.Tree.{Listing, File, Plain, erase}
use Rattle.meson_syntax.specs.Reads.{Reads, IsSpanned, IsSpannedWithin}
use Rattle.meson_syntax.specs.ReadsList.{IsSpannedListWithin}

-- A text parses as at most one tree.
abbrev pub OneTree : Type 0
OneTree = (bytes : List ℕ) (s t : Plain) → Reads bytes s → Reads bytes t → s ≡ t

-- The tree that a text parses as is spelled by the text.
abbrev pub HasSpans : Type 0
HasSpans = (bytes : List ℕ) (t : Plain) → Reads bytes t → (f : File Span) × IsSpanned bytes f × (erase f ≡ t)

-- And each node is at one place.
abbrev pub OneSpannedTree : Type 0
OneSpannedTree = (bytes : List ℕ) (f g : File Span) → IsSpanned bytes f → IsSpanned bytes g → f ≡ g

-- So it is within any limits, and for two limits as well.
abbrev pub OneSpannedTreeWithin : Type 0
OneSpannedTreeWithin = (limits others : Limits) (bytes : List ℕ) (f g : File Span) → IsSpannedWithin limits bytes f → IsSpannedWithin others bytes g → f ≡ g

-- And for a text that is one list.
abbrev pub OneSpannedList : Type 0
OneSpannedList = (b : Bracket) (bytes : List ℕ) (most other : ℕ) (l m : Listing Span) → IsSpannedListWithin most b bytes l
    → IsSpannedListWithin other b bytes m → l ≡ m
