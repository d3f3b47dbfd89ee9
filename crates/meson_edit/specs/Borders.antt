-- The furthest borders of trees.
use Rattle.std.specs.Prelude.{◌≡◌, ℕ, ◌≤◌, List, length}
use Rattle.meson_syntax.specs.declared.operator.Bracket.{Bracket}
use Rattle.meson_syntax.specs.declared.source.Limits.{Limits}
use Rattle.meson_syntax.specs.declared.tree.List as rust
use Rattle.meson_syntax.specs.declared.tree.Parsed.{Parsed}
use Rattle.meson_syntax.specs.Furthest.{furthest, furthest_list}
use Rattle.meson_syntax.specs.Reads.{IsSpannedWithin}
use Rattle.meson_syntax.specs.ReadsList.{IsSpannedList}
use Rattle.meson_syntax.specs.View.{list_view, view}

-- The tree of a text ends where the text ends, and no border of it is after that.
abbrev pub TreesEnd : Type 0
TreesEnd = (limits : Limits) (source : List ℕ) (t : Parsed) → IsSpannedWithin limits source (view source t)
    → (t.span.to ≡ length source) × (furthest t ≤ t.span.to)

-- No border of a list that is read alone is after its text.
abbrev pub ListsEnd : Type 0
ListsEnd = (b : Bracket) (source : List ℕ) (l : rust.List) → IsSpannedList b source (list_view source l) → furthest_list l ≤ length source
