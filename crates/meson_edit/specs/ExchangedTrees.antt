-- A tree of the code in which a list is replaced, as `shift` and `put_list` do it, and put back.
use Rattle.std.specs.Prelude.{◌≡◌, ℕ, ◌+◌, List, ◌++◌, length, Some}
use Rattle.meson_lex.specs.declared.kinds.Span.{Span}
use Rattle.meson_syntax.specs.declared.source.Limits.{Limits}
use Rattle.meson_syntax.specs.declared.tree.List as rust
use Rattle.meson_syntax.specs.declared.tree.Parsed.{Parsed}
use Rattle.meson_syntax.specs.Tree.{Nowhere, erase, erase_listing}
use Rattle.meson_syntax.specs.Reads.{ReadsWithin, IsSpannedWithin}
use Rattle.meson_syntax.specs.ReadsList.{IsSpannedListWithin}
use Rattle.meson_syntax.specs.Paths.{ListAt, list_at, list_span}
use Rattle.meson_syntax.specs.View.{list_view, view}
use Rattle.meson_syntax.specs.Moving.{moved}
use Rattle.meson_syntax.specs.MovedCode.{moved_list, moved_parsed}
use Rattle.meson_syntax.specs.ListPut.{list_exchanged}

-- A text of which a tree names a list, and the text of another list that takes its place.
pub record IsExchange (limits : Limits) (bytes : List ℕ) (t : Parsed) (path : List ℕ) (p : ListAt Span) (front was now back : List ℕ)
    (new : rust.List) : Type 0 where
  pub spanned : IsSpannedWithin limits bytes (view bytes t)
  pub is_p : list_at (view bytes t) path ≡ Some p
  pub parts : bytes ≡ front ++ (was ++ back)
  pub from : length front ≡ (list_span p.list).from
  pub to : length (front ++ was) ≡ (list_span p.list).to
  pub depth : ℕ
  pub is_list : IsSpannedListWithin depth p.bracket now (list_view now new)
  pub q : ListAt Nowhere
  pub is_q : list_at (erase (view bytes t)) path ≡ Some q
  pub reads : ReadsWithin limits (front ++ (now ++ back)) (q.back (erase_listing (list_view now new)))

-- the tree with the new list, moved to where the old one begins
abbrev pub tree_with : List ℕ → (front was now : List ℕ) → rust.List → Parsed → Parsed
tree_with path front was now new t =
    list_exchanged path (length front) (length was) (length now) (moved_list (λ n. n + length front) new) t

-- The tree with the new list, moved to its place, is spelled by the new text.
abbrev pub TreesExchange : Type 0
TreesExchange = (limits : Limits) (bytes : List ℕ) (t : Parsed) (path : List ℕ) (p : ListAt Span) (front was now back : List ℕ) (new : rust.List)
    → IsExchange limits bytes t path p front was now back new
    → IsSpannedWithin limits (front ++ (now ++ back)) (view (front ++ (now ++ back)) (tree_with path front was now new t))

-- The old list is the one in the moved tree, with its old span.
abbrev pub OldListsLook : Type 0
OldListsLook = (limits : Limits) (bytes : List ℕ) (t : Parsed) (path : List ℕ) (p : ListAt Span) (front was now back : List ℕ) (new : rust.List)
    → IsExchange limits bytes t path p front was now back new
    → (old : rust.List)
    → ((source : List ℕ) (r : ListAt Span) → list_at (view source (moved_parsed (moved (length front + length was) (length was) (length now)) t)) path ≡ Some r
    → list_view source old ≡ r.list)
    → list_view bytes (record { items = old.items; trailing = old.trailing; span = list_span p.list }) ≡ p.list

-- The old list in the place of the new one again, and the borders moved back: that is the old tree, to the last border.
abbrev pub TreesExchangeBack : Type 0
TreesExchangeBack = (limits : Limits) (bytes : List ℕ) (t : Parsed) (path : List ℕ) (p : ListAt Span) (front was now back : List ℕ) (new : rust.List)
    → IsExchange limits bytes t path p front was now back new
    → (old : rust.List) → list_view bytes old ≡ p.list
    → list_exchanged path (length front) (length now) (length was) old (tree_with path front was now new t) ≡ t
