-- What is there after values are put in their places in a list: its elements in their order, and where it was in order for the values, it still is.
use Rattle.std.specs.Prelude.{◌≡◌, ◌≢◌, ℕ, ◌&&◌, true, List, [], ◌∷◌, map, insert, is_some, Some, All}
use Rattle.std.specs.List.{AllPairs, list_all}
use Rattle.meson_lex.specs.declared.kinds.Span.{Span}
use Rattle.meson_splice.specs.Files.{bytes_at}
use Rattle.meson_syntax.specs.Paths.{ListAt, list_at, nth}
use Rattle.meson_syntax.specs.Tree.{Argument, plain, Expression, Nowhere, Plain}
use Rattle.meson_edit.specs.Edits.{elements, with_elements}
use Rattle.meson_calls.specs.declared.call.CallRef.{CallRef}
use Rattle.meson_calls.specs.Loading.{Loaded}
use Rattle.meson_steps.specs.Order.{ascend, is_order, may_be_ordered}
use Rattle.meson_steps.specs.OrderedLists.{Added, Ordered, all_elements, sort_keys}
use Rattle.meson_steps.specs.Steps.{changed_at}
use Rattle.meson_steps.specs.declared.given.Given.{Given}
use Rattle.meson_steps.specs.declared.order.SortKey.{SortKey}
use Rattle.meson_places.specs.Equality.{lists_say}
use Rattle.meson_places.specs.Several.{AllMayBeGiven}
use Rattle.meson_places.specs.SortedAdditions.{fresh_added, order_of}
use Rattle.meson_places.specs.ValueLists.{ValueList, last_of, lists_of}

-- These elements, in their order, and among them each of these values once.
abbrev pub AreAmong : (xs : List (Argument Nowhere)) → (new : List (Expression Nowhere)) → (all : List (Argument Nowhere)) → Type 0
AreAmong xs [] all = all ≡ xs
AreAmong xs (e ∷ es) all = (n : ℕ) × AreAmong (insert xs n (plain e)) es all

-- A list is in order for each of some values, and another one may be put in front of it. No element has the key of a value, and no two values have the same.
pub record IsInOrderFor (o : Ordered) (new : List SortKey) : Type 0 where
  pub each : list_all (λ k. may_be_ordered k && is_order k o.keys) new ≡ true
  pub front : is_some o.first ≡ true
  pub others : All (λ k. All (λ l. l ≢ k) o.keys) new
  pub distinct : AllPairs (λ k l. k ≢ l) new

-- The list there has its elements and these values among them, each in its place, and all else in the trees is as it was. Where it was in order for the values,
-- it still is.
pub record HasAmong (list : CallRef) (o : Ordered) (new : List Added) (before after : List Plain) : Type 0 where
  pub tree : Plain
  pub is_tree : nth before list.file ≡ Some tree
  pub place : ListAt Nowhere
  pub is_place : list_at tree list.path.steps ≡ Some place
  pub now : List (Argument Nowhere)
  pub are : now ≡ all_elements o new (elements place.list)
  pub among : AreAmong (elements place.list) (map (λ a. a.written.node) new) now
  pub in_order : IsInOrderFor o (map (λ a. a.key) new) → ascend (sort_keys now) ≡ true
  pub is_after : changed_at list.file (λ t. Some (place.back (with_elements place.list now))) before ≡ Some after

-- the same, and nothing is changed where there are none
abbrev pub AlsoAmong : CallRef → Ordered → (new : List Added) → (before after : List Plain) → Type 0
AlsoAmong list o [] before after = after ≡ before
AlsoAmong list o (a ∷ more) before after = HasAmong list o (a ∷ more) before after

-- The last list of a value has also the new ones, each in its place.
pub record SortedInto (old : Loaded) (gs : List Given) (may : AllMayBeGiven gs) (c : CallRef) (e : Expression Span) (before after : List Plain) : Type 0 where
  pub list : ValueList Span
  pub is_last : last_of (lists_of c e) ≡ Some list
  pub now : AlsoAmong list.place (order_of (bytes_at c.file old.files) list) (fresh_added (lists_say (bytes_at c.file old.files) (lists_of c e)) [] gs may)
      before after
