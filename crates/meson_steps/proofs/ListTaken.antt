-- A list that is read alone in the place of another one: the borders that move stay in their text, and the old list undoes it.
use Rattle.meson_steps.proofs.Words.{◌≡◌, ℕ, ◌+◌, ◌-◌, ◌<◌, ◌≤◌, List, [], ◌++◌, length, length-append, sym, ap, ap₂, ◌∙◌, subst, arith, ◌^◌, Some, joined}
use Rattle.meson_steps.proofs.Words.{Word, start, Span, furthest_list, listing_depth, list_exchanged, moved_list, moved_parsed, moved, ListAt, list_at}
use Rattle.meson_steps.proofs.Words.{list_span, IsSpannedWithin, wide, IsListText, IsSpannedListWithin, list_items, list_view, view, Bracket, Limits, Parsed}
use Rattle.meson_steps.proofs.Words.{tree_with, open-long, old-lists-look, trees-exchange, trees-exchange-back, MayShift, MayTake, SavedList, MayTakeMoved}
use Rattle.meson_steps.proofs.Words.{settled_tree}
use Rattle.meson_syntax.specs.declared.tree.List as rust
use Rattle.meson_syntax.specs.Tree.{File}
use Rattle.meson_edit.proofs.borders.Files.{trees-end}
use Rattle.meson_edit.proofs.borders.Tokens.{spots-within}
use Rattle.meson_edit.proofs.borders.Trees.{at_most, listing-ends}
use Rattle.meson_edit.proofs.kept.ListsAlone.{lists-alone}
use Rattle.meson_syntax.proofs.Told.{list_told}

-- a tree of nothing
pub no_tree : Parsed
no_tree = record { block = record { statements = []; span = record { from = 0; to = 0 } }; span = record { from = 0; to = 0 } }

-- a list's text has its brackets at least
pub list_text_some : (text : List ℕ) (b : Bracket) (words : List Word) → IsListText text b words → 1 ≤ length text
list_text_some text b words t =
    let long = open-long b [] [] t.inner t.open_item t.close_item t.is_open t.are_items.each in
    omega (arith, long, ap length t.are_items.joins)

-- and so has the text of a list of a tree
pub old_list_some : (limits : Limits) (bytes : List ℕ) (f : File Span) → IsSpannedWithin limits bytes f → (path : List ℕ) (p : ListAt Span) → list_at f path ≡ Some p
    → (front was back : List ℕ) → bytes ≡ front ++ (was ++ back) → length front ≡ (list_span p.list).from → length (front ++ was) ≡ (list_span p.list).to → 1 ≤ length was
old_list_some limits bytes f s path p is front was back parts from to =
    let own = lists-alone limits bytes f s path p is front was back parts from to (listing_depth p.list) (omega arith) in
    list_text_some was p.bracket _ own.1.reads.text

-- no border of a list that is read alone lies behind its text
pub list_ends : (depth : ℕ) (b : Bracket) (text : List ℕ) (l : rust.List) → IsSpannedListWithin depth b text (list_view text l) → furthest_list l ≤ length text
list_ends depth b text l is =
    let items = list_items is.reads.text in
    let n = length text in
    let all : 0 + length (joined items) ≤ n = omega (arith, ap length is.reads.text.are_items.joins) in
    let far = listing-ends n (list_view text l) b depth _ is.stands (spots-within n start 0 0 items (omega arith) all).0 in
    at_most (sym (ap furthest_list (list_told text l))) far

module _ (t : Parsed) (new : SavedList) (m : MayTake t new) where
  abbrev path : List ℕ
  path = new.place.path.steps

  abbrev after : List ℕ
  after = m.front ++ (m.now ++ m.back)

  -- the tree with the new list
  abbrev pub taken : Parsed
  taken = list_exchanged path new.from new.was new.now (moved_list (λ n. n + new.from) new.list) t

  before_is : length m.bytes ≡ new.from + (new.was + length m.back)
  before_is = omega (arith, ap length m.is.parts, length-append m.front (m.was ++ m.back), length-append m.was m.back, m.from_is, m.was_is)

  after_is : length after ≡ new.from + (new.now + length m.back)
  after_is = omega (arith, length-append m.front (m.now ++ m.back), length-append m.now m.back, m.from_is, m.now_is)

  was_some : 1 ≤ new.was
  was_some =
      let own = old_list_some wide m.bytes (view m.bytes t) m.is.spanned path m.p m.is.is_p m.front m.was m.back m.is.parts m.is.from m.is.to in
      omega (arith, m.was_is, own)

  now_some : 1 ≤ new.now
  now_some = omega (arith, m.now_is, list_text_some m.now m.p.bracket _ m.is.is_list.reads.text)

  pub may_shift : MayShift new.from new.was new.now t
  may_shift =
      let end = trees-end wide m.bytes t m.is.spanned in
      record {
        some = was_some;
        inside = omega (arith, end.0, before_is);
        ends = end.1;
        fits = omega (arith, end.0, before_is, after_is, m.after_fits);
      }

  pub taken_is : taken ≡ tree_with path m.front m.was m.now new.list t
  taken_is =
      ap (λ n. list_exchanged path n new.was new.now (moved_list (λ k. k + n) new.list) t) m.from_is
      ∙ ap₂ (λ w n. list_exchanged path (length m.front) w n (moved_list (λ k. k + length m.front) new.list) t) m.was_is m.now_is

  pub taken_spanned : IsSpannedWithin wide after (view after taken)
  taken_spanned = subst (λ u. IsSpannedWithin wide after (view after u)) (sym taken_is) (trees-exchange wide m.bytes t path m.p m.front m.was m.now m.back new.list m.is)

  pub may_go_back : MayShift new.from new.now new.was taken
  may_go_back =
      let end = trees-end wide after taken taken_spanned in
      record {
        some = now_some;
        inside = omega (arith, end.0, after_is);
        ends = end.1;
        fits = omega (arith, end.0, before_is, after_is, m.before_fits);
      }

  -- for a list of any number of bytes
  pub may_go_on : (len : ℕ) → (t.span.to - new.was) + len < 2 ^ 64 → MayShift new.from new.now len taken
  may_go_on len fits =
      let before = trees-end wide m.bytes t m.is.spanned in
      let end = trees-end wide after taken taken_spanned in
      record {
        some = now_some;
        inside = omega (arith, end.0, after_is);
        ends = end.1;
        fits = omega (arith, fits, before.0, end.0, before_is, after_is);
      }

  module _ (old : rust.List) (gives : (source : List ℕ) (r : ListAt Span) → list_at (view source (moved_parsed (moved (new.from + new.was) new.was new.now) t)) path ≡ Some r → list_view source old ≡ r.list) where
    -- the old list with its old span
    abbrev pub kept : rust.List
    kept = record { items = old.items; trailing = old.trailing; span = record { from = new.from; to = new.from + new.was } }

    place_is : record { from = new.from; to = new.from + new.was } ≡ list_span m.p.list
    place_is =
        let to : new.from + new.was ≡ (list_span m.p.list).to = omega (arith, length-append m.front m.was, m.is.to, m.from_is, m.was_is) in
        ap₂ (λ x y. record { from = x; to = y }) (m.from_is ∙ m.is.from) to

    gives_there : (source : List ℕ) (r : ListAt Span) → list_at (view source (moved_parsed (moved (length m.front + length m.was) (length m.was) (length m.now)) t)) path ≡ Some r → list_view source old ≡ r.list
    gives_there = λ source r is. gives source r
        (ap (λ n. list_at (view source (moved_parsed (moved (n + new.was) new.was new.now) t)) path) m.from_is
        ∙ ap₂ (λ w n. list_at (view source (moved_parsed (moved (length m.front + w) w n) t)) path) m.was_is m.now_is ∙ is)

    kept_looks : list_view m.bytes kept ≡ m.p.list
    kept_looks =
        ap (λ s. list_view m.bytes (record { items = old.items; trailing = old.trailing; span = s })) place_is
        ∙ old-lists-look wide m.bytes t path m.p m.front m.was m.now m.back new.list m.is old gives_there

    -- which gives the old tree again
    pub goes_back : list_exchanged path new.from new.now new.was kept taken ≡ t
    goes_back =
        ap (list_exchanged path new.from new.now new.was kept) taken_is
        ∙ ap (λ n. list_exchanged path n new.now new.was kept (tree_with path m.front m.was m.now new.list t)) m.from_is
        ∙ ap₂ (λ n w. list_exchanged path (length m.front) n w kept (tree_with path m.front m.was m.now new.list t)) m.now_is m.was_is
        ∙ trees-exchange-back wide m.bytes t path m.p m.front m.was m.now m.back new.list m.is kept kept_looks

-- ---- a list that was moved to its place before

module _ (t : Parsed) (new : SavedList) (m : MayTakeMoved t new) where
  abbrev pub unmoved : SavedList
  unmoved = record new { list = m.own }

  pub settled_is : settled_tree new t ≡ taken t unmoved m.takes
  settled_is = ap (λ l. list_exchanged new.place.path.steps new.from new.was new.now l t) m.moved

  pub settled_spanned : IsSpannedWithin wide (m.takes.front ++ (m.takes.now ++ m.takes.back)) (view (m.takes.front ++ (m.takes.now ++ m.takes.back)) (settled_tree new t))
  settled_spanned = subst (λ u. IsSpannedWithin wide (m.takes.front ++ (m.takes.now ++ m.takes.back)) (view (m.takes.front ++ (m.takes.now ++ m.takes.back)) u)) (sym settled_is) (taken_spanned t unmoved m.takes)
