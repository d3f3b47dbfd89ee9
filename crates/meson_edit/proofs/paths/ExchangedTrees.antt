-- A tree of the code in which a list is exchanged stands in the new text, and exchanged back it is the old value.
use Rattle.meson_edit.proofs.Words.{rules, ◌≡◌, ℕ, ◌+◌, List, ◌++◌, length, Some, refl, sym, ap, subst, ◌∙◌, length-append, arith, Span, listing_depth}
use Rattle.meson_edit.proofs.Words.{with_list, moved_list, moved_parsed, span_by, moved, ListAt, list_at, list_span, ReadsWithin, IsSpannedWithin, texts_of}
use Rattle.meson_edit.proofs.Words.{texts_of_listing, Listing, listing, File, erase, erase_listing, list_view, view, Limits, Parsed, each_file, each_listing}
use Rattle.meson_edit.proofs.Words.{with_span, StaysThere}
use Rattle.meson_syntax.specs.declared.tree.Arg.TheFolds.{the_lemmas}
use Rattle.meson_syntax.specs.declared.tree.List as rust
use Rattle.meson_edit.proofs.kept.Each.{in-other, lists-map}
use Rattle.meson_edit.proofs.kept.EachErased.{listing-each}
use Rattle.meson_edit.proofs.kept.EachNothing.{lists-put-erase}
use Rattle.meson_edit.proofs.kept.Elements.{elements-stay}
use Rattle.meson_edit.proofs.kept.Kept.{lists-kept, moved-place}
use Rattle.meson_edit.proofs.kept.ListsAlone.{lists-alone}
use Rattle.meson_edit.proofs.kept.PutLists.{put-lists-look, found-lists-look, lists-texts}
use Rattle.meson_syntax.proofs.texts.Spanned.{spanned-texts}
use Rattle.meson_edit.proofs.kept.Views.{views-tell, views-move, list-views-move}
use Rattle.meson_edit.specs.ExchangedTrees.{IsExchange, tree_with, TreesExchange, OldListsLook, TreesExchangeBack}
use Rattle.meson_edit.proofs.paths.PutBack.{lists-put-back}
use Rattle.meson_edit.proofs.paths.PutThere.{lists-there}

-- What a path names in a tree that got a list, which then stands from one offset on for so many bytes: that list.
pub record FoundNew (p : ListAt Span) (bytes : List ℕ) (f : File Span) (path : List ℕ) (from len : ℕ) (l : rust.List) : Type 0 where
  pub there : ListAt Span
  pub is_there : list_at f path ≡ Some there
  pub bracket : there.bracket ≡ p.bracket
  pub list : there.list ≡ list_view bytes l
  pub span : list_span there.list ≡ record { from = from; to = len + from }

module _ (limits : Limits) (bytes : List ℕ) (t : Parsed) (path : List ℕ) (p : ListAt Span) (front was now back : List ℕ) (new : rust.List)
    (x : IsExchange limits bytes t path p front was now back new) where
  abbrev f : File Span
  f = view bytes t

  abbrev new_bytes : List ℕ
  new_bytes = front ++ (now ++ back)

  abbrev g : ℕ → ℕ
  g = moved (length (front ++ was)) (length was) (length now)

  abbrev k : Span → Span
  k = span_by (λ n. n + length front)

  -- the new list, in its place
  abbrev l : Listing Span
  l = each_listing k (list_view now new)

  abbrev u : Parsed
  u = tree_with path front was now new t

  -- what the path names in the moved tree
  there : (r : ListAt Span) × (list_at (each_file (span_by g) f) path ≡ Some r) × (r.list ≡ each_listing (span_by g) p.list) × (r.bracket ≡ p.bracket)
  there =
      let o = in-other (list_at f path) (list_at (each_file (span_by g) f) path) (lists-map (span_by g) f path) p x.is_p in
      (o.0, o.1, o.2.list, o.2.bracket)

  abbrev r : ListAt Span
  r = there.0

  same-moved : moved (length front + length was) (length was) (length now) ≡ g
  same-moved = ap (λ n. moved n (length was) (length now)) (sym (length-append front was))

  bare : erase (r.back l) ≡ x.q.back (erase_listing (list_view now new))
  bare = lists-put-erase (span_by g) f path r there.1 x.q x.is_q l ∙ ap x.q.back (listing-each k (list_view now new))

  kept : IsSpannedWithin limits new_bytes (r.back l)
  kept =
      lists-kept limits bytes f x.spanned path p x.is_p front was now back x.parts x.from x.to x.depth (list_view now new) x.is_list r there.1
      (subst (ReadsWithin limits new_bytes) (sym bare) x.reads)

  looks : view new_bytes u ≡ r.back l
  looks =
      ap (λ h. view new_bytes (with_list path (moved_list (λ n. n + length front) new) (moved_parsed h t))) same-moved
      ∙ put-lists-look new_bytes (moved_parsed g t) (each_file (span_by g) f) (views-move g new_bytes bytes t) path r there.1
      (moved_list (λ n. n + length front) new) l (list-views-move (λ n. n + length front) new_bytes now new)
      ∙ spanned-texts limits new_bytes (r.back l) kept

  stands : IsSpannedWithin limits new_bytes (view new_bytes u)
  stands = subst (IsSpannedWithin limits new_bytes) (sym looks) kept

  -- ---- the new list

  is-bare : erase (view new_bytes u) ≡ x.q.back (erase_listing (list_view now new))
  is-bare = ap erase looks ∙ bare

  put : StaysThere path r l
  put = lists-there Span (each_file (span_by g) f) path r there.1 l

  is-put : list_at (view new_bytes u) path ≡ Some put.there
  is-put = ap (λ y. list_at y path) looks ∙ put.is_there

  abbrev placed : rust.List
  placed = moved_list (λ n. n + length front) new

  found : FoundNew p new_bytes (view new_bytes u) path (length front) (length now) placed
  found = record {
    there = put.there;
    is_there = is-put;
    bracket = put.bracket ∙ there.3;
    list = sym (list-views-move (λ n. n + length front) new_bytes now new ∙ ap (texts_of_listing new_bytes) (sym put.list) ∙ sym texts-of-put);
    span = ap list_span put.list ∙ moved-place p.bracket x.depth now (list_view now new) x.is_list (length front);
  } where
    texts-of-put : put.there.list ≡ texts_of_listing new_bytes put.there.list
    texts-of-put = found-lists-look new_bytes (r.back l) path put.there put.is_there put.there (ap (λ y. list_at y path) (spanned-texts limits new_bytes (r.back l) kept) ∙ put.is_there)

  -- ---- the old list

  texts-of-old : p.list ≡ texts_of_listing bytes p.list
  texts-of-old = found-lists-look bytes f path p x.is_p p (ap (λ y. list_at y path) (spanned-texts limits bytes f x.spanned) ∙ x.is_p)

  span-texts : (s : Span) (m : Listing Span) → with_span s (texts_of_listing bytes m) ≡ texts_of_listing bytes (with_span s m)
  span-texts s (listing old trailing list) = refl

  span-view : (s : Span) (m : rust.List) → list_view bytes (record { items = m.items; trailing = m.trailing; span = s }) ≡ with_span s (list_view bytes m)
  span-view s m = search (rules, the_lemmas)

  old-looks : (old : rust.List)
      → ((source : List ℕ) (q : ListAt Span) → list_at (view source (moved_parsed (moved (length front + length was) (length was) (length now)) t)) path ≡ Some q
      → list_view source old ≡ q.list)
      → list_view bytes (record { items = old.items; trailing = old.trailing; span = list_span p.list }) ≡ p.list
  old-looks old is =
      let texts = in-other (list_at (each_file (span_by g) f) path) (list_at (texts_of bytes (each_file (span_by g) f)) path)
      (lists-texts bytes (each_file (span_by g) f) path) r there.1 in
      let found : list_at (view bytes (moved_parsed (moved (length front + length was) (length was) (length now)) t)) path ≡ Some texts.0 =
      ap (λ h. list_at (view bytes (moved_parsed h t)) path) same-moved ∙ ap (λ y. list_at y path) (views-move g bytes bytes t) ∙ texts.1 in
      let ends : length (front ++ was) ≡ (list_span p.list).to = x.to in
      let n = length-append front was in
      let sum : (list_span p.list).from + length was ≡ (list_span p.list).to = omega (arith, ends, n, x.from) in
      let stay = elements-stay limits bytes f x.spanned path p x.is_p (length was) (length now) sum in
      let moved_there = subst (λ e. with_span (list_span p.list) (each_listing (span_by (moved e (length was) (length now))) p.list) ≡ p.list) (sym ends) stay in
      span-view (list_span p.list) old
      ∙ ap (with_span (list_span p.list)) (is bytes texts.0 found ∙ texts.2.list ∙ ap (texts_of_listing bytes) there.2)
      ∙ span-texts (list_span p.list) (each_listing (span_by g) p.list)
      ∙ ap (texts_of_listing bytes) moved_there
      ∙ sym texts-of-old

  -- ---- back again

  abbrev h : ℕ → ℕ
  h = moved (length (front ++ now)) (length now) (length was)

  back-again : (old : rust.List) → list_view bytes old ≡ p.list
      → with_list path old (moved_parsed (moved (length front + length now) (length now) (length was)) u) ≡ t
  back-again old is =
      let o = in-other (list_at (r.back l) path) (list_at (each_file (span_by h) (r.back l)) path) (lists-map (span_by h) (r.back l) path) put.there put.is_there in
      let n = length-append front was in
      let alone = lists-alone limits bytes f x.spanned path p x.is_p front was back x.parts x.from x.to (listing_depth p.list) (omega arith) in
      let same = ap (λ m. moved m (length now) (length was)) (sym (length-append front now)) in
      let moved_looks : view bytes (moved_parsed h u) ≡ texts_of bytes (each_file (span_by h) (r.back l)) =
      views-move h bytes new_bytes u ∙ ap (λ y. texts_of bytes (each_file (span_by h) y)) looks in
      let put_back = put-lists-look bytes (moved_parsed h u) (each_file (span_by h) (r.back l)) moved_looks path o.0 o.1 old p.list (is ∙ texts-of-old) in
      let back_is : o.0.back p.list ≡ f = ap o.0.back (sym alone.2)
      ∙ lists-put-back limits bytes f x.spanned path p x.is_p front was now back x.parts x.from x.to x.depth (list_view now new) x.is_list r there.1 kept
      (listing_depth p.list) alone.0 alone.1 o.0 o.1 in
      ap (λ y. with_list path old (moved_parsed y u)) same
      ∙ views-tell bytes (with_list path old (moved_parsed h u)) t (put_back ∙ ap (texts_of bytes) back_is ∙ spanned-texts limits bytes f x.spanned)

pub trees-exchange : TreesExchange
trees-exchange limits bytes t path p front was now back new x = stands limits bytes t path p front was now back new x

pub old-lists-look : OldListsLook
old-lists-look limits bytes t path p front was now back new x old is = old-looks limits bytes t path p front was now back new x old is

pub trees-exchange-back : TreesExchangeBack
trees-exchange-back limits bytes t path p front was now back new x old is = back-again limits bytes t path p front was now back new x old is

pub new-list-found : (limits : Limits) (bytes : List ℕ) (t : Parsed) (path : List ℕ) (p : ListAt Span) (front was now back : List ℕ) (new : rust.List)
    → IsExchange limits bytes t path p front was now back new
    → FoundNew p (front ++ (now ++ back)) (view (front ++ (now ++ back)) (tree_with path front was now new t)) path (length front) (length now) (moved_list (λ n. n + length front) new)
new-list-found limits bytes t path p front was now back new x = found limits bytes t path p front was now back new x

pub new-tree-bare : (limits : Limits) (bytes : List ℕ) (t : Parsed) (path : List ℕ) (p : ListAt Span) (front was now back : List ℕ) (new : rust.List)
    → (x : IsExchange limits bytes t path p front was now back new)
    → erase (view (front ++ (now ++ back)) (tree_with path front was now new t)) ≡ x.q.back (erase_listing (list_view now new))
new-tree-bare limits bytes t path p front was now back new x = is-bare limits bytes t path p front was now back new x
