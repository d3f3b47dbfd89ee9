-- A list that is held back: where it is looked at, and what a further step makes of it.
use Rattle.meson_steps.proofs.Words.{◌≡◌, ℕ, ◌+◌, ◌-◌, ◌<◌, List, ◌++◌, length, length-append, Some, sym, ap, ap₂, ◌∙◌, subst, arith, ◌^◌, bytes_at, Splice}
use Rattle.meson_steps.proofs.Words.{Span, moved_list, ListAt, list_at, list_span, IsSpannedWithin, ReadsWithin, wide, IsSpannedListWithin, Listing, Nowhere}
use Rattle.meson_steps.proofs.Words.{erase, erase_listing, list_view, view, Bracket, Parsed, some-injective, tree_with, FoundNew, new-list-found, new-tree-bare}
use Rattle.meson_steps.proofs.Words.{lists-there, CallRef, list_is, wide_depth, bytes_again, MayChangeList, MayReadList, spot_at, HeldList, SavedList, ListSpot}
use Rattle.meson_steps.proofs.Words.{Work, IsHeldOf, IsReadAgain, MayTakeMoved, settled_tree, list_again}
use Rattle.meson_syntax.specs.declared.tree.List as rust
use Rattle.meson_syntax.proofs.lists.Cuts.{same-cut}
use Rattle.meson_steps.proofs.ListChanged.{at_spot}
use Rattle.meson_steps.proofs.ListTaken.{settled_is, settled_spanned, taken_is, unmoved}
use Rattle.meson_steps.proofs.PatchedFiles.{same_files}
use Rattle.meson_steps.proofs.ReadAgain.{again_is}

-- ---- the first step on a list

module _ (old new : Work) (place : CallRef) (splices : List Splice) (t : Parsed) (m : MayChangeList old.files place splices t) (s : ListSpot) (same : spot_at m.p ≡ s)
    (list : rust.List) (bytes : ℕ) (r : IsReadAgain old new place.file splices s (at_spot old.files place.file splices (spot_at m.p) s m.text same) list bytes) where
  abbrev x : MayReadList old.files place.file splices (spot_at m.p)
  x = m.text

  text_is : bytes_at place.file new.files ≡ x.front ++ (x.now ++ x.back)
  text_is = ap (bytes_at place.file) (same_files new.files x.files _ r.are_files x.is) ∙ x.new

  from_is : s.span.from ≡ length x.front
  from_is = sym (ap (λ (y : ListSpot). y.span.from) same) ∙ sym x.from

  to_is : s.span.to ≡ length (x.front ++ x.was)
  to_is = sym (ap (λ (y : ListSpot). y.span.to) same) ∙ sym x.to

  was_is : s.span.to - s.span.from ≡ length x.was
  was_is = omega (arith, from_is, to_is, length-append x.front x.was)

  abbrev pub first_held : SavedList
  first_held = record { place = place; list = list; from = s.span.from; was = s.span.to - s.span.from; now = bytes }

  first_takes : MayTakeMoved t first_held
  first_takes = record {
    own = r.own;
    moved = r.moved;
    takes = record {
      bytes = bytes_at place.file old.files;
      p = m.p;
      front = x.front;
      was = x.was;
      now = x.now;
      back = x.back;
      is = record {
        spanned = m.spanned;
        is_p = m.is_p;
        parts = x.old;
        from = x.from;
        to = x.to;
        depth = wide_depth;
        is_list = subst (λ (y : ListSpot). IsSpannedListWithin wide_depth y.bracket x.now (list_view x.now r.own)) (sym same) r.is_own;
        q = m.q;
        is_q = m.is_q;
        reads = subst (λ l. ReadsWithin wide (x.front ++ (x.now ++ x.back)) (m.q.back l)) (sym r.found) m.reads;
      };
      from_is = from_is;
      was_is = was_is;
      now_is = r.size;
      before_fits = r.before_fits;
      after_fits = subst (λ b. length b < 2 ^ 64) text_is r.after_fits;
    };
  }

  pub first_of : IsHeldOf t (bytes_at place.file new.files) (record { bracket = s.bracket; list = first_held })
  unfolding first_takes
  first_of = record { of = first_takes; bracket = sym (ap (λ (y : ListSpot). y.bracket) same); text = text_is }

  pub first_read : IsSpannedWithin wide (bytes_at place.file new.files) (view (bytes_at place.file new.files) (settled_tree first_held t))
  unfolding first_takes
  first_read = subst (λ b. IsSpannedWithin wide b (view b (settled_tree first_held t))) (sym text_is) (settled_spanned t first_held first_takes)

  pub first_again : list_again old.files new.files place t ≡ bytes
  first_again =
      ap (λ o. bytes_again o (bytes_at place.file old.files) (bytes_at place.file new.files)) m.is_p
      ∙ again_is m.p (bytes_at place.file old.files) (bytes_at place.file new.files) x.front x.was x.now x.back x.old text_is x.from x.to ∙ sym r.size

-- ---- where a held list is looked at

module _ (t : Parsed) (bytes : List ℕ) (h : HeldList) (of : IsHeldOf t bytes h) where
  abbrev path : List ℕ
  path = h.list.place.path.steps

  abbrev moved_own : rust.List
  moved_own = moved_list (λ n. n + length of.of.takes.front) of.of.own

  abbrev held_text : List ℕ
  held_text = of.of.takes.front ++ (of.of.takes.now ++ of.of.takes.back)

  own_is : h.list.list ≡ moved_own
  own_is = of.of.moved ∙ ap (λ k. moved_list (λ n. n + k) of.of.own) of.of.takes.from_is

  tree_is : settled_tree h.list t ≡ tree_with path of.of.takes.front of.of.takes.was of.of.takes.now of.of.own t
  tree_is = settled_is t h.list of.of ∙ taken_is t (unmoved t h.list of.of) of.of.takes

  pub held_found : FoundNew of.of.takes.p bytes (view bytes (settled_tree h.list t)) path (length of.of.takes.front) (length of.of.takes.now) h.list.list
  held_found =
      subst (λ b. FoundNew of.of.takes.p b (view b (settled_tree h.list t)) path (length of.of.takes.front) (length of.of.takes.now) h.list.list) (sym of.text)
      (subst (λ u. FoundNew of.of.takes.p held_text (view held_text u) path (length of.of.takes.front) (length of.of.takes.now) h.list.list) (sym tree_is)
      (subst (FoundNew of.of.takes.p held_text (view held_text (tree_with path of.of.takes.front of.of.takes.was of.of.takes.now of.of.own t)) path (length of.of.takes.front) (length of.of.takes.now)) (sym own_is)
      (new-list-found wide of.of.takes.bytes t path of.of.takes.p of.of.takes.front of.of.takes.was of.of.takes.now of.of.takes.back of.of.own of.of.takes.is)))

  pub held_bare : erase (view bytes (settled_tree h.list t)) ≡ of.of.takes.is.q.back (erase_listing (list_view of.of.takes.now of.of.own))
  held_bare =
      ap (λ b. erase (view b (settled_tree h.list t))) of.text ∙ ap (λ u. erase (view held_text u)) tree_is
      ∙ new-tree-bare wide of.of.takes.bytes t path of.of.takes.p of.of.takes.front of.of.takes.was of.of.takes.now of.of.takes.back of.of.own of.of.takes.is

  -- as the code has it
  abbrev pub held_spot : ListSpot
  held_spot = record { bracket = h.bracket; span = (rust.out-List h.list.list).span }

  pub held_spot_is : spot_at held_found.there ≡ held_spot
  held_spot_is =
      ap₂ (λ (b : Bracket) (z : Span). record { bracket = b; span = z }) (held_found.bracket ∙ sym of.bracket)
      (ap list_span (held_found.list ∙ list_is bytes h.list.list))

  pub held_from : (rust.out-List h.list.list).span ≡ record { from = length of.of.takes.front; to = length of.of.takes.now + length of.of.takes.front }
  held_from = ap (λ (y : ListSpot). y.span) (sym held_spot_is) ∙ held_found.span

-- ---- a further step

module _ (old new : Work) (h : HeldList) (splices : List Splice) (t : Parsed) (of : IsHeldOf t (bytes_at h.list.place.file old.files) h)
    (m : MayChangeList old.files h.list.place splices (settled_tree h.list t)) where
  abbrev file : ℕ
  file = h.list.place.file

  abbrev cur : List ℕ
  cur = bytes_at file old.files

  there_is : (held_found t cur h of).there ≡ m.p
  there_is = some-injective _ _ (sym (held_found t cur h of).is_there ∙ m.is_p)

  pub again_spot : spot_at m.p ≡ held_spot t cur h of
  again_spot = sym (ap spot_at there_is) ∙ held_spot_is t cur h of

  abbrev spot : ListSpot
  spot = held_spot t cur h of

  abbrev text : MayReadList old.files file splices (spot_at m.p)
  text = m.text

  -- the text around the list is the one around the first list
  cut_from : length text.front ≡ length of.of.takes.front
  cut_from = text.from ∙ ap (λ (y : ListSpot). y.span.from) again_spot ∙ ap (λ (z : Span). z.from) (held_from t cur h of)

  cut_to : length (text.front ++ text.was) ≡ length of.of.takes.now + length of.of.takes.front
  cut_to = text.to ∙ ap (λ (y : ListSpot). y.span.to) again_spot ∙ ap (λ (z : Span). z.to) (held_from t cur h of)

  first_cut : (text.front ≡ of.of.takes.front) × (text.was ++ text.back ≡ of.of.takes.now ++ of.of.takes.back)
  first_cut = same-cut text.front (text.was ++ text.back) of.of.takes.front (of.of.takes.now ++ of.of.takes.back) (sym text.old ∙ of.text) cut_from

  back_is : text.back ≡ of.of.takes.back
  back_is =
      let n : length text.was ≡ length of.of.takes.now = omega (arith, cut_from, cut_to, length-append text.front text.was) in
      (same-cut text.was text.back of.of.takes.now of.of.takes.back first_cut.1 n).1

  -- and so is the tree around it
  around_is : (l : Listing Nowhere) → m.q.back l ≡ of.of.takes.is.q.back l
  around_is l =
      let q = of.of.takes.is.q in
      let put = lists-there Nowhere (erase (view of.of.takes.bytes t)) h.list.place.path.steps q of.of.takes.is.is_q (erase_listing (list_view of.of.takes.now of.of.own)) in
      let found : list_at (erase (view cur (settled_tree h.list t))) h.list.place.path.steps ≡ Some put.there =
      ap (λ f. list_at f h.list.place.path.steps) (held_bare t cur h of) ∙ put.is_there in
      ap (λ (y : ListAt Nowhere). y.back l) (some-injective _ _ (sym m.is_q ∙ found)) ∙ put.back l

  module _ (list : rust.List) (bytes : ℕ) (r : IsReadAgain old new file splices spot (at_spot old.files file splices (spot_at m.p) spot text again_spot) list bytes) where
    abbrev pub again_held : SavedList
    again_held = record { place = h.list.place; list = list; from = h.list.from; was = h.list.was; now = bytes }

    abbrev after : List ℕ
    after = of.of.takes.front ++ (text.now ++ of.of.takes.back)

    after_is : text.front ++ (text.now ++ text.back) ≡ after
    after_is = ap₂ (λ a b. a ++ (text.now ++ b)) first_cut.0 back_is

    after_there : bytes_at file new.files ≡ after
    after_there = ap (bytes_at file) (same_files new.files text.files _ r.are_files text.is) ∙ text.new ∙ after_is

    reads : ReadsWithin wide after (of.of.takes.is.q.back (erase_listing (list_view text.now r.own)))
    reads =
        subst (λ b. ReadsWithin wide b (of.of.takes.is.q.back (erase_listing (list_view text.now r.own)))) after_is
        (subst (ReadsWithin wide (text.front ++ (text.now ++ text.back))) (around_is text.list ∙ ap of.of.takes.is.q.back (sym r.found)) m.reads)

    again_takes : MayTakeMoved t again_held
    again_takes = record {
      own = r.own;
      moved = r.moved ∙ ap (λ k. moved_list (λ n. n + k) r.own) (ap (λ (z : Span). z.from) (held_from t cur h of) ∙ sym of.of.takes.from_is);
      takes = record {
        bytes = of.of.takes.bytes;
        p = of.of.takes.p;
        front = of.of.takes.front;
        was = of.of.takes.was;
        now = text.now;
        back = of.of.takes.back;
        is = record {
          spanned = of.of.takes.is.spanned;
          is_p = of.of.takes.is.is_p;
          parts = of.of.takes.is.parts;
          from = of.of.takes.is.from;
          to = of.of.takes.is.to;
          depth = wide_depth;
          is_list = subst (λ b. IsSpannedListWithin wide_depth b text.now (list_view text.now r.own)) of.bracket r.is_own;
          q = of.of.takes.is.q;
          is_q = of.of.takes.is.is_q;
          reads = reads;
        };
        from_is = of.of.takes.from_is;
        was_is = of.of.takes.was_is;
        now_is = r.size;
        before_fits = of.of.takes.before_fits;
        after_fits = subst (λ b. length b < 2 ^ 64) after_there r.after_fits;
      };
    }

    pub again_of : IsHeldOf t (bytes_at file new.files) (record { bracket = h.bracket; list = again_held })
    unfolding again_takes
    again_of = record { of = again_takes; bracket = of.bracket; text = after_there }

    pub again_read : IsSpannedWithin wide (bytes_at file new.files) (view (bytes_at file new.files) (settled_tree again_held t))
    unfolding again_takes
    again_read = subst (λ b. IsSpannedWithin wide b (view b (settled_tree again_held t))) (sym after_there) (settled_spanned t again_held again_takes)

    pub again_again : list_again old.files new.files h.list.place (settled_tree h.list t) ≡ bytes
    again_again =
        ap (λ o. bytes_again o cur (bytes_at file new.files)) m.is_p
        ∙ again_is m.p cur (bytes_at file new.files) text.front text.was text.now text.back text.old (after_there ∙ sym after_is) text.from text.to ∙ sym r.size
