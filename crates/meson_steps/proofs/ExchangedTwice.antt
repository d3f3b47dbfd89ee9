-- A list that is exchanged and then exchanged again: the tree is the one in which it is exchanged once.
use Rattle.meson_steps.proofs.Words.{◌≡◌, ℕ, zero, suc, ◌+◌, ◌≤◌, List, [], ◌∷◌, ◌++◌, length, Some, refl, sym, ap, ap₂, subst, ◌∙◌, length-append, arith}
use Rattle.meson_steps.proofs.Words.{append-nil, append_cancel_left, map-append, Lexeme, joined, Token, word_of, words, spots, located, start, after, emitted}
use Rattle.meson_steps.proofs.Words.{closing, spoken, Span, file_depth, list_exchanged, with_list, moved_parsed, moved, span_by, opens, closes, ListAt, list_at}
use Rattle.meson_steps.proofs.Words.{list_span, inner_words, IsSpannedWithin, ReadsWithin, IsListText, list_items, SpellsListing, SpellsFile, Nowhere, Listing}
use Rattle.meson_steps.proofs.Words.{erase, erase_listing, list_view, view, Limits, Parsed, whole-complete, some-injective, IsExchange, tree_with, StaysThere}
use Rattle.meson_steps.proofs.Words.{ListStands, exchanged, moved-on, moved-still, trees-exchange, lists-there}
use Rattle.meson_lex.proofs.TokenWords.{words-spots}
use Rattle.meson_syntax.specs.declared.tree.List as rust
use Rattle.meson_syntax.specs.Tree.{File}
use Rattle.meson_syntax.specs.Texts.{texts_of}
use Rattle.meson_syntax.proofs.lists.Items.{listed}
use Rattle.meson_syntax.proofs.lists.Nesting.{nest, inner-flat}
use Rattle.meson_syntax.proofs.parsing.OneSpanned.{one-spanned-within}
use Rattle.meson_syntax.proofs.places.Pairs.{joined-lengths}
use Rattle.meson_edit.specs.ExchangedTokens.{list_tokens, TokensExchanged}
use Rattle.meson_edit.specs.MappedPaths.{MapsList}
use Rattle.meson_edit.specs.Moves.{each_file, each_listing, token_by, tokens_by}
use Rattle.meson_edit.proofs.exchange.Lists.{place}
use Rattle.meson_edit.proofs.kept.Each.{in-both, in-other, lists-map}
use Rattle.meson_edit.proofs.kept.EachErased.{listing-each}
use Rattle.meson_edit.proofs.kept.EachNothing.{lists-put-erase}
use Rattle.meson_edit.proofs.kept.Kept.{lists-kept, mapped-span, moved-place, three-ways}
use Rattle.meson_edit.proofs.kept.Moved.{files-move, lists-move}
use Rattle.meson_edit.proofs.kept.PutLists.{put-lists-look}
use Rattle.meson_edit.proofs.kept.Swap.{lists-swap}
use Rattle.meson_edit.proofs.kept.Views.{list-views-text, views-move, views-tell}
use Rattle.meson_steps.proofs.ListTaken.{list_text_some, old_list_some}

-- ---- tokens of a moved tree

words_stay : (g : ℕ → ℕ) (ts : List Token) → words (tokens_by g ts) ≡ words ts
words_stay g [] = refl
words_stay g (t ∷ ts) = ap (λ l. word_of t ∷ l) (words_stay g ts)

three_moved : (g : ℕ → ℕ) (a b c : List Token) → tokens_by g a ≡ a → tokens_by g (a ++ (b ++ c)) ≡ a ++ (tokens_by g b ++ tokens_by g c)
three_moved g a b c stay = map-append (token_by g) a (b ++ c) ∙ ap₂ (λ x y. x ++ y) stay (map-append (token_by g) b c)

-- tokens that spell a tree spell no other one
one_spelled : (f g : File Span) (len depth : ℕ) (ts : List Token) → SpellsFile f len depth ts → SpellsFile g len depth ts → f ≡ g
one_spelled f g len depth ts p q = some-injective _ _ (sym (whole-complete depth len ts f p) ∙ whole-complete depth len ts g q)

-- the moved tree with another list
module _ (g : ℕ → ℕ) (zero_stays : g 0 ≡ 0) (f : File Span) (len depth : ℕ) (path : List ℕ) (r : ListAt Span) (is : list_at (each_file (span_by g) f) path ≡ Some r)
    (before own behind : List Token) (sp : SpellsFile f len depth (before ++ (own ++ behind))) (stay : tokens_by g before ≡ before) where
  other_spelled : words before ≡ r.before → words behind ≡ r.behind → (m : Listing Span) (d : ℕ) (new : List Token) → SpellsListing m r.bracket d new
      → list_span m ≡ list_span r.list → file_depth (erase (r.back m)) ≤ depth → SpellsFile (r.back m) (g len) depth (before ++ (new ++ tokens_by g behind))
  other_spelled is_before is_behind m d new spelled same room =
      let w = lists-swap (each_file (span_by g) f) path r is (g len) depth (tokens_by g (before ++ (own ++ behind))) (files-move g zero_stays f len depth _ sp) in
      let cut : w.front ++ (w.own ++ w.back) ≡ before ++ (tokens_by g own ++ tokens_by g behind) = sym w.parts ∙ three_moved g before own behind stay in
      let ways = three-ways w.front w.own w.back before (tokens_by g own) (tokens_by g behind) cut (w.is_front ∙ sym is_before) (w.is_back ∙ sym (words_stay g behind ∙ is_behind)) in
      subst (λ a. SpellsFile (r.back m) (g len) depth (a ++ (new ++ tokens_by g behind))) ways.0
      (subst (λ c. SpellsFile (r.back m) (g len) depth (w.front ++ (new ++ c))) ways.2 (w.swap m d new spelled same room))

-- ---- brackets as far from one another as is asked for

abbrev zeros : ℕ → List ℕ
zeros zero = []
zeros (suc n) = 0 ∷ zeros n

zeros_long : (n : ℕ) → length (zeros n) ≡ n
zeros_long zero = refl
zeros_long (suc n) = ap suc (zeros_long n)

span_is : (s : Span) (a b : ℕ) → s.from ≡ a → s.to ≡ b → s ≡ record { from = a; to = b }
span_is s a b p q = ap₂ (λ (a b : ℕ). record { from = a; to = b }) p q

module _ (limits : Limits) (bytes : List ℕ) (t : Parsed) (path : List ℕ) (p : ListAt Span) (front was now back : List ℕ) (new : rust.List)
    (x : IsExchange limits bytes t path p front was now back new) (len : ℕ) where
  abbrev f : File Span
  f = view bytes t

  abbrev from : ℕ
  from = length front

  abbrev end : ℕ
  end = length (front ++ was)

  abbrev mid : ℕ
  mid = length (front ++ now)

  abbrev new_bytes : List ℕ
  new_bytes = front ++ (now ++ back)

  -- the first move, the second one, and both at once
  abbrev first : ℕ → ℕ
  first = moved end (length was) (length now)

  abbrev second : ℕ → ℕ
  second = moved mid (length now) len

  abbrev once : ℕ → ℕ
  once = moved end (length was) len

  at : ListStands x.spanned.reads.spells.items p
  at = place limits bytes f x.spanned path p x.is_p

  abbrev l : Listing Span
  l = list_view now new

  abbrev text : IsListText now p.bracket (inner_words (erase_listing l))
  text = x.is_list.reads.text

  abbrev placed : Listing Span
  placed = each_listing (span_by (λ n. n + from)) l

  was_some : 1 ≤ length was
  was_some = old_list_some limits bytes f x.spanned path p x.is_p front was back x.parts x.from x.to

  now_some : 1 ≤ length now
  now_some = list_text_some now p.bracket _ text

  end_is : end ≡ from + length was
  end_is = length-append front was

  mid_is : mid ≡ from + length now
  mid_is = length-append front now

  -- ---- tokens

  abbrev far_open : Lexeme
  far_open = record { kind = opens p.bracket; text = zeros len }

  abbrev far_close : Lexeme
  far_close = record { kind = closes p.bracket; text = [] }

  far_long : len ≡ length (joined (listed far_open [] far_close []))
  far_long = sym (ap length (append-nil (zeros len)) ∙ zeros_long len)

  now_long : length now ≡ length (joined (listed text.open_item text.inner text.close_item []))
  now_long = sym (ap length text.are_items.joins)

  was_long : length was ≡ length (joined (listed at.open_item at.inner at.close_item []))
  was_long =
      let n = joined-lengths at.left (listed at.open_item at.inner at.close_item []) in
      omega (arith, n, at.from, at.to, x.from, x.to, end_is)

  from_is : from ≡ length (joined at.left)
  from_is = x.from ∙ at.from

  old_flat : nest 0 (spoken at.inner) ≡ Some 0
  old_flat = ap (nest 0) at.is_inner ∙ inner-flat Span p.list

  to_new : TokensExchanged at.left at.right at.open_item at.close_item at.inner text.open_item text.close_item text.inner from first
  to_new =
      exchanged p.bracket at.left at.right at.open_item at.close_item at.inner at.is_open at.is_close old_flat
      text.open_item text.close_item text.inner text.is_open text.is_close (ap (nest 0) text.is_inner ∙ inner-flat Nowhere (erase_listing l))
      from end (length was) (length now) from_is was_long now_long end_is was_some

  to_far : TokensExchanged at.left at.right at.open_item at.close_item at.inner far_open far_close [] from once
  to_far =
      exchanged p.bracket at.left at.right at.open_item at.close_item at.inner at.is_open at.is_close old_flat
      far_open far_close [] refl refl refl from end (length was) len from_is was_long far_long end_is was_some

  new_to_far : TokensExchanged at.left at.right text.open_item text.close_item text.inner far_open far_close [] from second
  new_to_far =
      exchanged p.bracket at.left at.right text.open_item text.close_item text.inner text.is_open text.is_close
      (ap (nest 0) text.is_inner ∙ inner-flat Nowhere (erase_listing l))
      far_open far_close [] refl refl refl from mid (length now) len from_is now_long far_long mid_is now_some

  abbrev ahead : List Token
  ahead = spots start 0 0 at.left

  abbrev old_own : List Token
  old_own = list_tokens from at.open_item at.inner at.close_item

  abbrev new_own : List Token
  new_own = list_tokens from text.open_item text.inner text.close_item

  behind_old : to_far.behind ≡ to_new.behind
  behind_old = append_cancel_left old_own _ _ (append_cancel_left ahead _ _ (sym to_far.old ∙ to_new.old))

  behind_new : new_to_far.behind ≡ tokens_by first to_new.behind
  behind_new = append_cancel_left new_own _ _ (append_cancel_left ahead _ _ (sym new_to_far.old ∙ to_new.new))

  behind_far : tokens_by second new_to_far.behind ≡ tokens_by once to_far.behind
  behind_far = append_cancel_left (list_tokens from far_open [] far_close) _ _ (append_cancel_left ahead _ _ (sym new_to_far.new ∙ to_far.new))

  spelled : SpellsFile f (length bytes) limits.depth (ahead ++ (old_own ++ to_new.behind))
  spelled = subst (SpellsFile f (length bytes) limits.depth) (ap located at.parts ∙ to_new.old) x.spanned.stands

  is_ahead : words ahead ≡ p.before
  is_ahead = words-spots at.left start 0 0 ∙ at.is_left

  is_behind : words to_new.behind ≡ p.behind
  is_behind =
      to_new.is_behind
      ∙ ap (λ xs. emitted (after start (at.left ++ listed at.open_item at.inner at.close_item [])) at.right
      ++ closing (after start xs).fresh) (sym at.parts)
      ∙ at.is_right

  -- ---- trees

  module _ (r u v : ListAt Span) (is_r : list_at (each_file (span_by first) f) path ≡ Some r) (is_u : list_at (each_file (span_by second) (r.back placed)) path ≡ Some u)
      (is_v : list_at (each_file (span_by once) f) path ≡ Some v) where
    of_r : MapsList (span_by first) p r
    of_r = in-both (list_at f path) (list_at (each_file (span_by first) f) path) (lists-map (span_by first) f path) p r x.is_p is_r

    of_v : MapsList (span_by once) p v
    of_v = in-both (list_at f path) (list_at (each_file (span_by once) f) path) (lists-map (span_by once) f path) p v x.is_p is_v

    stays : StaysThere path r placed
    stays = lists-there Span (each_file (span_by first) f) path r is_r placed

    of_u : MapsList (span_by second) stays.there u
    of_u =
        in-both (list_at (r.back placed) path) (list_at (each_file (span_by second) (r.back placed)) path) (lists-map (span_by second) (r.back placed) path)
        stays.there u stays.is_there is_u

    placed_spelled : SpellsListing placed p.bracket x.depth new_own
    placed_spelled = lists-move (λ n. n + from) l p.bracket x.depth (spots start 0 0 (list_items text)) x.is_list.stands

    abbrev last : Listing Span
    last = each_listing (span_by second) placed

    last_spelled : SpellsListing last p.bracket x.depth (tokens_by second new_own)
    last_spelled = lists-move second placed p.bracket x.depth new_own placed_spelled

    -- where the lists stand
    place_is : list_span placed ≡ record { from = from; to = length now + from }
    place_is = moved-place p.bracket x.depth now l x.is_list from

    old_span : list_span p.list ≡ record { from = from; to = end }
    old_span = span_is (list_span p.list) from end (sym x.from) (sym x.to)

    first_span : list_span r.list ≡ record { from = from; to = length now + from }
    first_span =
        let a = moved-still end (length was) (length now) from (omega (arith, end_is, was_some)) in
        let b = moved-on end (length was) (length now) end (omega arith) in
        ap list_span of_r.list ∙ mapped-span (span_by first) p.list ∙ ap (span_by first) old_span
        ∙ span_is (span_by first (record { from = from; to = end })) from (length now + from) a (omega (arith, b, end_is))

    last_span : list_span last ≡ record { from = from; to = from + len }
    last_span =
        let a = moved-still mid (length now) len from (omega (arith, mid_is, now_some)) in
        let b = moved-on mid (length now) len (length now + from) (omega (arith, mid_is)) in
        mapped-span (span_by second) placed ∙ ap (span_by second) place_is
        ∙ span_is (span_by second (record { from = from; to = length now + from })) from (from + len) a (omega (arith, b))

    once_span : list_span v.list ≡ record { from = from; to = from + len }
    once_span =
        let a = moved-still end (length was) len from (omega (arith, end_is, was_some)) in
        let b = moved-on end (length was) len end (omega arith) in
        ap list_span of_v.list ∙ mapped-span (span_by once) p.list ∙ ap (span_by once) old_span
        ∙ span_is (span_by once (record { from = from; to = end })) from (from + len) a (omega (arith, b, end_is))

    -- how deep the trees are
    bare : (h : ℕ → ℕ) (w : ListAt Span) → list_at (each_file (span_by h) f) path ≡ Some w → (m : Listing Span) → erase_listing m ≡ erase_listing l
        → file_depth (erase (w.back m)) ≤ limits.depth
    bare h w is m same =
        let looks : erase (w.back m) ≡ x.q.back (erase_listing l) = lists-put-erase (span_by h) f path w is x.q x.is_q m ∙ ap x.q.back same in
        subst (λ e. file_depth e ≤ limits.depth) (sym looks) x.reads.depth

    first_stays : first 0 ≡ 0
    first_stays = moved-still end (length was) (length now) 0 (omega (arith, end_is, was_some))

    second_stays : second 0 ≡ 0
    second_stays = moved-still mid (length now) len 0 (omega (arith, mid_is, now_some))

    once_stays : once 0 ≡ 0
    once_stays = moved-still end (length was) len 0 (omega (arith, end_is, was_some))

    -- the tree with the new list, and then moved again
    new_spelled : SpellsFile (r.back placed) (first (length bytes)) limits.depth (ahead ++ (new_own ++ tokens_by first to_new.behind))
    new_spelled =
        other_spelled first first_stays f (length bytes) limits.depth path r is_r ahead old_own to_new.behind spelled to_new.stay (is_ahead ∙ sym of_r.before)
        (is_behind ∙ sym of_r.behind) placed x.depth new_own (subst (λ b. SpellsListing placed b x.depth new_own) (sym of_r.bracket) placed_spelled)
        (place_is ∙ sym first_span) (bare first r is_r placed (listing-each (span_by (λ n. n + from)) l))

    again_spelled : SpellsFile (each_file (span_by second) (r.back placed)) (second (first (length bytes))) limits.depth
        (ahead ++ (tokens_by second new_own ++ tokens_by once to_far.behind))
    again_spelled =
        subst (SpellsFile (each_file (span_by second) (r.back placed)) (second (first (length bytes))) limits.depth)
        (three_moved second ahead new_own (tokens_by first to_new.behind) new_to_far.stay
        ∙ ap (λ ts. ahead ++ (tokens_by second new_own ++ ts)) (ap (tokens_by second) (sym behind_new) ∙ behind_far))
        (files-move second second_stays (r.back placed) (first (length bytes)) limits.depth _ new_spelled)

    -- the tree that is moved once, with the same list
    once_spelled : SpellsFile (v.back last) (once (length bytes)) limits.depth (ahead ++ (tokens_by second new_own ++ tokens_by once to_far.behind))
    once_spelled =
        other_spelled once once_stays f (length bytes) limits.depth path v is_v ahead old_own to_far.behind
        (subst (λ ts. SpellsFile f (length bytes) limits.depth (ahead ++ (old_own ++ ts))) (sym behind_old) spelled) to_far.stay (is_ahead ∙ sym of_v.before)
        (ap words behind_old ∙ is_behind ∙ sym of_v.behind) last x.depth (tokens_by second new_own)
        (subst (λ b. SpellsListing last b x.depth (tokens_by second new_own)) (sym of_v.bracket) last_spelled) (last_span ∙ sym once_span)
        (bare once v is_v last (listing-each (span_by second) placed ∙ listing-each (span_by (λ n. n + from)) l))

    ends : second (first (length bytes)) ≡ once (length bytes)
    ends =
        let all : length bytes ≡ length front + (length was + length back) =
        omega (arith, ap length x.parts, length-append front (was ++ back), length-append was back) in
        let a = moved-on end (length was) (length now) (length bytes) (omega (arith, all, end_is)) in
        let b = moved-on mid (length now) len (first (length bytes)) (omega (arith, a, all, mid_is)) in
        let c = moved-on end (length was) len (length bytes) (omega (arith, all, end_is)) in
        omega (arith, a, b, c, all)

    last_there : u.back last ≡ each_file (span_by second) (r.back placed)
    last_there =
        ap (λ m. u.back (each_listing (span_by second) m)) (sym stays.list) ∙ of_u.back stays.there.list
        ∙ ap (each_file (span_by second)) (stays.back stays.there.list ∙ ap r.back stays.list)

    same_file : u.back last ≡ v.back last
    same_file =
        last_there
        ∙ one_spelled (each_file (span_by second) (r.back placed)) (v.back last) (once (length bytes)) limits.depth _
        (subst (λ n. SpellsFile (each_file (span_by second) (r.back placed)) n limits.depth (ahead ++ (tokens_by second new_own ++ tokens_by once to_far.behind))) ends again_spelled)
        once_spelled

    -- so it is with any other list in that place
    same_place : (m : Listing Span) → u.back m ≡ v.back m
    same_place m =
        let a = lists-there Span (each_file (span_by second) (r.back placed)) path u is_u last in
        let b = lists-there Span (each_file (span_by once) f) path v is_v last in
        let same : a.there ≡ b.there = some-injective _ _ (sym a.is_there ∙ ap (λ y. list_at y path) same_file ∙ b.is_there) in
        sym (a.back m) ∙ ap (λ (q : ListAt Span). q.back m) same ∙ b.back m

  -- ---- the trees of the code

  abbrev changed : Parsed
  changed = tree_with path front was now new t

  to_first : (r : ListAt Span) × (list_at (each_file (span_by first) f) path ≡ Some r)
  to_first =
      let o = in-other (list_at f path) (list_at (each_file (span_by first) f) path) (lists-map (span_by first) f path) p x.is_p in
      (o.0, o.1)

  module _ (r : ListAt Span) (is_r : list_at (each_file (span_by first) f) path ≡ Some r) where
    kept : IsSpannedWithin limits new_bytes (r.back placed)
    kept =
        lists-kept limits bytes f x.spanned path p x.is_p front was now back x.parts x.from x.to x.depth l x.is_list r is_r
        (subst (ReadsWithin limits new_bytes)
        (sym (lists-put-erase (span_by first) f path r is_r x.q x.is_q placed ∙ ap x.q.back (listing-each (span_by (λ n. n + from)) l))) x.reads)

    looks : view new_bytes changed ≡ r.back placed
    looks =
        one-spanned-within limits limits new_bytes (view new_bytes changed) (r.back placed) (trees-exchange limits bytes t path p front was now back new x) kept

    moved_looks : view bytes (moved_parsed second changed) ≡ texts_of bytes (each_file (span_by second) (r.back placed))
    moved_looks = views-move second bytes new_bytes changed ∙ ap (λ y. texts_of bytes (each_file (span_by second) y)) looks

    twice_here : (old : rust.List) → with_list path old (moved_parsed second changed) ≡ with_list path old (moved_parsed once t)
    twice_here old =
        let s = lists-there Span (each_file (span_by first) f) path r is_r placed in
        let u = in-other (list_at (r.back placed) path) (list_at (each_file (span_by second) (r.back placed)) path) (lists-map (span_by second) (r.back placed) path) s.there s.is_there in
        let v = in-other (list_at f path) (list_at (each_file (span_by once) f) path) (lists-map (span_by once) f path) p x.is_p in
        let m = list_view [] old in
        let is_m = list-views-text bytes [] old in
        let left = put-lists-look bytes (moved_parsed second changed) (each_file (span_by second) (r.back placed)) moved_looks path u.0 u.1 old m is_m in
        let right = put-lists-look bytes (moved_parsed once t) (each_file (span_by once) f) (views-move once bytes bytes t) path v.0 v.1 old m is_m in
        views-tell bytes (with_list path old (moved_parsed second changed)) (with_list path old (moved_parsed once t))
        (left ∙ ap (texts_of bytes) (same_place r u.0 v.0 is_r u.1 v.1 m) ∙ sym right)

  pub twice : (old : rust.List) → list_exchanged path from (length now) len old changed ≡ list_exchanged path from (length was) len old t
  twice old =
      ap (λ n. with_list path old (moved_parsed (moved n (length now) len) changed)) (sym mid_is) ∙ twice_here to_first.0 to_first.1 old
      ∙ ap (λ n. with_list path old (moved_parsed (moved n (length was) len) t)) end_is
