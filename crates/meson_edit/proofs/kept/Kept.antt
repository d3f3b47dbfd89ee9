-- The tree of a text in which a list is exchanged for another one is the old tree, moved, with the other list in that place.
use Rattle.meson_edit.proofs.Words.{◌≡◌, ℕ, ◌+◌, ◌≤◌, List, [], ◌∷◌, ◌++◌, length, Some, refl, sym, ap, ap₂, subst, ◌∙◌, length-append, arith, map-append}
use Rattle.meson_edit.proofs.Words.{Lexeme, joined, AreItems, IsItemList, Token, word_of, words, spots, located, start, after, emitted, closing, Span, one_list}
use Rattle.meson_edit.proofs.Words.{words-spots, file_depth, span_by, moved, opens, closes, ListAt, list_at, list_span, inner_words, IsSpannedListWithin}
use Rattle.meson_edit.proofs.Words.{list_items, SpellsListing, SpellsFile, Listing, listing, File, erase, erase_listing, Bracket, open-bracket, close-bracket}
use Rattle.meson_edit.proofs.Words.{whole-span, same-cut, listed, exchanged-items, listing-covers, joined-lengths, list_tokens, TokensExchanged, ListsKept}
use Rattle.meson_edit.proofs.Words.{each_file, each_listing, token_by, tokens_by, ListStands}
use Rattle.meson_edit.proofs.exchange.Lists.{place, cut-is, joined-list}
use Rattle.meson_edit.proofs.kept.Tokens.{moved-still, moved-on, open-long, tokens-move}
use Rattle.meson_edit.proofs.kept.Moved.{files-move, lists-move}
use Rattle.meson_edit.proofs.kept.Swap.{lists-swap}
use Rattle.meson_edit.proofs.kept.Each.{in-both, lists-map}

-- ---- the same tokens, cut in two ways

words-moved : (g : ℕ → ℕ) (ts : List Token) → words (tokens_by g ts) ≡ words ts
words-moved g [] = refl
words-moved g (t ∷ ts) = ap (λ l. word_of t ∷ l) (words-moved g ts)

words-length : (ts : List Token) → length (words ts) ≡ length ts
words-length [] = refl
words-length (t ∷ ts) = let n = words-length ts in omega arith

same-length : (a b : List Token) → words a ≡ words b → length a ≡ length b
same-length a b e = sym (words-length a) ∙ ap length e ∙ words-length b

pub three-ways : (a b c x y z : List Token) → a ++ (b ++ c) ≡ x ++ (y ++ z) → words a ≡ words x → words c ≡ words z → (a ≡ x) × (b ≡ y) × (c ≡ z)
three-ways a b c x y z e p q =
    let first = same-cut a (b ++ c) x (y ++ z) e (same-length a x p) in
    let n = ap length first.1 in
    let m = same-length c z q in
    let i = length-append b c in
    let j = length-append y z in
    let second = same-cut b c y z first.1 (omega arith) in
    (first.0, second.0, second.1)

-- ---- the old tree, moved, with the other list

module _ (g : ℕ → ℕ) (zero_stays : g 0 ≡ 0) (f : File Span) (len new_len depth : ℕ) (is-len : g len ≡ new_len) (old : List Token)
    (sp : SpellsFile f len depth old) (path : List ℕ) (r : ListAt Span) (is : list_at (each_file (span_by g) f) path ≡ Some r) where
  other-spelled : (before own behind : List Token) → old ≡ before ++ (own ++ behind) → tokens_by g before ≡ before → words before ≡ r.before
      → words behind ≡ r.behind
      → (m : Listing Span) (d : ℕ) (new : List Token) → SpellsListing m r.bracket d new → list_span m ≡ list_span r.list → file_depth (erase (r.back m)) ≤ depth
      → SpellsFile (r.back m) new_len depth (before ++ (new ++ tokens_by g behind))
  other-spelled before own behind parts stay is-before is-behind m d new spelled same room =
      let w = lists-swap (each_file (span_by g) f) path r is (g len) depth (tokens_by g old) (files-move g zero_stays f len depth old sp) in
      let cut : w.front ++ (w.own ++ w.back) ≡ before ++ (tokens_by g own ++ tokens_by g behind) =
      sym w.parts ∙ ap (tokens_by g) parts ∙ map-append (token_by g) before (own ++ behind) ∙ ap₂ (λ a b. a ++ b) stay (map-append (token_by g) own behind) in
      let ways = three-ways w.front w.own w.back before (tokens_by g own) (tokens_by g behind) cut (w.is_front ∙ sym is-before)
      (w.is_back ∙ sym (words-moved g behind ∙ is-behind)) in
      subst (λ n. SpellsFile (r.back m) n depth (before ++ (new ++ tokens_by g behind))) is-len
      (subst (λ a. SpellsFile (r.back m) (g len) depth (a ++ (new ++ tokens_by g behind))) ways.0
      (subst (λ c. SpellsFile (r.back m) (g len) depth (w.front ++ (new ++ c))) ways.2 (w.swap m d new spelled same room)))

-- ---- spans of lists

pub mapped-span : (h : Span → Span) (l : Listing Span) → list_span (each_listing h l) ≡ h (list_span l)
mapped-span h (listing s trailing list) = refl

span-is : (s : Span) (a b : ℕ) → s.from ≡ a → s.to ≡ b → s ≡ record { from = a; to = b }
span-is s a b p q = ap₂ (λ (a b : ℕ). record { from = a; to = b }) p q

-- where a list stands that is moved to some place
pub moved-place : (b : Bracket) (depth : ℕ) (now : List ℕ) (l : Listing Span) → IsSpannedListWithin depth b now l → (from : ℕ)
    → list_span (each_listing (span_by (λ n. n + from)) l) ≡ record { from = from; to = length now + from }
moved-place b depth now l t from =
    let whole = whole-span now b (inner_words (erase_listing l)) t.reads.text (list_span l)
    (listing-covers l b depth (spots start 0 0 (list_items t.reads.text)) t.stands) in
    mapped-span (span_by (λ n. n + from)) l
    ∙ span-is (span_by (λ n. n + from) (list_span l)) from (length now + from) (omega (arith, whole.0)) (omega (arith, whole.1))

-- the moved list and the other one stand at the same place
same-spans : (b : Bracket) (depth : ℕ) (now : List ℕ) (l m : Listing Span) → IsSpannedListWithin depth b now l → (from end was : ℕ)
    → from ≡ (list_span m).from → end ≡ (list_span m).to → end ≡ from + was → 1 ≤ was
    → list_span (each_listing (span_by (λ n. n + from)) l) ≡ list_span (each_listing (span_by (moved end was (length now))) m)
same-spans b depth now l m t from end was is-from is-end sum some =
    let g = moved end was (length now) in
    let start_stays = moved-still end was (length now) from (omega arith) in
    let end_moves = moved-on end was (length now) end (omega arith) in
    moved-place b depth now l t from
    ∙ sym (span-is (span_by g (list_span m)) from (length now + from) (ap g (sym is-from) ∙ start_stays) (ap g (sym is-end) ∙ end_moves ∙ omega arith))
    ∙ sym (mapped-span (span_by g) m)

-- ---- the items of the new text

new-items : (b : Bracket) (left inner right other : List Lexeme) (o c q d : Lexeme) → o.kind ≡ opens b → c.kind ≡ closes b → q.kind ≡ opens b
    → d.kind ≡ closes b
    → AreItems (left ++ listed o inner c right) [] → (now : List ℕ) → IsItemList now (listed q other d []) → (front back : List ℕ) → front ≡ joined left
    → back ≡ joined right
    → IsItemList (front ++ (now ++ back)) (left ++ listed q other d right)
new-items b left inner right other o c q d is-o is-c is-q is-d old now are front back is-front is-back = record {
  joins = joined-list left q other d right ∙ ap (λ x. joined left ++ (x ++ joined right)) are.joins ∙ ap₂ (λ x y. x ++ (now ++ y)) (sym is-front) (sym is-back);
  each = exchanged-items (opens b) (closes b) (open-bracket b) (close-bracket b) left inner right other o c q d is-o is-c is-q is-d old are.each;
}

-- ---- all together

-- the list that stood there is not empty
was-long : (items : List Lexeme) (p : ListAt Span) (at : ListStands items p) → AreItems items [] → (from was : ℕ) → from ≡ (list_span p.list).from
    → from + was ≡ (list_span p.list).to → 1 ≤ was
was-long items p at are from was is-from sum =
    let some = open-long p.bracket at.left at.right at.inner at.open_item at.close_item at.is_open (subst (λ xs. AreItems xs []) at.parts are) in
    let n = joined-lengths at.left (listed at.open_item at.inner at.close_item []) in
    let a = at.from in
    let b = at.to in
    omega arith

pub lists-kept : ListsKept
lists-kept limits bytes f s path p is front was now back parts from to depth l t r is-r reads =
    let at = place limits bytes f s path p is in
    let items = s.reads.spells.items in
    let are = s.reads.spells.are_items in
    let text = t.reads.text in
    let end = length (front ++ was) in
    let g = moved end (length was) (length now) in
    let other = each_listing (span_by (λ n. n + length front)) l in
    let old = subst (λ xs. AreItems xs []) at.parts are.each in
    let n0 = length-append front was in
    let some = was-long items p at are.each (length front) (length was) from (sym n0 ∙ to) in
    let x = subst (λ n. TokensExchanged at.left at.right at.open_item at.close_item at.inner text.open_item text.close_item text.inner n g) (sym from)
    (subst (λ n. TokensExchanged at.left at.right at.open_item at.close_item at.inner text.open_item text.close_item text.inner (list_span p.list).from
    (moved n (length was) (length now))) (sym to)
    (tokens-move bytes items are p at (erase_listing l) now text (length was) (omega arith))) in
    let m = in-both (list_at f path) (list_at (each_file (span_by g) f) path) (lists-map (span_by g) f path) p r is is-r in
    let cut = cut-is limits bytes f s path p is front was back parts from to in
    let n1 = ap length parts in
    let n2 = length-append front (was ++ back) in
    let n3 = length-append was back in
    let n4 = length-append front (now ++ back) in
    let n5 = length-append now back in
    let len_moves = moved-on end (length was) (length now) (length bytes) (omega arith) in
    let own = lists-move (λ n. n + length front) l p.bracket depth (spots start 0 0 (list_items text)) t.stands in
    let new = list_tokens (length front) text.open_item text.inner text.close_item in
    let spelled = other-spelled g (moved-still end (length was) (length now) 0 (omega arith)) f (length bytes) (length (front ++ (now ++ back))) limits.depth
    (len_moves ∙ omega arith)
    (located items) s.stands path r is-r (spots start 0 0 at.left) (list_tokens (length front) at.open_item at.inner at.close_item) x.behind
    (ap located at.parts ∙ x.old) x.stay
    (words-spots at.left start 0 0 ∙ at.is_left ∙ sym m.before)
    (x.is_behind
    ∙ ap (λ xs. emitted (after start (at.left ++ listed at.open_item at.inner at.close_item [])) at.right ++ closing (after start xs).fresh) (sym at.parts)
    ∙ at.is_right ∙ sym m.behind)
    other depth new (subst (λ b. SpellsListing other b depth new) (sym m.bracket) own)
    (same-spans p.bracket depth now l p.list t (length front) end (length was) from to n0 some ∙ ap list_span (sym m.list)) reads.depth in
    let same = one_list (front ++ (now ++ back)) (at.left ++ listed text.open_item text.inner text.close_item at.right) reads.spells.items
    (new-items p.bracket at.left at.inner at.right text.inner at.open_item at.close_item text.open_item text.close_item at.is_open
    at.is_close text.is_open text.is_close old now text.are_items front back cut.0 cut.1)
    reads.spells.are_items in
    record {
      reads = reads;
      stands = subst (λ xs. SpellsFile (r.back other) (length (front ++ (now ++ back))) limits.depth (located xs)) same
          (subst (SpellsFile (r.back other) (length (front ++ (now ++ back))) limits.depth) (sym x.new) spelled);
    }
