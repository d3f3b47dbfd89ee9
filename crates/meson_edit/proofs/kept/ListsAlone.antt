-- A list of a tree is the list that its own bytes are, moved to its place.
use Rattle.meson_edit.proofs.Words.{◌≡◌, ℕ, ◌+◌, ◌-◌, ◌≤◌, List, [], ◌∷◌, ◌++◌, length, refl, sym, ap, ap₂, subst, ◌∙◌, length-append, arith, IsUtf8}
use Rattle.meson_edit.proofs.Words.{append_cancel_left, append_cancel_right, Lexeme, joined, AreItems, IsItemList, Token, spots, located, Word, start, after}
use Rattle.meson_edit.proofs.Words.{emitted, closing, Span, AreItems-split, words-spots, listing_depth, span_by, ListAt, list_span, inner_words, IsListText}
use Rattle.meson_edit.proofs.Words.{ReadsListWithin, SpellsListing, erase_listing, listed, listing-level-erased, listing-depth-erased, one-spelled-list}
use Rattle.meson_edit.proofs.Words.{listing_in, list_tokens, ListsAlone, each_listing, tokens_by, ListStands}
use Rattle.meson_syntax.proofs.parsing.Levels.{listing-level}
use Rattle.meson_edit.proofs.exchange.Cuts.{utf8-cut}
use Rattle.meson_edit.proofs.exchange.Ends.{end-changed, end-stands}
use Rattle.meson_edit.proofs.exchange.Lists.{place, cut-is, joined-list, own-first}
use Rattle.meson_syntax.proofs.lists.Answers.{inner-erased}
use Rattle.meson_edit.proofs.kept.EachErased.{listing-each}
use Rattle.meson_edit.proofs.kept.Kept.{three-ways}
use Rattle.meson_edit.proofs.kept.Moved.{lists-move}
use Rattle.meson_edit.proofs.kept.Swap.{lists-swap}
use Rattle.meson_edit.proofs.kept.Tokens.{tokens-move}

-- tokens moved, and moved back
forth-and-back : (k : ℕ) (ts : List Token) → tokens_by (λ n. n - k) (tokens_by (λ n. n + k) ts) ≡ ts
forth-and-back k [] = refl
forth-and-back k (t ∷ ts) =
    let a : (t.from + k) - k ≡ t.from = omega arith in
    let b : (t.to + k) - k ≡ t.to = omega arith in
    ap₂ (λ u us. u ∷ us) (ap₂ (λ (a b : ℕ). record { kind = t.kind; text = t.text; from = a; to = b }) a b) (forth-and-back k ts)

-- ---- the text of a list of a tree

-- the middle of a text that is cut at the same places
same-middle : (a b c x y z : List ℕ) → a ++ (b ++ c) ≡ x ++ (y ++ z) → a ≡ x → c ≡ z → b ≡ y
same-middle a b c x y z e p q =
    append_cancel_right b y z (append_cancel_left x (b ++ z) (y ++ z) (sym (ap₂ (λ u v. u ++ (b ++ v)) p q) ∙ e))

own-text : (bytes : List ℕ) (items : List Lexeme) (are : IsItemList bytes items) (p : ListAt Span) (at : ListStands items p) (was : List ℕ)
    → joined (listed at.open_item at.inner at.close_item []) ≡ was
    → (w : List Word) → inner_words p.list ≡ w → IsListText was p.bracket w
own-text bytes items are p at was joins w is-w =
    let own = listed at.open_item at.inner at.close_item [] in
    let all : AreItems (at.left ++ (own ++ at.right)) [] = subst (λ xs. AreItems xs [])
    (at.parts ∙ ap (λ l. at.left ++ l) (own-first at.open_item at.inner at.close_item at.right)) are.each in
    let each = (AreItems-split own at.right [] (AreItems-split at.left (own ++ at.right) [] all).1).0 in
    record {
      open_item = at.open_item;
      inner = at.inner;
      close_item = at.close_item;
      are_items = record { joins = joins; each = end-changed own (joined at.right ++ []) [] each (λ front y is i. end-stands y (joined at.right ++ []) i) };
      is_open = at.is_open;
      is_close = at.is_close;
      is_inner = at.is_inner ∙ is-w;
    }

own-utf8 : (bytes : List ℕ) (items : List Lexeme) (are : IsItemList bytes items) (p : ListAt Span) (at : ListStands items p) → IsUtf8 bytes
    → IsUtf8 (joined (listed at.open_item at.inner at.close_item []))
own-utf8 bytes items are p at u =
    let own = listed at.open_item at.inner at.close_item [] in
    let parts : items ≡ at.left ++ (own ++ at.right) = at.parts ∙ ap (λ l. at.left ++ l) (own-first at.open_item at.inner at.close_item at.right) in
    let all : AreItems (at.left ++ (own ++ at.right)) [] = subst (λ xs. AreItems xs []) parts are.each in
    let rest = utf8-cut at.left (own ++ at.right) all (subst IsUtf8 (sym are.joins ∙ ap joined parts) u) in
    (utf8-cut own at.right (AreItems-split at.left (own ++ at.right) [] all).1 rest.1).0

pub lists-alone : ListsAlone
unfolding own-text
lists-alone limits bytes f s path p is front was back parts from to depth room =
    let at = place limits bytes f s path p is in
    let items = s.reads.spells.items in
    let are = s.reads.spells.are_items in
    let own = listed at.open_item at.inner at.close_item [] in
    let ts = spots start 0 0 own in
    let cut = cut-is limits bytes f s path p is front was back parts from to in
    let joins : joined own ≡ was =
    same-middle (joined at.left) (joined own) (joined at.right) front was back
    (sym (joined-list at.left at.open_item at.inner at.close_item at.right) ∙ ap joined (sym at.parts) ∙ are.joins ∙ parts) (sym cut.0) (sym cut.1) in
    let n0 = length-append front was in
    let plain_words = inner_words (erase_listing p.list) in
    let x = tokens-move bytes items are p at (erase_listing p.list) was (own-text bytes items are p at was joins plain_words (sym (inner-erased p.list)))
    (length was) (omega arith) in
    let w = lists-swap f path p is (length bytes) limits.depth (located items) s.stands in
    let ways = three-ways w.front w.own w.back (spots start 0 0 at.left) (list_tokens (list_span p.list).from at.open_item at.inner at.close_item) x.behind
    (sym w.parts ∙ ap located at.parts ∙ x.old)
    (w.is_front ∙ sym (words-spots at.left start 0 0 ∙ at.is_left))
    (w.is_back ∙ sym (x.is_behind ∙ ap (λ xs. emitted (after start (at.left ++ own)) at.right ++ closing (after start xs).fresh) (sym at.parts)
    ∙ at.is_right)) in
    let here = subst (λ k. SpellsListing p.list p.bracket w.inner (tokens_by (λ n. n + k) ts)) (sym from)
    (subst (SpellsListing p.list p.bracket w.inner) ways.1 w.spelled) in
    let l = each_listing (span_by (λ n. n - length front)) p.list in
    let alone = subst (SpellsListing l p.bracket w.inner) (forth-and-back (length front) ts)
    (lists-move (λ n. n - length front) p.list p.bracket w.inner (tokens_by (λ n. n + length front) ts) here) in
    let again = lists-move (λ n. n + length front) l p.bracket w.inner ts alone in
    let bare = listing-each (span_by (λ n. n - length front)) p.list in
    let deep = subst (λ n. n ≤ depth) (sym (listing-depth-erased p.list) ∙ ap listing_depth (sym bare)) room in
    let reads : ReadsListWithin depth p.bracket was (erase_listing l) = record {
      utf8 = subst IsUtf8 joins (own-utf8 bytes items are p at s.reads.source.utf8);
      text = own-text bytes items are p at was joins (inner_words (erase_listing l)) (sym (inner-erased p.list) ∙ ap inner_words (sym bare));
      level = subst (λ A. A) (sym (listing-level-erased l p.bracket)) (listing-level l p.bracket w.inner ts alone).0;
      depth = deep;
    } in (
      l,
      record { reads = reads; stands = listing_in l p.bracket w.inner depth ts alone (subst (λ n. n ≤ depth) (listing-depth-erased l) deep) },
      one-spelled-list p.bracket w.inner (each_listing (span_by (λ n. n + length front)) l) p.list (tokens_by (λ n. n + length front) ts) again here,
    )
