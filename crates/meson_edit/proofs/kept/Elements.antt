-- The elements of a list stay where they are while the borders from its end on move.
use Rattle.meson_edit.proofs.Words.{◌≡◌, ℕ, ◌+◌, ◌≤◌, List, [], ◌∷◌, ◌++◌, length, Some, refl, sym, ap, subst, ◌∙◌, append_assoc, length-append, arith}
use Rattle.meson_edit.proofs.Words.{map-append, Lexeme, joined, AreItems, Token, token_at, spots, end_after, located, role, start, after, emitted, closing}
use Rattle.meson_edit.proofs.Words.{spoken, Span, words-spots, span_by, moved, opens, closes, list_span, Covers, SpellsListing, Listing, listing, Bracket}
use Rattle.meson_edit.proofs.Words.{open-bracket, close-bracket, same-cut, listed, nest, inner-flat, one-spelled-list, end_of-append, joined-lengths}
use Rattle.meson_edit.proofs.Words.{list_tokens, each_listing, token_by, with_span, ElementsStay}
use Rattle.meson_edit.proofs.exchange.Lists.{place}
use Rattle.meson_edit.proofs.kept.Spots.{spots-append}
use Rattle.meson_edit.proofs.kept.Tokens.{moved-still, still-spots, own-moved, last-spots, list-located, list-behind, close-long}
use Rattle.meson_edit.proofs.kept.Kept.{three-ways, mapped-span}
use Rattle.meson_edit.proofs.kept.Moved.{lists-move}
use Rattle.meson_edit.proofs.kept.Swap.{lists-swap}

-- ---- another closing bracket

same-last : (a b : List Token) (t u : Token) → a ++ t ∷ [] ≡ b ++ u ∷ [] → (a ≡ b) × (t ≡ u)
same-last a b t u e =
    let n = ap length e in
    let i = length-append a (t ∷ []) in
    let j = length-append b (u ∷ []) in
    let cut = same-cut a (t ∷ []) b (u ∷ []) e (omega arith) in
    (cut.0, cc)

covers-last : (r s : Span) (front : List Token) (t u : Token) → u.from ≡ t.from → s.from ≡ r.from → s.to ≡ u.to → Covers r (front ++ t ∷ [])
    → Covers s (front ++ u ∷ [])
covers-last r s [] t u same from to h = (from ∙ h.0 ∙ sym same, to)
covers-last r s (x ∷ front) t u same from to h = (from ∙ h.0, to ∙ sym (end_of-append x.to front (u ∷ [])))

-- where the closing bracket ends elsewhere, so does the list
closed-elsewhere : (l : Listing Span) (s : Span) (b : Bracket) (depth : ℕ) (front : List Token) (t u : Token) → u.kind ≡ t.kind → u.from ≡ t.from
    → s.from ≡ (list_span l).from → s.to ≡ u.to → SpellsListing l b depth (front ++ t ∷ []) → SpellsListing (with_span s l) b depth (front ++ u ∷ [])
closed-elsewhere (listing r trailing list) s b depth front t u kind same from to h =
    let p = h.3 in
    let q = p.second in
    let c = q.second in
    let whole : front ++ t ∷ [] ≡ (p.front ++ q.front) ++ c.token ∷ [] =
    p.joined ∙ ap (λ l. p.front ++ l) (q.joined ∙ ap (λ l. q.front ++ l) c.alone) ∙ sym (append_assoc p.front q.front (c.token ∷ [])) in
    let cut = same-last front (p.front ++ q.front) t c.token whole in (
      covers-last r s front t u same from to h.0,
      h.1,
      h.2,
      record {
        front = p.front;
        back = q.front ++ u ∷ [];
        joined = ap (λ l. l ++ u ∷ []) cut.0 ∙ append_assoc p.front q.front (u ∷ []);
        first = p.first;
        second = record {
          front = q.front;
          back = u ∷ [];
          joined = refl;
          first = q.first;
          second = record { token = u; alone = refl; is = kind ∙ ap (λ (t : Token). t.kind) cut.1 ∙ c.is };
        };
      },
    )

-- ---- the tokens of a list whose end moves

module _ (b : Bracket) (o c : Lexeme) (inner : List Lexeme) (is-o : o.kind ≡ opens b) (is-c : c.kind ≡ closes b)
    (flat : nest 0 (spoken inner) ≡ Some 0) (from : ℕ) where
  -- the tokens before its closing bracket, and where that stands
  abbrev ahead : List Token
  ahead = spots start from from (o ∷ inner)

  abbrev last : Token
  last = token_at c (from + length (joined (o ∷ inner)))

  own-cut : list_tokens from o inner c ≡ ahead ++ last ∷ []
  own-cut =
      let opens-here = ap role is-o ∙ (open-bracket b).is_role in
      let closes-here = ap role is-c ∙ (close-bracket b).is_role in
      sym (own-moved o c inner opens-here closes-here flat start from from)
      ∙ spots-append start from from (o ∷ inner) (c ∷ [])
      ∙ ap (λ ts. ahead ++ ts)
      (last-spots o c inner opens-here closes-here flat (after start (o ∷ inner)) (end_after from from (o ∷ inner)) (from + length (joined (o ∷ inner))))

  own-length : from + length (joined (listed o inner c [])) ≡ last.to
  own-length =
      let n = joined-lengths (o ∷ inner) (c ∷ []) in
      let m = length-append c.text [] in
      omega arith

  -- they spell the list, with its elements where they stood
  same-elements : (l : Listing Span) (depth was now : ℕ) → (list_span l).from ≡ from → (list_span l).to ≡ last.to → 1 ≤ length c.text
      → SpellsListing l b depth (list_tokens from o inner c)
      → with_span (list_span l) (each_listing (span_by (moved (list_span l).to was now)) l) ≡ l
  same-elements l depth was now is-from is-to long h =
      let s = list_span l in
      let g = moved s.to was now in
      let here = subst (SpellsListing l b depth) own-cut h in
      let stay = ap (λ ts. ts ++ token_by g last ∷ []) (still-spots s.to was now start from (o ∷ inner) (omega arith)) in
      let there : SpellsListing (each_listing (span_by g) l) b depth (ahead ++ token_by g last ∷ []) =
      subst (SpellsListing (each_listing (span_by g) l) b depth) (map-append (token_by g) ahead (last ∷ []) ∙ stay)
      (lists-move g l b depth (ahead ++ last ∷ []) here) in
      let start_stays = moved-still s.to was now s.from (omega arith) in
      let last_stays = moved-still s.to was now last.from (omega arith) in
      let same = ap (λ (r : Span). r.from) (mapped-span (span_by g) l) in
      one-spelled-list b depth (with_span s (each_listing (span_by g) l)) l (ahead ++ last ∷ [])
      (closed-elsewhere (each_listing (span_by g) l) s b depth ahead (token_by g last) last refl (sym last_stays) (sym (same ∙ start_stays)) is-to there) here

-- ---- a list of a file

pub elements-stay : ElementsStay
elements-stay limits bytes f s path p is was now sum =
    let at = place limits bytes f s path p is in
    let items = s.reads.spells.items in
    let are = s.reads.spells.are_items in
    let own = listed at.open_item at.inner at.close_item [] in
    let from = (list_span p.list).from in
    let end = (list_span p.list).to in
    let n = joined-lengths at.left own in
    let is-from = at.from in
    let is-to = at.to in
    let is-end : end ≡ from + length (joined own) = omega arith in
    let flat = ap (nest 0) at.is_inner ∙ inner-flat Span p.list in
    let w = lists-swap f path p is (length bytes) limits.depth (located items) s.stands in
    let ways = three-ways w.front w.own w.back (spots start 0 0 at.left) (list_tokens from at.open_item at.inner at.close_item) _
    (sym w.parts ∙ ap located at.parts
    ∙ list-located (opens p.bracket) (closes p.bracket) (open-bracket p.bracket) (close-bracket p.bracket) at.left at.right at.open_item at.close_item at.inner
    at.is_open at.is_close flat from end is-from is-end)
    (w.is_front ∙ sym (words-spots at.left start 0 0 ∙ at.is_left))
    (w.is_back
    ∙ sym (list-behind (opens p.bracket) (closes p.bracket) (open-bracket p.bracket) (close-bracket p.bracket) at.left at.right at.open_item at.close_item
    at.inner at.is_open at.is_close flat end
    ∙ ap (λ xs. emitted (after start (at.left ++ own)) at.right ++ closing (after start xs).fresh) (sym at.parts)
    ∙ at.is_right)) in
    same-elements p.bracket at.open_item at.close_item at.inner at.is_open at.is_close flat from p.list w.inner was now refl
    (is-end ∙ own-length p.bracket at.open_item at.close_item at.inner at.is_open at.is_close flat from)
    (close-long p.bracket at.left at.right at.inner at.open_item at.close_item at.is_close (subst (λ xs. AreItems xs []) at.parts are.each))
    (subst (SpellsListing p.list p.bracket w.inner) ways.1 w.spelled)
