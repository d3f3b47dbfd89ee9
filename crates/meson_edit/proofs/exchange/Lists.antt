-- A list's bytes exchanged for the text of another list: the new text spells the tree with the other list in that place.
use Rattle.meson_edit.proofs.Words.{option_map, ◌≡◌, ℕ, List, [], ◌∷◌, ◌++◌, length, Some, sym, ap, ap₂, subst, ◌∙◌, append_assoc, length-append, arith, Lexeme}
use Rattle.meson_edit.proofs.Words.{joined, AreItems, Opens, Closes, State, start, after, emitted, closing, significant, spoken, Span, joined-append, mark}
use Rattle.meson_edit.proofs.Words.{listing_words, file_words, LevelFile, opens, closes, ListAt, list_at, list_span, inner_words, Spells, IsSpannedWithin}
use Rattle.meson_edit.proofs.Words.{IsListText, Nowhere, Listing, File, erase, Limits, IsBracket, open-bracket, close-bracket, listing-inner, same-cut, listed}
use Rattle.meson_edit.proofs.Words.{behind, exchanged-items, list-after, list-significant, nest, inner-flat, some-injective, ListFits, list-fits}
use Rattle.meson_edit.proofs.Words.{joined-lengths, after-append, ListsExchange, ListFront, list_front, erase_list_front, ListStands}
use Rattle.meson_edit.proofs.places.Standing.{lists-stand}
use Rattle.meson_edit.proofs.paths.Erased.{lists-erase}

joined-three : (left own right : List Lexeme) → joined (left ++ (own ++ right)) ≡ joined left ++ (joined own ++ joined right)
joined-three left own right = joined-append left (own ++ right) ∙ ap (λ t. joined left ++ t) (joined-append own right)

-- the items of a list, and those behind it
pub own-first : (o : Lexeme) (inner : List Lexeme) (c : Lexeme) (right : List Lexeme) → listed o inner c right ≡ listed o inner c [] ++ right
own-first o inner c right = ap (λ l. o ∷ l) (sym (append_assoc inner (c ∷ []) right))

pub joined-list : (left : List Lexeme) (o : Lexeme) (inner : List Lexeme) (c : Lexeme) (right : List Lexeme)
    → joined (left ++ listed o inner c right) ≡ joined left ++ (joined (listed o inner c []) ++ joined right)
joined-list left o inner c right = ap (λ l. joined (left ++ l)) (own-first o inner c right) ∙ joined-three left (listed o inner c []) right

module _ (limits : Limits) (bytes : List ℕ) (f : File Span) (s : IsSpannedWithin limits bytes f) (path : List ℕ) (p : ListAt Span) (is : list_at f path ≡ Some p) where
  pub place : ListStands s.reads.spells.items p
  place = (lists-stand limits bytes f s path p is).list

  -- the parts of the text that the list's span cuts out are the texts of the items
  pub cut-is : (front was back : List ℕ) → bytes ≡ front ++ (was ++ back) → length front ≡ (list_span p.list).from → length (front ++ was) ≡ (list_span p.list).to
      → (front ≡ joined place.left) × (back ≡ joined place.right)
  cut-is front was back parts from to =
      let own = listed place.open_item place.inner place.close_item [] in
      let whole : joined place.left ++ (joined own ++ joined place.right) ≡ front ++ (was ++ back) =
      sym (joined-list place.left place.open_item place.inner place.close_item place.right) ∙ ap joined (sym place.parts) ∙ s.reads.spells.are_items.joins ∙ parts in
      let first = same-cut (joined place.left) (joined own ++ joined place.right) front (was ++ back) whole (sym place.from ∙ sym from) in
      let n0 = joined-lengths place.left own in
      let n1 = length-append front was in
      let n2 = place.to in
      let n3 = place.from in
      let second = same-cut (joined own) (joined place.right) was back first.1 (omega arith) in
      (sym first.0, sym second.1)

  module _ (q : ListAt Nowhere) (plain-is : list_at (erase f) path ≡ Some q) where
    -- the list in the tree without spans stands in the same brackets and between the same words
    same-front : list_front q ≡ erase_list_front (list_front p)
    same-front = some-injective _ _ (ap (option_map list_front) (sym plain-is) ∙ lists-erase f path ∙ ap (option_map (λ x. erase_list_front (list_front x))) is)

    same-bracket : q.bracket ≡ p.bracket
    same-bracket = ap (λ x. x.bracket) same-front

    fits : ListFits Nowhere (erase f) q
    fits = list-fits Nowhere (erase f) path q plain-is

    module _ (l : Listing Nowhere) (text : List ℕ) (t : IsListText text q.bracket (inner_words l)) where
      opening : IsBracket (opens p.bracket) Opens
      opening = open-bracket p.bracket

      closer : IsBracket (closes p.bracket) Closes
      closer = close-bracket p.bracket

      opened : t.open_item.kind ≡ opens p.bracket
      opened = t.is_open ∙ ap opens same-bracket

      closed : t.close_item.kind ≡ closes p.bracket
      closed = t.is_close ∙ ap closes same-bracket

      abbrev now : List Lexeme
      now = place.left ++ listed t.open_item t.inner t.close_item place.right

      now-items : AreItems now []
      now-items =
          exchanged-items (opens p.bracket) (closes p.bracket) opening closer place.left place.inner place.right t.inner place.open_item place.close_item t.open_item t.close_item place.is_open place.is_close opened closed
          (subst (λ xs. AreItems xs []) place.parts s.reads.spells.are_items.each) t.are_items.each

      old-flat : nest 0 (spoken place.inner) ≡ Some 0
      old-flat = ap (nest 0) place.is_inner ∙ inner-flat Span p.list

      new-flat : nest 0 (spoken t.inner) ≡ Some 0
      new-flat = ap (nest 0) t.is_inner ∙ inner-flat Nowhere l

      -- the words behind the list stay
      rest-words : emitted (behind (after start place.left)) place.right ++ closing (after (behind (after start place.left)) place.right).fresh ≡ p.behind
      rest-words =
          let st = after start place.left in
          let list-end : after start (place.left ++ listed place.open_item place.inner place.close_item []) ≡ behind st =
          after-append start place.left (listed place.open_item place.inner place.close_item [])
          ∙ list-after (opens p.bracket) (closes p.bracket) opening closer place.inner place.open_item place.close_item place.is_open place.is_close old-flat st [] in
          let text-end : after start s.reads.spells.items ≡ after (behind st) place.right =
          ap (after start) place.parts ∙ after-append start place.left (listed place.open_item place.inner place.close_item place.right)
          ∙ list-after (opens p.bracket) (closes p.bracket) opening closer place.inner place.open_item place.close_item place.is_open place.is_close old-flat st place.right in
          ap₂ (λ (a b : State). emitted a place.right ++ closing b.fresh) (sym list-end) (sym text-end) ∙ place.is_right

      now-words : significant now ≡ file_words (q.back l)
      now-words =
          list-significant (opens p.bracket) (closes p.bracket) opening closer t.inner t.open_item t.close_item opened closed new-flat place.left place.right
          ∙ ap₂ (λ u v. u ++ v) place.is_left
          (ap₂ (λ u v. u ++ v) (ap (λ w. mark (opens p.bracket) ++ (w ++ mark (closes p.bracket))) t.is_inner ∙ sym (listing-inner l p.bracket)) rest-words)
          ∙ ap (λ (x : ListFront Nowhere). x.before ++ (listing_words l x.bracket ++ x.behind)) (sym same-front)
          ∙ sym (fits.put l)

      exchanged : LevelFile (q.back l) → (front back : List ℕ) → front ≡ joined place.left → back ≡ joined place.right → Spells (front ++ (text ++ back)) (q.back l)
      exchanged level front back is-front is-back = record {
        items = now;
        are_items = record {
          joins = joined-list place.left t.open_item t.inner t.close_item place.right ∙ ap (λ x. joined place.left ++ (x ++ joined place.right)) t.are_items.joins
              ∙ ap₂ (λ x y. x ++ (text ++ y)) (sym is-front) (sym is-back);
          each = now-items;
        };
        words = now-words;
        level = level;
      }

pub lists-exchange : ListsExchange
lists-exchange limits bytes f s path p is q plain-is l text t level front was back parts from to =
    let cut = cut-is limits bytes f s path p is front was back parts from to in
    exchanged limits bytes f s path p is q plain-is l text t level front back cut.0 cut.1
