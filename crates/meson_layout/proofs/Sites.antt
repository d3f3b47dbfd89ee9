-- An element of a list among the items of a source.
use Rattle.std.proofs.Common.{◌≡◌, ℕ, List, [], ◌∷◌, ◌++◌, length, sym, ap, ◌∙◌, subst, append_assoc}
use Rattle.std.proofs.lemmas.List.{append-nil}
use Rattle.meson_lex.specs.declared.kinds.Span.{Span}
use Rattle.meson_lex.specs.Items.{Lexeme, joined, IsItemList}
use Rattle.meson_layout.specs.Words.{remarks}
use Rattle.meson_layout.specs.Layout.{split_at_span}
use Rattle.meson_layout.specs.Pieces.{as_one, line_feed}
use Rattle.meson_layout.specs.Edited.{ListOfItems, PartIn, IsNew}
use Rattle.meson_layout.proofs.Near.{Follow, AllGood, items-good, items-follow, follow-front}
use Rattle.meson_layout.proofs.Ends.{remarks-append}
use Rattle.meson_layout.proofs.Made.{within}
use Rattle.meson_layout.proofs.Parts.{parts-are}
use Rattle.meson_layout.proofs.Inserted.{Site, Fresh, all_remarks}

module _ (source : List ℕ) (items : List Lexeme) (list : IsItemList source items) (l : ListOfItems items) where
  abbrev o : Lexeme
  o = l.open_item

  abbrev c : Lexeme
  c = l.close_item

  pub inner-fits : Follow o (l.inner ++ c ∷ [])
  inner-fits =
      let w = within source items l list in
      follow-front o (l.inner ++ c ∷ []) l.rest (subst (Follow o) (sym (append_assoc l.inner (c ∷ []) l.rest)) w.fits)

  module _ (s : Span) (p : PartIn items l s) where
    -- the items of the file before, of and behind the element
    abbrev pub before : List Lexeme
    before = l.front ++ o ∷ p.left

    abbrev pub behind : List Lexeme
    behind = p.right ++ c ∷ l.rest

    pub whole-is : before ++ (p.own ++ behind) ≡ items
    whole-is = regroup l.front p.left p.own p.right l.rest ∙ ap (λ xs. l.front ++ o ∷ (xs ++ c ∷ l.rest)) (sym p.parts) ∙ sym l.parts
      where
        regroup : (f a b d r : List Lexeme) → (f ++ l.open_item ∷ a) ++ (b ++ (d ++ l.close_item ∷ r)) ≡ f ++ l.open_item ∷ ((a ++ (b ++ d)) ++ l.close_item ∷ r)
        regroup f a b d r = simp append_assoc

    pub at-parts : split_at_span s items ≡ record { left = before; own = p.own; right = behind }
    at-parts =
        parts-are items before p.own behind s (sym whole-is) p.from (p.to ∙ ap (λ xs. length (joined xs)) (sym (append_assoc l.front (o ∷ p.left) p.own))) (items-good items [] list.each)

    pub site : Site o c p.left p.own p.right
    site =
        let w = within source items l list in
        record {
          opens = l.opens;
          closes = l.closes;
          fits = subst (λ xs. Follow o (xs ++ c ∷ [])) p.parts inner-fits;
          good = subst AllGood p.parts w.good_inner;
          good_close = w.good_close;
          tight = p.tight;
        }

    pub all-remarks : all_remarks p.left p.own p.right ≡ remarks l.inner
    all-remarks = sym (ap remarks p.parts ∙ remarks-append p.left (p.own ++ p.right) ∙ ap (λ r. remarks p.left ++ r) (remarks-append p.own p.right))

pub fresh-of : (new : List ℕ) (fresh : List Lexeme) → IsNew new fresh → Fresh fresh
fresh-of new fresh h = record {
  fits = items-follow line_feed fresh [] (λ y. tt) h.are_items.each;
  good = items-good fresh [] h.are_items.each;
  tight = h.tight;
  no_remarks = h.no_remarks;
}

pub as-one-same : (new : List ℕ) (fresh : List Lexeme) → IsNew new fresh → joined (as_one new) ≡ joined fresh
as-one-same new fresh h = append-nil new ∙ sym h.are_items.joins
