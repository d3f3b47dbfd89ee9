-- An edit of a list is laid out in a file as it is in the list's own text.
use Rattle.std.proofs.Common.{◌≡◌, ℕ, suc, ◌+◌, ◌-◌, ◌<◌, List, [], ◌∷◌, ◌++◌, length, refl, sym, ap, ◌∙◌, arith, append_assoc}
use Rattle.std.proofs.lemmas.List.{append-nil, length-append}
use Rattle.std.specs.Prelude.{map}
use Rattle.meson_lex.specs.declared.kinds.Span.{Span}
use Rattle.meson_lex.specs.Items.{Lexeme, joined, IsItemList}
use Rattle.meson_lex.proofs.Seams.{joined-append}
use Rattle.meson_splice.specs.declared.splice.Splice.{Splice}
use Rattle.meson_layout.specs.declared.primitive.Primitive.{Primitive}
use Rattle.meson_layout.specs.declared.primitive.Primitive.TheVariants.{First, After, Remove, Replace, Wrap, RemoveStatement, Append, Lines}
use Rattle.meson_layout.specs.Edited.{ListOfItems, PartIn}
use Rattle.meson_layout.specs.Insertion.{first, inserted}
use Rattle.meson_layout.specs.Layout.{Parts, before_len, first_in, layout_of, split_at_span, replaced, wrapped}
use Rattle.meson_layout.specs.Local.{IsOfList, LocalLaw, alone, farther, nearer, nearer_span}
use Rattle.meson_layout.specs.Pieces.{Piece, as_one, close_square, open_square, splices}
use Rattle.meson_layout.specs.Removal.{removed}
use Rattle.meson_layout.proofs.Alone.{behind_first, first-behind, parts-behind}
use Rattle.meson_layout.proofs.Bars.{opens-bars, closes-bars}
use Rattle.meson_layout.proofs.LocalPieces.{farther-splices, inserted-same, removed-same, replaced-same}
use Rattle.meson_layout.proofs.Made.{within}
use Rattle.meson_layout.proofs.Near.{AllGood, good-join}
use Rattle.meson_layout.proofs.Parts.{before-is, parts-are}
use Rattle.meson_layout.proofs.Sites.{at-parts}
use Rattle.meson_layout.proofs.ValueLaws.{first-parts, open-one}

-- what an edit makes of the parts of a list is the same behind any items and before any others
abbrev Anywhere : List ℕ → Lexeme → Lexeme → List Lexeme → List Lexeme → List Lexeme → (List Lexeme → List Lexeme → List Lexeme → List Piece) → Type 0
Anywhere file o c left own right f = (front rest : List Lexeme) → splices file 0 (f (front ++ o ∷ left) own (right ++ c ∷ rest)) ≡ splices file (length (joined front)) (f (o ∷ left) own (right ++ c ∷ []))

module _ (file source : List ℕ) (items : List Lexeme) (list : IsItemList source items) (l : ListOfItems items) where
  abbrev far : ℕ
  far = length (joined l.front)

  abbrev o : Lexeme
  o = l.open_item

  abbrev c : Lexeme
  c = l.close_item

  good-alone : AllGood (alone items l)
  good-alone = let w = within source items l list in (w.good_open, good-join l.inner (c ∷ []) w.good_inner (w.good_close, tt))

  open-length : length o.text ≡ 1
  open-length = open-one o.kind o.text l.opens (within source items l list).good_open.0

  -- ---- a part of the list

  module _ (s : Span) (p : PartIn items l s) where
    alone-is : alone items l ≡ (o ∷ p.left) ++ (p.own ++ (p.right ++ c ∷ []))
    alone-is = ap (λ xs. o ∷ (xs ++ c ∷ [])) p.parts ∙ regroup p.left p.own p.right
      where
        regroup : (a b d : List Lexeme) → l.open_item ∷ ((a ++ (b ++ d)) ++ l.close_item ∷ []) ≡ l.open_item ∷ (a ++ (b ++ (d ++ l.close_item ∷ [])))
        regroup a b d = simp append_assoc

    size : (xs : List Lexeme) → length (joined (l.front ++ xs)) ≡ far + length (joined xs)
    size xs = ap length (joined-append l.front xs) ∙ length-append (joined l.front) (joined xs)

    parts-alone : split_at_span (nearer_span far s) (alone items l) ≡ record { left = o ∷ p.left; own = p.own; right = p.right ++ c ∷ [] }
    parts-alone =
        let from : s.from - far ≡ length (joined (o ∷ p.left)) = let whole = p.from ∙ size (o ∷ p.left) in omega arith in
        let to : s.to - far ≡ length (joined ((o ∷ p.left) ++ p.own)) = let whole = p.to ∙ size (o ∷ (p.left ++ p.own)) in omega arith in
        parts-are (alone items l) (o ∷ p.left) p.own (p.right ++ c ∷ []) (nearer_span far s) alone-is from to good-alone

    behind-front : far < s.from
    behind-front = let whole = p.from ∙ size (o ∷ p.left) in let more = length-append o.text (joined p.left) in let one = open-length in omega arith

    abbrev laid : (List Lexeme → List Lexeme → List Lexeme → List Piece) → Parts → List Splice
    laid f q = splices file 0 (f q.left q.own q.right)

    module _ (f : List Lexeme → List Lexeme → List Lexeme → List Piece) (same : Anywhere file o c p.left p.own p.right f) where
      in-file : laid f (split_at_span s items) ≡ splices file far (f (o ∷ p.left) p.own (p.right ++ c ∷ []))
      in-file = ap (laid f) (at-parts source items list l s p) ∙ same l.front l.rest

      pub part-near : laid f (split_at_span s items) ≡ map (farther far) (laid f (split_at_span (nearer_span far s) (alone items l)))
      part-near =
          let none : far ≡ far + 0 = omega arith in
          in-file ∙ ap (λ n. splices file n (f (o ∷ p.left) p.own (p.right ++ c ∷ []))) none ∙ farther-splices file far 0 (f (o ∷ p.left) p.own (p.right ++ c ∷ []))
          ∙ sym (ap (λ q. map (farther far) (laid f q)) parts-alone)

      pub part-behind : (w : Lexeme) → w.text ≡ joined l.front → laid f (split_at_span s (w ∷ alone items l)) ≡ laid f (split_at_span s items)
      part-behind w is =
          let text : length w.text ≡ far = ap length is in
          let before : length w.text < s.from = let b = behind-front in omega arith in
          let here : length (joined (w ∷ [])) ≡ far = ap length (append-nil w.text ∙ is) in
          ap (laid f) (parts-behind w (alone items l) s before ∙ ap (λ n. behind_first w (split_at_span (nearer_span n s) (alone items l))) text ∙ ap (behind_first w) parts-alone)
          ∙ same (w ∷ []) [] ∙ ap (λ n. splices file n (f (o ∷ p.left) p.own (p.right ++ c ∷ []))) here ∙ sym in-file

    inserted-anywhere : (new : List Lexeme) → Anywhere file o c p.left p.own p.right (λ left own right. inserted left own right new)
    inserted-anywhere new front rest = inserted-same o c (opens-bars o.kind l.opens) (closes-bars c.kind l.closes) file front rest p.left p.own p.right new

    removed-anywhere : Anywhere file o c p.left p.own p.right removed
    removed-anywhere front rest = removed-same o c (opens-bars o.kind l.opens) (closes-bars c.kind l.closes) file front rest p.left p.own p.right

    replaced-anywhere : (new : List Lexeme) → Anywhere file o c p.left p.own p.right (λ left own right. replaced left own right new)
    replaced-anywhere new front rest = replaced-same o c (opens-bars o.kind l.opens) (closes-bars c.kind l.closes) file front rest (o ∷ p.left) p.own p.right new

  -- ---- the list's bracket

  module _ (at : ℕ) (is : at ≡ far) (new : List ℕ) where
    abbrev behind : List Lexeme
    behind = l.inner ++ c ∷ []

    first-anywhere : Anywhere file o c [] [] l.inner (λ left own right. first left right (as_one new))
    first-anywhere front rest = replaced-same o c (opens-bars o.kind l.opens) (closes-bars c.kind l.closes) file front rest (o ∷ []) [] l.inner (as_one new)

    first-in-file : layout_of file items (First at new) ≡ splices file far (first (o ∷ []) behind (as_one new))
    first-in-file = ap (splices file 0) (first-parts source items list l at is new) ∙ first-anywhere l.front l.rest

    before-alone : (n : ℕ) → n ≡ 1 → before_len n (alone items l) ≡ 1
    before-alone n one = before-is (alone items l) (o ∷ []) behind n refl (let text = ap length (append-nil o.text) in let size = open-length in omega arith) (good-alone.0, tt)

    first-near : layout_of file items (First at new) ≡ map (farther far) (layout_of file (alone items l) (First (at - far) new))
    first-near =
        let none : far ≡ far + 0 = omega arith in
        first-in-file ∙ ap (λ n. splices file n (first (o ∷ []) behind (as_one new))) none ∙ farther-splices file far 0 (first (o ∷ []) behind (as_one new))
        ∙ sym (ap (λ m. map (farther far) (splices file 0 (first_in m (alone items l) (as_one new)))) (before-alone (at - far + 1) (omega arith)))

    first-behind-it : (w : Lexeme) → w.text ≡ joined l.front → layout_of file (w ∷ alone items l) (First at new) ≡ layout_of file items (First at new)
    first-behind-it w text =
        let size : length w.text ≡ far = ap length text in
        let here : length (joined (w ∷ [])) ≡ far = ap length (append-nil w.text ∙ text) in
        ap (λ m. splices file 0 (first_in m (w ∷ alone items l) (as_one new))) (first-behind (at + 1) w (alone items l) (omega arith) ∙ ap suc (before-alone (at + 1 - length w.text) (omega arith)))
        ∙ first-anywhere (w ∷ []) [] ∙ ap (λ n. splices file n (first (o ∷ []) behind (as_one new))) here ∙ sym first-in-file

  -- ---- each edit

  local : (primitive : Primitive) → IsOfList items l primitive → layout_of file items primitive ≡ map (farther far) (layout_of file (alone items l) (nearer far primitive))
  local (First at new) is = first-near at is new
  local (After s new) p = part-near s p (λ left own right. inserted left own right (as_one new)) (inserted-anywhere s p (as_one new))
  local (Remove s) p = part-near s p removed (removed-anywhere s p)
  local (Replace s new) p = part-near s p (λ left own right. replaced left own right (as_one new)) (replaced-anywhere s p (as_one new))
  local (Wrap s) p = part-near s p wrapped (replaced-anywhere s p (open_square ∷ (p.own ++ close_square ∷ [])))
  local (RemoveStatement s blank) is = absurd is
  local (Append new) is = absurd is
  local (Lines spot new) is = absurd is

  -- where what stands before the list is one item
  pub laid-behind : (w : Lexeme) → w.text ≡ joined l.front → (primitive : Primitive) → IsOfList items l primitive → layout_of file (w ∷ alone items l) primitive ≡ layout_of file items primitive
  laid-behind w text (First at new) is = first-behind-it at is new w text
  laid-behind w text (After s new) p = part-behind s p (λ left own right. inserted left own right (as_one new)) (inserted-anywhere s p (as_one new)) w text
  laid-behind w text (Remove s) p = part-behind s p removed (removed-anywhere s p) w text
  laid-behind w text (Replace s new) p = part-behind s p (λ left own right. replaced left own right (as_one new)) (replaced-anywhere s p (as_one new)) w text
  laid-behind w text (Wrap s) p = part-behind s p wrapped (replaced-anywhere s p (open_square ∷ (p.own ++ close_square ∷ []))) w text
  laid-behind w text (RemoveStatement s blank) is = absurd is
  laid-behind w text (Append new) is = absurd is
  laid-behind w text (Lines spot new) is = absurd is

pub local-law : LocalLaw
local-law file source items list l primitive is = local file source items list l primitive is
