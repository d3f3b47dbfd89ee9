-- The laws of what comes in the place of a value, and of a list's first element.
use Rattle.std.proofs.Common.{◌≡◌, ℕ, ◌+◌, List, [], ◌∷◌, ◌++◌, length, take, drop, refl, sym, ap, ap₂, ◌∙◌, subst, append_assoc, inl, arith}
use Rattle.std.proofs.lemmas.List.{append-nil, length-append}
use Rattle.std.proofs.Math.Seq.{take-append_seam, drop-append_seam}
use Rattle.meson_lex.specs.declared.kinds.Kind.{Kind}
use Rattle.meson_lex.specs.declared.kinds.Kind.TheVariants as k
use Rattle.meson_lex.specs.declared.kinds.Span.{Span}
use Rattle.meson_lex.specs.Items.{Lexeme, joined, IsItemList}
use Rattle.meson_lex.specs.Kinds.{OfKind}
use Rattle.meson_lex.specs.Significant.{Word, Opens, role}
use Rattle.meson_lex.proofs.Seams.{joined-append}
use Rattle.meson_layout.specs.declared.primitive.Primitive.TheVariants.{First, Replace, Wrap}
use Rattle.meson_lex.specs.Words.{spoken, IsTight}
use Rattle.meson_layout.specs.Words.{remarks, IsBehindElement, IsBeforeValue}
use Rattle.meson_layout.specs.Pieces.{as_one, splices, line_feed, open_square, close_square}
use Rattle.meson_layout.specs.Insertion.{first}
use Rattle.meson_layout.specs.Layout.{Parts, before_len, first_in, layout_of, replaced, wrapped}
use Rattle.meson_layout.specs.Edited.{ListOfItems, PartIn, IsNew, Edited}
use Rattle.meson_layout.specs.Laws.{FirstLaw, ReplacementLaw, WrapLaw, WrapKeeps}
use Rattle.meson_layout.proofs.FirstBytes.{soft_item}
use Rattle.meson_layout.proofs.Near.{Follow, AllGood, IsLoose, last, items-good, follow-join, follow-front, follow-rest, good-join, good-front, good-rest}
use Rattle.meson_layout.proofs.Seams.{near-soft, near-loose, loose-last, no-comment, speaks-no-line, opens-loose, reloose, resoft, SoftFirst, soft-behind}
use Rattle.meson_layout.proofs.Ends.{spoken-append, remarks-append}
use Rattle.meson_layout.proofs.Inserted.{Site, Fresh, tight-calm}
use Rattle.meson_layout.proofs.Made.{Made, within, edited}
use Rattle.meson_layout.proofs.Parts.{before-is}
use Rattle.meson_layout.proofs.Sites.{before, behind, whole-is, at-parts, site, inner-fits, all-remarks, fresh-of, as-one-same}

-- ---- values

-- what may come in the place of a value
pub record Value (new : List Lexeme) : Type 0 where
  pub fits : Follow line_feed new
  pub good : AllGood new
  pub tight : IsTight new

pub value-before : (o c : Lexeme) (left own right : List Lexeme) → Site o c left own right → IsBeforeValue (spoken left) → IsLoose (last o left)
value-before o c left own right site ends =
    let t = site.tight in
    let all : Follow o (left ++ (own ++ (right ++ c ∷ []))) = subst (Follow o) (append_assoc left (own ++ right) (c ∷ []) ∙ ap (λ l. left ++ l) (append_assoc own right (c ∷ []))) site.fits in
    let here : Follow (last o left) (t.first ∷ (t.more ++ (right ++ c ∷ []))) = subst (λ l. Follow (last o left) (l ++ (right ++ c ∷ []))) t.begins (follow-rest o left _ all) in
    let good : AllGood (t.first ∷ t.more) = subst AllGood t.begins (good-front own right (good-rest left (own ++ right) site.good)) in
    loose-last o left site.opens ends (no-comment (last o left) t.first here.0 (speaks-no-line t.first.kind t.first_speaks) good.0)

replaced-made : (o c : Lexeme) (left own right : List Lexeme) → Site o c left own right → IsBeforeValue (spoken left) → IsBehindElement (spoken right) → (new : List Lexeme) → Value new
    → Made o c left right (left ++ (new ++ right)) (spoken left ++ (spoken new ++ spoken right)) (remarks left ++ (remarks new ++ remarks right))
replaced-made o c left own right site ends behind new v =
    let all : Follow o (left ++ (own ++ (right ++ c ∷ []))) = subst (Follow o) (append_assoc left (own ++ right) (c ∷ []) ∙ ap (λ l. left ++ l) (append_assoc own right (c ∷ []))) site.fits in
    let tail = last (last o left) own in
    let right_fits : Follow tail (right ++ c ∷ []) = follow-rest (last o left) own _ (follow-rest o left _ all) in
    let good_right : AllGood right = good-rest own right (good-rest left (own ++ right) site.good) in
    let soft = soft-behind right c [] behind site.closes (good-join right (c ∷ []) good_right (site.good_close, tt)) in
    let new_right : Follow line_feed (new ++ (right ++ c ∷ [])) = follow-join line_feed new _ v.fits (resoft tail (last line_feed new) _ (tight-calm line_feed new v.tight) soft right_fits) in
    let here = reloose line_feed (last o left) _ (value-before o c left own right site ends) new_right in
    record {
      fits = subst (Follow o) (sym (append_assoc left (new ++ right) (c ∷ []) ∙ ap (λ l. left ++ l) (append_assoc new right (c ∷ [])))) (follow-join o left _ (follow-front o left _ all) here);
      good = good-join left (new ++ right) (good-front left (own ++ right) site.good) (good-join new right v.good good_right);
      says = spoken-append left (new ++ right) ∙ ap (λ l. spoken left ++ l) (spoken-append new right);
      noted = remarks-append left (new ++ right) ∙ ap (λ l. remarks left ++ l) (remarks-append new right);
      keeps = record {
        front = left;
        gone = [];
        between = joined new;
        lost = [];
        rest = right;
        left_is = sym (append-nil left);
        right_is = refl;
        text_is = joined-append left (new ++ right) ∙ ap (λ t. joined left ++ t) (joined-append new right);
        gone_is = inl refl;
        lost_is = inl refl;
      };
    }

module _ (file source : List ℕ) (items : List Lexeme) (list : IsItemList source items) (l : ListOfItems items) (s : Span) (p : PartIn items l s) (ends : IsBeforeValue (spoken p.left)) (follows : IsBehindElement (spoken p.right)) where
  abbrev left : List Lexeme
  left = before source items list l s p

  abbrev right : List Lexeme
  right = behind source items list l s p

  value-edited : (new : List Lexeme) → Value new → Edited source items l p.left p.right (splices file 0 (replaced left p.own right new)) (spoken p.left ++ (spoken new ++ spoken p.right)) (remarks p.left ++ (remarks new ++ remarks p.right))
  value-edited new v =
      edited file source items l list (replaced left p.own right new) p.left p.right (p.left ++ (new ++ p.right)) (spoken p.left ++ (spoken new ++ spoken p.right)) (remarks p.left ++ (remarks new ++ remarks p.right))
      (ap (λ xs. left ++ (p.own ++ xs)) (append-nil right) ∙ whole-is source items list l s p)
      (ap (λ xs. left ++ (new ++ xs)) (append-nil right) ∙ regroup l.front p.left new p.right l.rest)
      (replaced-made l.open_item l.close_item p.left p.own p.right (site source items list l s p) ends follows new v)
    where
      regroup : (f a b d r : List Lexeme) → (f ++ l.open_item ∷ a) ++ (b ++ (d ++ l.close_item ∷ r)) ≡ f ++ l.open_item ∷ ((a ++ (b ++ d)) ++ l.close_item ∷ r)
      regroup f a b d r = simp append_assoc

  replaced-edited : (new : List ℕ) (fresh : List Lexeme) → IsNew new fresh → Edited source items l p.left p.right (layout_of file items (Replace s new)) (spoken p.left ++ (spoken fresh ++ spoken p.right)) (remarks p.left ++ remarks p.right)
  replaced-edited new fresh is =
      let f = fresh-of new fresh is in
      let words = spoken p.left ++ (spoken fresh ++ spoken p.right) in
      let ss : layout_of file items (Replace s new) ≡ splices file 0 (replaced left p.own right fresh) =
      ap (λ (q : Parts). splices file 0 (replaced q.left q.own q.right (as_one new))) (at-parts source items list l s p)
      ∙ ap (λ t. record { file = file; at = 0 + length (joined left); was = joined p.own; now = t } ∷ []) (as-one-same new fresh is) in
      subst (λ xs. Edited source items l p.left p.right xs words (remarks p.left ++ remarks p.right)) (sym ss)
      (subst (Edited source items l p.left p.right (splices file 0 (replaced left p.own right fresh)) words) (ap (λ r. remarks p.left ++ (r ++ remarks p.right)) is.no_remarks) (value-edited fresh (record { fits = f.fits; good = f.good; tight = f.tight })))

  array : List Lexeme
  array = open_square ∷ (p.own ++ close_square ∷ [])

  array-value : Value array
  unfolding array
  array-value =
      let q = site source items list l s p in
      let all : Follow l.open_item (p.left ++ (p.own ++ (p.right ++ l.close_item ∷ []))) =
      subst (Follow l.open_item) (append_assoc p.left (p.own ++ p.right) (l.close_item ∷ []) ∙ ap (λ xs. p.left ++ xs) (append_assoc p.own p.right (l.close_item ∷ []))) q.fits in
      let own : Follow (last l.open_item p.left) p.own = follow-front (last l.open_item p.left) p.own _ (follow-rest l.open_item p.left _ all) in
      let inside : Follow open_square p.own = reloose (last l.open_item p.left) open_square p.own (λ y. tt) own in
      record {
        fits = (tt, follow-join open_square p.own (close_square ∷ []) inside (near-soft (last open_square p.own) close_square (tight-calm open_square p.own p.tight) (soft_item close_square refl refl), tt));
        good = ((refl, refl), good-join p.own (close_square ∷ []) (good-front p.own p.right (good-rest p.left (p.own ++ p.right) q.good)) ((refl, refl), tt));
        tight = record {
          first = open_square;
          more = p.own ++ close_square ∷ [];
          begins = refl;
          first_speaks = refl;
          front = open_square ∷ p.own;
          last = close_square;
          ends = refl;
          last_speaks = refl;
        };
      }

  abbrev array_words : List Word
  array_words = spoken p.left ++ ((k.OpenSquare, []) ∷ (spoken p.own ++ (k.CloseSquare, []) ∷ spoken p.right))

  array-spoken : spoken p.left ++ (spoken array ++ spoken p.right) ≡ array_words
  unfolding array
  array-spoken =
      ap (λ ws. spoken p.left ++ ((k.OpenSquare, []) ∷ (ws ++ spoken p.right))) (spoken-append p.own (close_square ∷ []))
      ∙ ap (λ ws. spoken p.left ++ ((k.OpenSquare, []) ∷ ws)) (append_assoc (spoken p.own) ((k.CloseSquare, []) ∷ []) (spoken p.right))

  array-remarks : remarks p.left ++ (remarks array ++ remarks p.right) ≡ remarks l.inner
  unfolding array
  array-remarks =
      ap (λ rs. remarks p.left ++ (rs ++ remarks p.right)) (remarks-append p.own (close_square ∷ []) ∙ append-nil (remarks p.own))
      ∙ all-remarks source items list l s p

  wrapped-edited : Edited source items l p.left p.right (layout_of file items (Wrap s)) array_words (remarks l.inner)
  unfolding array
  wrapped-edited =
      let ss : layout_of file items (Wrap s) ≡ splices file 0 (replaced left p.own right array) = ap (λ (q : Parts). splices file 0 (wrapped q.left q.own q.right)) (at-parts source items list l s p) in
      subst (λ xs. Edited source items l p.left p.right xs array_words (remarks l.inner)) (sym ss)
      (subst (λ ws. Edited source items l p.left p.right (splices file 0 (replaced left p.own right array)) ws (remarks l.inner)) array-spoken
      (subst (Edited source items l p.left p.right (splices file 0 (replaced left p.own right array)) (spoken p.left ++ (spoken array ++ spoken p.right))) array-remarks (value-edited array array-value)))

pub replacement-law : ReplacementLaw
replacement-law file source items list l s p ends follows new fresh is = replaced-edited file source items list l s p ends follows new fresh is

pub wrap-law : WrapLaw
wrap-law file source items list l s p ends follows = wrapped-edited file source items list l s p ends follows

pub wrap-keeps : WrapKeeps
wrap-keeps file source items list l s p =
    let at : 0 + length (joined (l.front ++ l.open_item ∷ p.left)) ≡ s.from = let from = p.from in omega arith in
    ap (λ (q : Parts). splices file 0 (wrapped q.left q.own q.right)) (at-parts source items list l s p)
    ∙ ap₂ (λ n t. record { file = file; at = n; was = joined p.own; now = 91 ∷ t } ∷ []) at (joined-append p.own (close_square ∷ []))

-- ---- the first element

pub open-one : (κ : Kind) (text : List ℕ) → role κ ≡ Opens → OfKind κ text → length text ≡ 1
open-one k.OpenRound text h of = ap length of
open-one k.OpenSquare text h of = ap length of
open-one k.OpenCurly text h of = ap length of
open-one _ text h of = absurd cc

first-made : (o c : Lexeme) (inner : List Lexeme) → IsLoose o → Follow o (inner ++ c ∷ []) → AllGood inner → SoftFirst (inner ++ c ∷ []) → spoken inner ≡ [] → (fresh : List Lexeme) → Fresh fresh
    → Made o c [] inner (fresh ++ inner) (spoken fresh) (remarks inner)
first-made o c inner l fits good soft none fresh f = record {
  fits = subst (Follow o) (sym (append_assoc fresh inner (c ∷ []))) (reloose line_feed o _ l (follow-join line_feed fresh _ f.fits (resoft o (last line_feed fresh) _ (tight-calm line_feed fresh f.tight) soft fits)));
  good = good-join fresh inner f.good good;
  says = spoken-append fresh inner ∙ ap (λ ws. spoken fresh ++ ws) none ∙ append-nil (spoken fresh);
  noted = remarks-append fresh inner ∙ ap (λ rs. rs ++ remarks inner) f.no_remarks;
  keeps = record {
    front = [];
    gone = [];
    between = joined fresh;
    lost = [];
    rest = inner;
    left_is = refl;
    right_is = refl;
    text_is = joined-append fresh inner;
    gone_is = inl refl;
    lost_is = inl refl;
  };
}

-- the pieces on both sides of the bracket
pub first-parts : (source : List ℕ) (items : List Lexeme) → IsItemList source items → (l : ListOfItems items) (at : ℕ) → at ≡ length (joined l.front) → (new : List ℕ)
    → first_in (before_len (at + 1) items) items (as_one new) ≡ first (l.front ++ l.open_item ∷ []) (l.inner ++ l.close_item ∷ l.rest) (as_one new)
first-parts source items list l at is_at new =
    let o = l.open_item in
    let left : List Lexeme = l.front ++ o ∷ [] in
    let right : List Lexeme = l.inner ++ l.close_item ∷ l.rest in
    let whole : items ≡ left ++ right = l.parts ∙ sym (append_assoc l.front (o ∷ []) right) in
    let one = open-one o.kind o.text l.opens (within source items l list).good_open.0 in
    let size = ap length (joined-append l.front (o ∷ [])) ∙ length-append (joined l.front) (o.text ++ []) ∙ ap (λ t. length (joined l.front) + length t) (append-nil o.text) in
    let place : at + 1 ≡ length (joined left) = omega arith in
    let good : AllGood (left ++ right) = subst AllGood whole (items-good items [] list.each) in
    ap (λ m. first_in m items (as_one new)) (before-is items left right (at + 1) whole place (good-front left right good))
    ∙ ap₂ (λ a b. first a b (as_one new)) (ap (take (length left)) whole ∙ take-append_seam left right) (ap (drop (length left)) whole ∙ drop-append_seam left right)

pub first-law : FirstLaw
first-law file source items list l none at is_at new fresh is =
    let o = l.open_item in
    let c = l.close_item in
    let w = within source items l list in
    let left : List Lexeme = l.front ++ o ∷ [] in
    let right : List Lexeme = l.inner ++ c ∷ l.rest in
    let whole : items ≡ left ++ right = l.parts ∙ sym (append_assoc l.front (o ∷ []) right) in
    let ss : layout_of file items (First at new) ≡ splices file 0 (first left right fresh) =
    ap (splices file 0) (first-parts source items list l at is_at new)
    ∙ ap (λ t. record { file = file; at = 0 + length (joined left); was = []; now = t } ∷ []) (as-one-same new fresh is) in
    let soft = soft-behind l.inner c [] (inl none) l.closes (good-join l.inner (c ∷ []) w.good_inner (w.good_close, tt)) in
    let made = first-made o c l.inner (near-loose o (opens-loose o.kind l.opens)) (inner-fits source items list l) w.good_inner soft none fresh (fresh-of new fresh is) in
    subst (λ xs. Edited source items l [] l.inner xs (spoken fresh) (remarks l.inner)) (sym ss)
    (edited file source items l list (first left right fresh) [] l.inner (fresh ++ l.inner) (spoken fresh) (remarks l.inner)
    (ap (λ xs. left ++ xs) (append-nil right) ∙ sym whole)
    (ap (λ xs. left ++ (fresh ++ xs)) (append-nil right) ∙ append_assoc l.front (o ∷ []) (fresh ++ right) ∙ ap (λ xs. l.front ++ o ∷ xs) (sym (append_assoc fresh l.inner (c ∷ l.rest))))
    made)
