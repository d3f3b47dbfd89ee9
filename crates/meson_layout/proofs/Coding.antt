-- Of items in UTF-8 the splices of a layout make a text in UTF-8: they cut between items, and what they put there is UTF-8.
use Rattle.std.specs.Str.{IsUtf8, IsAscii}
use Rattle.std.proofs.Common.{arith, ◌<◌, ◌≡◌, ℕ, zero, suc, List, [], ◌∷◌, ◌++◌, Option, Some, None, Ok, take, drop, reverse, sym, ap, ◌∙◌, subst, append_assoc}
use Rattle.std.specs.Prelude.{length, ◌-◌, ◌+◌}
use Rattle.std.proofs.lemmas.Bool.{cond_both}
use Rattle.std.proofs.lemmas.List.{append-nil, take-append-drop}
use Rattle.std.proofs.lemmas.Str.{IsUtf8-nil, IsUtf8-append, IsUtf8-from_ascii}
use Rattle.meson_lex.specs.declared.kinds.Span.{Span}
use Rattle.meson_lex.specs.Items.{Lexeme, joined}
use Rattle.meson_layout.specs.declared.primitive.BlankLines.{BlankLines}
use Rattle.meson_layout.specs.declared.primitive.Primitive.{Primitive}
use Rattle.meson_layout.specs.declared.primitive.Primitive.TheVariants.{First, After, Remove, Replace, Wrap, RemoveStatement, Append, Lines}
use Rattle.meson_layout.specs.declared.removal.Growth.{Growth}
use Rattle.meson_layout.specs.Looks.{is_comma, is_line_end, first_is, but_last, last_few, line_before, gap_len, all_white, at_most_blank, note_len, comma_note_len, closing_follows}
use Rattle.meson_layout.specs.Pieces.{Piece, Keep, Change, as_one, comma, space, line_feed, open_square, close_square, splices}
use Rattle.meson_layout.specs.inside.Pieces.{old_items, new_items}
use Rattle.meson_layout.specs.Insertion.{plain_insertion, with_comma, without_comma, before_bracket, no_comma_on_line, stacked, inserted_by, inserted}
use Rattle.meson_layout.specs.Removal.{grown, one_gone, two_gone, two_ranges, comma_len, comma_behind, comma_before, no_comma_behind, removed}
use Rattle.meson_layout.specs.StatementRemoval.{statement_gone, statement_growth, statement_removed}
use Rattle.meson_layout.specs.Statements.{at_line_start, line_end_of, appended}
use Rattle.meson_layout.specs.LineSpots.{lines_after}
use Rattle.meson_layout.specs.Layout.{before_len, spot_len, split_at_span, replaced, wrapped, first_in, pieces}
use Rattle.meson_layout.specs.Laws.{AreTexts, AreUtf8, WritesUtf8, CodingLaw, TextsLaw}
use Rattle.meson_layout.proofs.Parts.{parts-join}
use Rattle.meson_layout.proofs.Patched.{patched-pieces}

abbrev IsCoded : Lexeme → Type 0
IsCoded x = IsUtf8 x.text

coded-append : (xs ys : List Lexeme) → AreUtf8 xs → AreUtf8 ys → AreUtf8 (xs ++ ys)
coded-append [] ys a b = b
coded-append (x ∷ xs) ys a b = (a.0, coded-append xs ys a.1 b)

coded-drop : (n : ℕ) (xs : List Lexeme) → AreUtf8 xs → AreUtf8 (drop n xs)
coded-drop zero xs a = a
coded-drop (suc n) [] a = a
coded-drop (suc n) (x ∷ xs) a = coded-drop n xs a.1

-- ---- items

joined-coded : (items : List Lexeme) → AreUtf8 items → IsUtf8 (joined items)
joined-coded [] a = IsUtf8-nil
joined-coded (x ∷ xs) a = IsUtf8-append x.text (joined xs) a.0 (joined-coded xs a.1)

one-byte : (b : ℕ) → b < 128 → IsUtf8 (b ∷ [])
one-byte b low = IsUtf8-from_ascii (b ∷ []) bounded
  where
    bounded : IsAscii (b ∷ [])
    bounded zero = low
    bounded (suc i) = omega arith

comma-coded : IsCoded comma
comma-coded = one-byte 44 (omega arith)

space-coded : IsCoded space
space-coded = one-byte 32 (omega arith)

line-feed-coded : IsCoded line_feed
line-feed-coded = one-byte 10 (omega arith)

open-coded : IsCoded open_square
open-coded = one-byte 91 (omega arith)

close-coded : IsCoded close_square
close-coded = one-byte 93 (omega arith)

-- ---- pieces: what they put in is UTF-8

abbrev News : List Piece → Type 0
News [] = Unit {0}
News (Keep xs ∷ ps) = News ps
News (Change was now ∷ ps) = AreUtf8 now × News ps

front-coded : (xs ys : List Lexeme) → AreUtf8 (xs ++ ys) → AreUtf8 xs
front-coded [] ys a = tt
front-coded (x ∷ xs) ys a = (a.0, front-coded xs ys a.1)

rest-coded : (xs ys : List Lexeme) → AreUtf8 (xs ++ ys) → AreUtf8 ys
rest-coded [] ys a = a
rest-coded (x ∷ xs) ys a = rest-coded xs ys a.1

new-coded : (ps : List Piece) → AreUtf8 (old_items ps) → News ps → AreUtf8 (new_items ps)
new-coded [] a n = tt
new-coded (Keep xs ∷ ps) a n = coded-append xs (new_items ps) (front-coded xs (old_items ps) a) (new-coded ps (rest-coded xs (old_items ps) a) n)
new-coded (Change was now ∷ ps) a n = coded-append now (new_items ps) n.0 (new-coded ps (rest-coded was (old_items ps) a) n.1)

-- The pieces are of these items, and put in what is UTF-8.
record Fine (items : List Lexeme) (ps : List Piece) : Type 0 where
  pub old : old_items ps ≡ items
  pub news : News ps

-- ---- each layout

whole : (n : ℕ) (xs : List Lexeme) → but_last n xs ++ last_few n xs ≡ xs
whole n xs = take-append-drop (length xs - n) xs

module _ (left own right : List Lexeme) (coded : AreUtf8 left) where
  abbrev All3 : List Lexeme
  All3 = left ++ (own ++ right)

  last-coded : (n : ℕ) → AreUtf8 (last_few n left)
  last-coded n = coded-drop (length left - n) left coded

  ends : left ++ (own ++ (right ++ [])) ≡ All3
  ends = ap (λ r. left ++ (own ++ r)) (append-nil right)

  cut-ends : (n : ℕ) → left ++ (own ++ (take n right ++ (drop n right ++ []))) ≡ All3
  cut-ends n = ap (λ r. left ++ (own ++ (take n right ++ r))) (append-nil (drop n right)) ∙ ap (λ r. left ++ (own ++ r)) (take-append-drop n right)

  module _ (line new : List Lexeme) (line-is : AreUtf8 line) (new-is : AreUtf8 new) where
    line-new : AreUtf8 (line ++ new)
    line-new = coded-append line new line-is new-is

    plain-fine : Fine All3 (plain_insertion left own right new)
    plain-fine = record { old = ends; news = ((comma-coded, (space-coded, new-is)), tt) }

    with-comma-fine : (n : ℕ) → Fine All3 (with_comma n left own right line new)
    with-comma-fine n = record {
      old = cut-ends n;
      news = (coded-append line (new ++ comma ∷ []) line-is (coded-append new (comma ∷ []) new-is (comma-coded, tt)), tt);
    }

    without-comma-fine : (n : ℕ) → Fine All3 (without_comma n left own right line new)
    without-comma-fine zero = record { old = ends; news = ((comma-coded, line-new), tt) }
    without-comma-fine (suc n) = record { old = cut-ends (suc n); news = ((comma-coded, tt), (line-new, tt)) }

    bracket-fine : Fine All3 (before_bracket left own right line new)
    bracket-fine = record { old = ends; news = ((comma-coded, line-new), tt) }

    no-comma-fine : (o : Option ℕ) → Fine All3 (no_comma_on_line o left own right line new)
    no-comma-fine (Some n) = without-comma-fine n
    no-comma-fine None = cond_both (closing_follows right) _ _ (Fine All3) (λ h. bracket-fine) (λ h. plain-fine)

    stacked-fine : (o : Option ℕ) → Fine All3 (stacked o left own right line new)
    stacked-fine (Some n) = with-comma-fine n
    stacked-fine None = no-comma-fine (note_len right)

  inserted-fine : (new : List Lexeme) → AreUtf8 new → Fine All3 (inserted left own right new)
  unfolding inserted
  inserted-fine new new-is = by-line (line_before left)
    where
      by-line : (o : Option ℕ) → Fine All3 (inserted_by o left own right new)
      by-line (Some n) = stacked-fine (last_few (suc n) left) new (last-coded (suc n)) new-is (comma_note_len right)
      by-line None = plain-fine [] new tt new-is

  replaced-fine : (new : List Lexeme) → AreUtf8 new → Fine All3 (replaced left own right new)
  replaced-fine new new-is = record { old = ends; news = (new-is, tt) }

-- ---- removals

regroup : (a b r t d : List Lexeme) → a ++ ((b ++ (r ++ t)) ++ (d ++ [])) ≡ (a ++ b) ++ (r ++ (t ++ d))
regroup a b r t d = simp (append_assoc, append-nil)

regroup-all : (a b r t d e o u v : List Lexeme) → a ++ ((b ++ (r ++ t)) ++ (d ++ ((e ++ (o ++ u)) ++ (v ++ [])))) ≡ (a ++ b) ++ (r ++ ((t ++ d) ++ (e ++ (o ++ (u ++ v)))))
regroup-all a b r t d e o u v = simp (append_assoc, append-nil)

module _ (g : Growth) (left range right : List Lexeme) where
  one-gone-fine : Fine (left ++ (range ++ right)) (one_gone g left range right)
  one-gone-fine = record { old = joins; news = (tt, tt) }
    where
      joins : but_last g.before left ++ ((last_few g.before left ++ (range ++ take g.behind right)) ++ (drop g.behind right ++ [])) ≡ left ++ (range ++ right)
      joins =
          regroup (but_last g.before left) (last_few g.before left) range (take g.behind right) (drop g.behind right)
          ∙ ap (λ l. l ++ (range ++ (take g.behind right ++ drop g.behind right))) (whole g.before left)
          ∙ ap (λ r. left ++ (range ++ r)) (take-append-drop g.behind right)

module _ (left range mid other right : List Lexeme) where
  abbrev All5 : List Lexeme
  All5 = left ++ (range ++ (mid ++ (other ++ right)))

  two-gone-fine : (g h : Growth) → Fine All5 (two_gone g h left range mid other right)
  two-gone-fine g h = record { old = joins (but_last h.before mid) (whole h.before mid); news = (tt, (tt, tt)) }
    where
      joins : (between : List Lexeme) → between ++ last_few h.before mid ≡ mid
          → but_last g.before left ++ ((last_few g.before left ++ (range ++ take g.behind between)) ++ (drop g.behind between ++ ((last_few h.before mid ++ (other ++ take h.behind right)) ++ (drop h.behind right ++ [])))) ≡ All5
      joins between cut =
          regroup-all (but_last g.before left) (last_few g.before left) range (take g.behind between) (drop g.behind between) (last_few h.before mid) other (take h.behind right) (drop h.behind right)
          ∙ ap (λ l. l ++ (range ++ ((take g.behind between ++ drop g.behind between) ++ (last_few h.before mid ++ (other ++ (take h.behind right ++ drop h.behind right)))))) (whole g.before left)
          ∙ ap (λ m. left ++ (range ++ (m ++ (last_few h.before mid ++ (other ++ (take h.behind right ++ drop h.behind right)))))) (take-append-drop g.behind between)
          ∙ ap (λ r. left ++ (range ++ (between ++ (last_few h.before mid ++ (other ++ r))))) (take-append-drop h.behind right)
          ∙ ap (λ m. left ++ (range ++ m)) (sym (append_assoc between (last_few h.before mid) (other ++ right)) ∙ ap (λ m. m ++ (other ++ right)) cut)

  two-ranges-fine : Fine All5 (two_ranges left range mid other right)
  two-ranges-fine = two-gone-fine (grown left (but_last (grown mid right).before mid)) (grown mid right)

fine-of : {xs ys : List Lexeme} {ps : List Piece} → xs ≡ ys → Fine xs ps → Fine ys ps
fine-of {ps = ps} e f = subst (λ l. Fine l ps) e f

module _ (left own right : List Lexeme) where
  comma-behind-fine : (mid after : List Lexeme) → mid ++ after ≡ right → Fine (left ++ (own ++ right)) (comma_behind left own mid after)
  comma-behind-fine mid after e =
      let n = comma_len after in
      cond_both (at_most_blank mid) _ _ (Fine (left ++ (own ++ right)))
      (λ h. fine-of (one-cut mid (take n after) (drop n after) ∙ ap (λ r. left ++ (own ++ (mid ++ r))) (take-append-drop n after) ∙ ap (λ r. left ++ (own ++ r)) e)
      (one-gone-fine (grown left (drop n after)) left (own ++ (mid ++ take n after)) (drop n after)))
      (λ h. fine-of (ap (λ r. left ++ (own ++ (mid ++ r))) (take-append-drop n after) ∙ ap (λ r. left ++ (own ++ r)) e) (two-ranges-fine left own mid (take n after) (drop n after)))
    where
      one-cut : (m a b : List Lexeme) → left ++ ((own ++ (m ++ a)) ++ b) ≡ left ++ (own ++ (m ++ (a ++ b)))
      one-cut m a b = simp append_assoc

  comma-before-fine : (front range mid : List Lexeme) → front ++ (range ++ mid) ≡ left → Fine (left ++ (own ++ right)) (comma_before front range mid own right)
  comma-before-fine front range mid e =
      cond_both (all_white mid) _ _ (Fine (left ++ (own ++ right)))
      (λ h. fine-of (one-cut front range mid ∙ ap (λ l. l ++ (own ++ right)) e) (one-gone-fine (grown front right) front (range ++ (mid ++ own)) right))
      (λ h. fine-of (two-cut front range mid ∙ ap (λ l. l ++ (own ++ right)) e) (two-ranges-fine front range mid own right))
    where
      one-cut : (f r m : List Lexeme) → f ++ ((r ++ (m ++ own)) ++ right) ≡ (f ++ (r ++ m)) ++ (own ++ right)
      one-cut f r m = simp append_assoc

      two-cut : (f r m : List Lexeme) → f ++ (r ++ (m ++ (own ++ right))) ≡ (f ++ (r ++ m)) ++ (own ++ right)
      two-cut f r m = simp append_assoc

  no-comma-behind-fine : (m : ℕ) → Fine (left ++ (own ++ right)) (no_comma_behind m left own right)
  no-comma-behind-fine m =
      let before = but_last m left in
      cond_both (first_is is_comma (reverse before)) _ _ (Fine (left ++ (own ++ right)))
      (λ h. comma-before-fine (but_last 1 before) (last_few 1 before) (last_few m left)
      (sym (append_assoc (but_last 1 before) (last_few 1 before) (last_few m left)) ∙ ap (λ l. l ++ last_few m left) (whole 1 before) ∙ whole m left))
      (λ h. one-gone-fine (grown left right) left own right)

  removed-fine : Fine (left ++ (own ++ right)) (removed left own right)
  unfolding removed
  removed-fine =
      let n = gap_len right in
      cond_both (first_is is_comma (drop n right)) _ _ (Fine (left ++ (own ++ right)))
      (λ h. comma-behind-fine (take n right) (drop n right) (take-append-drop n right))
      (λ h. no-comma-behind-fine (gap_len (reverse left)))

  -- ---- statements

  gone-fine : (n m : ℕ) → Fine (left ++ (own ++ right)) (statement_gone (record { before = n; behind = m }) left own right)
  gone-fine n m = record { old = joins; news = (tt, tt) }
    where
      joins : but_last n left ++ ((last_few n left ++ (own ++ take m right)) ++ (drop m right ++ [])) ≡ left ++ (own ++ right)
      joins =
          regroup (but_last n left) (last_few n left) own (take m right) (drop m right)
          ∙ ap (λ l. l ++ (own ++ (take m right ++ drop m right))) (whole n left)
          ∙ ap (λ r. left ++ (own ++ r)) (take-append-drop m right)

  statement-fine : (blank : BlankLines) → Fine (left ++ (own ++ right)) (statement_removed blank left own right)
  unfolding statement_removed
  statement-fine blank = let g = statement_growth blank left right in gone-fine g.before g.behind

line-coded : (items : List Lexeme) → AreUtf8 items → IsCoded (line_end_of items)
line-coded [] a = line-feed-coded
line-coded (x ∷ xs) a = cond_both (is_line_end x.kind) _ _ IsCoded (λ h. a.0) (λ h. line-coded xs a.1)

appended-fine : (items new : List Lexeme) → AreUtf8 items → AreUtf8 new → Fine items (appended items new)
unfolding appended
appended-fine items new a n =
    let line = line_end_of items in
    let ended = coded-append new (line ∷ []) n (line-coded items a, tt) in
    record { old = append-nil items; news = (cond_both (at_line_start (reverse items)) _ _ AreUtf8 (λ h. ended) (λ h. (line-coded items a, ended)), tt) }

lines-fine : (n : ℕ) (items new : List Lexeme) → AreUtf8 items → AreUtf8 new → Fine items (lines_after n items new)
unfolding lines_after
lines-fine n items new a u = record {
  old = ap (λ r. take n items ++ r) (append-nil (drop n items)) ∙ take-append-drop n items;
  news = (cond_both (at_line_start (reverse (take n items))) _ _ AreUtf8 (λ h. u) (λ h. (line-coded items a, u)), tt);
}

-- ---- any layout

module _ (items : List Lexeme) (coded : AreUtf8 items) where
  at-span : (s : Span) (f : List Lexeme → List Lexeme → List Lexeme → List Piece) → ((left own right : List Lexeme) → AreUtf8 left → AreUtf8 own → Fine (left ++ (own ++ right)) (f left own right))
      → Fine items (let p = split_at_span s items in f p.left p.own p.right)
  at-span s f fine =
      let p = split_at_span s items in
      let all = subst AreUtf8 (sym (parts-join s items)) coded in
      fine-of (parts-join s items) (fine p.left p.own p.right (front-coded p.left (p.own ++ p.right) all) (front-coded p.own p.right (rest-coded p.left (p.own ++ p.right) all)))

  one-item : (new : List ℕ) → IsUtf8 new → AreUtf8 (as_one new)
  one-item new u = (u, tt)

  first-fine : (n : ℕ) (new : List Lexeme) → AreUtf8 new → Fine items (first_in n items new)
  first-fine n new a = record { old = ap (λ r. take n items ++ r) (append-nil (drop n items)) ∙ take-append-drop n items; news = (a, tt) }

  pieces-fine : (primitive : Primitive) → WritesUtf8 primitive → Fine items (pieces primitive items)
  pieces-fine (First bracket new) u = first-fine (before_len (bracket + 1) items) (as_one new) (one-item new u)
  pieces-fine (After element new) u = at-span element (λ l o r. inserted l o r (as_one new)) (λ l o r a b. inserted-fine l o r a (as_one new) (one-item new u))
  pieces-fine (Remove element) u = at-span element removed (λ l o r a b. removed-fine l o r)
  pieces-fine (Replace value new) u = at-span value (λ l o r. replaced l o r (as_one new)) (λ l o r a b. replaced-fine l o r a (as_one new) (one-item new u))
  pieces-fine (Wrap value) u =
      at-span value wrapped (λ l o r a b. replaced-fine l o r a (open_square ∷ (o ++ close_square ∷ [])) (open-coded, coded-append o (close_square ∷ []) b (close-coded, tt)))
  pieces-fine (RemoveStatement statement blank) u = at-span statement (statement_removed blank) (λ l o r a b. statement-fine l o r blank)
  pieces-fine (Append new) u = appended-fine items (as_one new) coded (one-item new u)
  pieces-fine (Lines spot new) u = lines-fine (spot_len spot items) items (as_one new) coded (one-item new u)

pub coding-law : CodingLaw
coding-law file source items are coded primitive u text patches =
    let fine = pieces-fine items coded primitive u in
    let made = patched-pieces file source (pieces primitive items) (ap joined fine.old ∙ are.joins) in
    let same : Ok text ≡ Ok (joined (new_items (pieces primitive items))) = sym patches ∙ made in
    let is : text ≡ joined (new_items (pieces primitive items)) = cc in
    subst IsUtf8 (sym is) (joined-coded (new_items (pieces primitive items)) (new-coded (pieces primitive items) (subst AreUtf8 (sym fine.old) coded) fine.news))

-- ---- the splices

texts-of : (file : List ℕ) (at : ℕ) (ps : List Piece) → AreUtf8 (old_items ps) → News ps → AreTexts (splices file at ps)
texts-of file at [] a n = tt
texts-of file at (Keep xs ∷ ps) a n = texts-of file (at + length (joined xs)) ps (rest-coded xs (old_items ps) a) n
texts-of file at (Change was now ∷ ps) a n =
    ((joined-coded was (front-coded was (old_items ps) a), joined-coded now n.0), texts-of file (at + length (joined now)) ps (rest-coded was (old_items ps) a) n.1)

pub texts-law : TextsLaw
texts-law file items coded primitive u =
    let fine = pieces-fine items coded primitive u in
    texts-of file 0 (pieces primitive items) (subst AreUtf8 (sym fine.old) coded) fine.news
