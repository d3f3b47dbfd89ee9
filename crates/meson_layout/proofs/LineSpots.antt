-- What the looks at the lines beside a statement say of the items there.
use Rattle.std.proofs.Common.{◌≡◌, ℕ, ◌+◌, ◌-◌, ◌<◌, ◌≤◌, Bool, true, false, cond, not, ◌&&◌, ◌⊎◌, List, [], ◌∷◌, ◌++◌, length, get_or, take, drop, refl, sym, ap, ap₂, ◌∙◌, subst, inl, inr, append_assoc, length-take, arith}
use Rattle.std.specs.List.{AllByRecursion}
use Rattle.std.proofs.Math.Seq.{take-add, take-append_seam, drop-append_seam}
use Rattle.meson_layout.proofs.Splits.{drop-add}
use Rattle.std.proofs.Math.Numerals.{one-add}
use Rattle.std.proofs.lemmas.Bool.{cond-true, cond-false, cond_both, and_parts, and_from}
use Rattle.std.proofs.lemmas.List.{append-nil, length-append, take-append-drop, reverse-reverse, reverse-append, length-reverse, get_or-reverse}
use Rattle.std.specs.Prelude.{reverse}
use Rattle.meson_lex.specs.declared.kinds.Kind.{Kind}
use Rattle.meson_lex.specs.declared.kinds.Kind.TheVariants as k
use Rattle.meson_lex.specs.Items.{Lexeme}
use Rattle.meson_layout.specs.Looks.{at_most_blank, is_blank_kind, is_comment, is_gap, is_line_end, one_if, but_last, last_few}
use Rattle.meson_layout.specs.Statements.{at_line_start}
use Rattle.meson_layout.specs.LineSpots.{in_line_len, comment_line_len, comment_lines_len}
use Rattle.meson_layout.specs.FileLaws.{is_in_line, items_of_lines, IsCommentLine}
use Rattle.meson_layout.proofs.Ends.{AllGap, back-parts, gap-join, blank-kind, comment-kind, line-kind}

-- ---- backwards

-- the last few items and those before them, backwards
pub back-ends : (n : ℕ) (xs : List Lexeme) → n ≤ length xs → (reverse (but_last n xs) ≡ drop n (reverse xs)) × (reverse (last_few n xs) ≡ take n (reverse xs))
back-ends n xs few =
    let rev = reverse xs in
    let whole : xs ≡ reverse (drop n rev) ++ reverse (take n rev) = sym (reverse-reverse xs) ∙ ap reverse (sym (take-append-drop n rev)) ∙ reverse-append (take n rev) (drop n rev) in
    let taken = length-reverse (take n rev) in
    let cut = length-take n rev in
    let all = length-reverse xs in
    let size : length (reverse (take n rev)) ≡ n = omega arith in
    let b = back-parts xs (reverse (drop n rev)) (reverse (take n rev)) n whole size in
    (ap reverse b.0 ∙ reverse-reverse (drop n rev), ap reverse b.1 ∙ reverse-reverse (take n rev))

front-two : (xs : List Lexeme) (a b : Lexeme) → 2 ≤ length xs → a ≡ get_or xs 0 a → b ≡ get_or xs 1 b → xs ≡ a ∷ b ∷ drop 2 xs
front-two [] a b some p q = absurd (omega arith)
front-two (x ∷ []) a b some p q = absurd (omega arith)
front-two (x ∷ y ∷ ys) a b some p q = λ i. sym p i ∷ sym q i ∷ ys

last-two-back : (xs : List Lexeme) (a b : Lexeme) → 2 ≤ length xs → a ≡ get_or xs (length xs - 1) a → b ≡ get_or xs (length xs - 2) b → reverse xs ≡ a ∷ b ∷ drop 2 (reverse xs)
last-two-back xs a b some p q =
    let size = length-reverse xs in
    let at : length xs - 1 - 0 ≡ length xs - 1 = omega arith in
    let next : length xs - 1 - 1 ≡ length xs - 2 = omega arith in
    front-two (reverse xs) a b (omega arith)
    (p ∙ sym (get_or-reverse xs 0 a (omega arith) ∙ ap (λ k. get_or xs k a) at))
    (q ∙ sym (get_or-reverse xs 1 b (omega arith) ∙ ap (λ k. get_or xs k b) next))

-- ---- one line

pub in-line-passes : (xs : List Lexeme) → is_in_line (take (in_line_len xs) xs) ≡ true
in-line-passes [] = refl
in-line-passes (x ∷ xs) =
    let P : ℕ → Type 0 = λ n. is_in_line (take n (x ∷ xs)) ≡ true in
    cond_both (not (is_line_end x.kind)) _ _ P (λ yes. subst P (sym (one-add _)) (and_from _ _ yes (in-line-passes xs))) (λ other. refl)

not-false : (b : Bool) → not b ≡ false → b ≡ true
not-false true h = refl
not-false false h = absurd cc

pub in-line-stops : (xs : List Lexeme) → at_line_start (drop (in_line_len xs) xs) ≡ true
in-line-stops [] = refl
in-line-stops (x ∷ xs) =
    let P : ℕ → Type 0 = λ n. at_line_start (drop n (x ∷ xs)) ≡ true in
    cond_both (not (is_line_end x.kind)) _ _ P (λ yes. subst P (sym (one-add _)) (in-line-stops xs)) (λ other. not-false (is_line_end x.kind) other)

-- ---- a comment line

-- the comment line at the end of items
pub comment-line-is : (items : List Lexeme) (note end : Lexeme) (n : ℕ) → 2 ≤ length items → end ≡ get_or items (length items - 1) end → note ≡ get_or items (length items - 2) note
    → is_line_end end.kind ≡ true → is_comment note.kind ≡ true → n ≡ one_if is_blank_kind (reverse (but_last 2 items)) → n ≤ length (but_last 2 items)
    → comment_line_len (reverse items) ≡ cond (at_line_start (reverse (but_last n (but_last 2 items)))) (n + 2) 0
comment-line-is items note end n some p q ends is_note blank few =
    let rest = drop 2 (reverse items) in
    let before = (back-ends 2 items some).0 in
    let back = (back-ends n (but_last 2 items) few).0 ∙ ap (drop n) before in
    ap comment_line_len (last-two-back items end note some p q)
    ∙ cond-true (is_line_end end.kind && is_comment note.kind) _ _ (and_from _ _ ends is_note)
    ∙ ap (λ m. cond (at_line_start (drop m rest)) (m + 2) 0) (sym (blank ∙ ap (one_if is_blank_kind) before))
    ∙ ap (λ xs. cond (at_line_start xs) (n + 2) 0) (sym back)

-- ---- one comment line after the other

-- `m` counts the comment lines, and `n` counts the first of them
abbrev IsStep : (n m : ℕ) → List Lexeme → Type 0
IsStep n m xs = ((n ≡ 0) × (m ≡ 0)) ⊎ ((0 < n) × (m ≡ n + comment_lines_len (drop n xs)))

blank-no-line : (κ : Kind) → is_blank_kind κ ≡ true → is_line_end κ ≡ false
blank-no-line k.Blank h = refl
blank-no-line _ h = absurd cc

module _ (end note x : Lexeme) (xs : List Lexeme) where
  abbrev all : List Lexeme
  all = end ∷ note ∷ x ∷ xs

  with-blank : (starts : Bool) → IsStep (cond starts 3 0) (cond starts (3 + comment_lines_len xs) 0) all
  with-blank true = inr (omega arith, refl)
  with-blank false = inl (refl, refl)

  without-blank : (ends : Bool) → IsStep (cond ends 2 0) (cond ends (2 + comment_lines_len (x ∷ xs)) 0) all
  without-blank true = inr (omega arith, refl)
  without-blank false = inl (refl, refl)

  step-by : (white ends : Bool) → is_line_end x.kind ≡ ends → (white ≡ true → ends ≡ false)
      → IsStep (let n = cond white 1 0 in cond (at_line_start (drop n (x ∷ xs))) (n + 2) 0) (cond ends (2 + comment_lines_len (x ∷ xs)) (cond (white && at_line_start xs) (3 + comment_lines_len xs) 0)) all
  step-by true true e apart = let wrong = apart refl in absurd cc
  step-by true false e apart = with-blank (at_line_start xs)
  step-by false true e apart = subst (λ b. IsStep (cond b 2 0) (2 + comment_lines_len (x ∷ xs)) all) (sym e) (without-blank true)
  step-by false false e apart = subst (λ b. IsStep (cond b 2 0) 0 all) (sym e) (without-blank false)

  step-three : (is : Bool) → IsStep (let n = one_if is_blank_kind (x ∷ xs) in cond is (cond (at_line_start (drop n (x ∷ xs))) (n + 2) 0) 0)
      (cond is (cond (is_line_end x.kind) (2 + comment_lines_len (x ∷ xs)) (cond (is_blank_kind x.kind && at_line_start xs) (3 + comment_lines_len xs) 0)) 0) all
  step-three true = step-by (is_blank_kind x.kind) (is_line_end x.kind) refl (blank-no-line x.kind)
  step-three false = inl (refl, refl)

step-two : (end note : Lexeme) (is : Bool) → IsStep (cond is 2 0) (cond is 2 0) (end ∷ note ∷ [])
step-two end note true = inr (omega arith, refl)
step-two end note false = inl (refl, refl)

step : (xs : List Lexeme) → IsStep (comment_line_len xs) (comment_lines_len xs) xs
step [] = inl (refl, refl)
step (end ∷ []) = inl (refl, refl)
step (end ∷ note ∷ []) = step-two end note (is_line_end end.kind && is_comment note.kind)
step (end ∷ note ∷ x ∷ xs) = step-three end note x xs (is_line_end end.kind && is_comment note.kind)

pub no-comment-lines : (xs : List Lexeme) → comment_line_len xs ≡ 0 → comment_lines_len xs ≡ 0
no-comment-lines xs none = elim (step xs) [ inl h ↦ h.1 | inr h ↦ absurd (omega arith) ]

no-comment-line : (xs : List Lexeme) → comment_lines_len xs ≡ 0 → comment_line_len xs ≡ 0
no-comment-line xs none = elim (step xs) [ inl h ↦ h.0 | inr h ↦ absurd (let more = h.1 in let some = h.0 in omega arith) ]

pub more-comment-lines : (xs : List Lexeme) → 0 < comment_line_len xs → comment_lines_len xs ≡ comment_line_len xs + comment_lines_len (drop (comment_line_len xs) xs)
more-comment-lines xs some = elim (step xs) [ inl h ↦ absurd (omega arith) | inr h ↦ h.1 ]

-- a turn of the loop that leaves out a comment line at the end
pub one-line-less : (items rest : List Lexeme) (n : ℕ) → n ≡ comment_line_len (reverse rest) → 0 < n → n ≤ length rest → length items - comment_lines_len (reverse items) ≡ length rest - comment_lines_len (reverse rest)
    → length items - comment_lines_len (reverse items) ≡ length (but_last n rest) - comment_lines_len (reverse (but_last n rest))
one-line-less items rest n line some few same =
    let back = back-ends n rest few in
    let more = more-comment-lines (reverse rest) (subst (λ m. 0 < m) line some) in
    let next : comment_lines_len (reverse rest) ≡ n + comment_lines_len (reverse (but_last n rest)) =
    more ∙ ap (λ m. m + comment_lines_len (drop m (reverse rest))) (sym line) ∙ ap (λ xs. n + comment_lines_len xs) (sym back.0) in
    let size = length-take (length rest - n) rest in
    omega arith

-- ---- comment lines

blank-gap : (xs : List Lexeme) → at_most_blank xs ≡ true → AllGap xs
blank-gap [] h = tt
blank-gap (x ∷ []) h = (ap is_gap (blank-kind x.kind h), tt)
blank-gap (x ∷ y ∷ xs) h = absurd cc

line-gap : (xs : List Lexeme) → IsCommentLine xs → AllGap xs
line-gap xs l =
    subst AllGap (sym l.parts) (gap-join l.blank (l.note ∷ l.end ∷ []) (blank-gap l.blank l.is_blank) (ap is_gap (comment-kind l.note.kind l.is_note), (ap is_gap (line-kind l.end.kind l.is_end), tt)))

pub lines-gap : (lines : List (List Lexeme)) → AllByRecursion IsCommentLine lines → AllGap (items_of_lines lines)
lines-gap [] each = tt
lines-gap (line ∷ lines) each = gap-join line (items_of_lines lines) (line-gap line each.0) (lines-gap lines each.1)

-- one more at the end
lines-join : (lines : List (List Lexeme)) (line : List Lexeme) → items_of_lines (lines ++ line ∷ []) ≡ items_of_lines lines ++ line
lines-join [] line = append-nil line
lines-join (first ∷ lines) line = ap (λ xs. first ++ xs) (lines-join lines line) ∙ sym (append_assoc first (items_of_lines lines) line)

all-join : (lines : List (List Lexeme)) (line : List Lexeme) → AllByRecursion IsCommentLine lines → IsCommentLine line → AllByRecursion IsCommentLine (lines ++ line ∷ [])
all-join [] line each is = (is, tt)
all-join (first ∷ lines) line each is = (each.0, all-join lines line each.1 is)

-- a number of items are comment lines, backwards: what is beyond them begins a line, and is no such line
pub record IsNotes (n : ℕ) (xs : List Lexeme) : Type 0 where
  pub start : at_line_start (drop n xs) ≡ true
  pub over : comment_line_len (drop n xs) ≡ 0
  pub few : n ≤ length xs
  pub lines : List (List Lexeme)
  pub are_lines : AllByRecursion IsCommentLine lines
  pub joins : reverse (take n xs) ≡ items_of_lines lines

no-notes : (xs : List Lexeme) → at_line_start xs ≡ true → comment_lines_len xs ≡ 0 → IsNotes 0 xs
no-notes xs h none = record { start = h; over = no-comment-line xs none; few = omega arith; lines = []; are_lines = tt; joins = refl }

line-more : (n : ℕ) (line rest : List Lexeme) → IsCommentLine line → IsNotes n rest → IsNotes (length line + n) (reverse line ++ rest)
line-more n line rest is more =
    let back = reverse line in
    let size : length line ≡ length back = sym (length-reverse line) in
    let seam : drop (length line) (back ++ rest) ≡ rest = ap (λ m. drop m (back ++ rest)) size ∙ drop-append_seam back rest in
    let left : drop (length line + n) (back ++ rest) ≡ drop n rest = drop-add (length line) n (back ++ rest) ∙ ap (drop n) seam in
    let taken : take (length line + n) (back ++ rest) ≡ back ++ take n rest =
    take-add (length line) n (back ++ rest) ∙ ap₂ (λ a b. a ++ take n b) (ap (λ m. take m (back ++ rest)) size ∙ take-append_seam back rest) seam in
    let both = length-append back rest in
    let few = more.few in
    record {
      start = ap at_line_start left ∙ more.start;
      over = ap comment_line_len left ∙ more.over;
      few = omega arith;
      lines = more.lines ++ line ∷ [];
      are_lines = all-join more.lines line more.are_lines is;
      joins = ap reverse taken ∙ reverse-append back (take n rest) ∙ ap₂ (λ a b. a ++ b) more.joins (reverse-reverse line) ∙ sym (lines-join more.lines line);
    }

plain-line : (note end : Lexeme) → (is_line_end end.kind && is_comment note.kind) ≡ true → IsCommentLine (note ∷ end ∷ [])
plain-line note end h =
    let both = and_parts (is_line_end end.kind) (is_comment note.kind) h in
    record { blank = []; note = note; end = end; parts = refl; is_blank = refl; is_note = both.1; is_end = both.0 }

indented-line : (x note end : Lexeme) → (is_line_end end.kind && is_comment note.kind) ≡ true → is_blank_kind x.kind ≡ true → IsCommentLine (x ∷ note ∷ end ∷ [])
indented-line x note end h white =
    let both = and_parts (is_line_end end.kind) (is_comment note.kind) h in
    record { blank = x ∷ []; note = note; end = end; parts = refl; is_blank = white; is_note = both.1; is_end = both.0 }

pub notes : (xs : List Lexeme) → at_line_start xs ≡ true → IsNotes (comment_lines_len xs) xs
notes [] h = no-notes [] h refl
notes (end ∷ []) h = no-notes (end ∷ []) h refl
notes (end ∷ note ∷ []) h =
    cond_both (is_line_end end.kind && is_comment note.kind) _ _ (λ n. IsNotes n (end ∷ note ∷ []))
    (λ is. line-more 0 (note ∷ end ∷ []) [] (plain-line note end is) (no-notes [] refl refl))
    (λ other. no-notes (end ∷ note ∷ []) h (cond-false _ _ _ other))
notes (end ∷ note ∷ x ∷ xs) h =
    let all = end ∷ note ∷ x ∷ xs in
    let P : ℕ → Type 0 = λ n. IsNotes n (end ∷ note ∷ x ∷ xs) in
    cond_both (is_line_end end.kind && is_comment note.kind) _ _ P
    (λ is. cond_both (is_line_end x.kind) _ _ P
    (λ ends. line-more (comment_lines_len (x ∷ xs)) (note ∷ end ∷ []) (x ∷ xs) (plain-line note end is) (notes (x ∷ xs) ends))
    (λ goes_on. cond_both (is_blank_kind x.kind && at_line_start xs) _ _ P
    (λ white.
    let both = and_parts (is_blank_kind x.kind) (at_line_start xs) white in
    line-more (comment_lines_len xs) (x ∷ note ∷ end ∷ []) xs (indented-line x note end is both.0) (notes xs both.1))
    (λ other. no-notes all h (cond-true _ _ _ is ∙ cond-false _ _ _ goes_on ∙ cond-false _ _ _ other))))
    (λ other. no-notes all h (cond-false _ _ _ other))
