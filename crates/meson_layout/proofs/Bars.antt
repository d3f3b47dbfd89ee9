-- A bracket ends each look: what stands beyond it changes no answer.
use Rattle.std.proofs.Common.{◌≡◌, ℕ, suc, ◌+◌, ◌-◌, ◌<◌, ◌≤◌, Bool, true, false, cond, ◌&&◌, List, [], ◌∷◌, ◌++◌, Option, Some, None, length, drop, refl, sym, ap, ◌∙◌, arith, append_assoc}
use Rattle.std.proofs.lemmas.Bool.{cond_both, and_parts}
use Rattle.std.proofs.lemmas.List.{drop-append-le, length-drop, reverse-append}
use Rattle.std.proofs.lemmas.List.Sums.{prefix_len-le-length}
use Rattle.std.specs.Prelude.{IfSome, reverse}
use Rattle.meson_lex.specs.declared.kinds.Kind.{Kind}
use Rattle.meson_lex.specs.declared.kinds.Kind.TheVariants as k
use Rattle.meson_lex.specs.Items.{Lexeme}
use Rattle.meson_lex.specs.Significant.{Opens, Closes, role}
use Rattle.meson_layout.specs.Looks as look
use Rattle.meson_layout.proofs.Splits.{begun}

-- an item of this kind is passed by no look
pub record Bars (κ : Kind) : Type 0 where
  pub no_blank : look.is_blank_kind κ ≡ false
  pub no_line_end : look.is_line_end κ ≡ false
  pub no_comment : look.is_comment κ ≡ false
  pub no_comma : look.is_comma κ ≡ false
  pub no_gap : look.is_gap κ ≡ false

pub opens-bars : (κ : Kind) → role κ ≡ Opens → Bars κ
opens-bars k.OpenRound h = record { no_blank = refl; no_line_end = refl; no_comment = refl; no_comma = refl; no_gap = refl }
opens-bars k.OpenSquare h = record { no_blank = refl; no_line_end = refl; no_comment = refl; no_comma = refl; no_gap = refl }
opens-bars k.OpenCurly h = record { no_blank = refl; no_line_end = refl; no_comment = refl; no_comma = refl; no_gap = refl }
opens-bars _ h = absurd cc

pub closes-bars : (κ : Kind) → role κ ≡ Closes → Bars κ
closes-bars k.CloseRound h = record { no_blank = refl; no_line_end = refl; no_comment = refl; no_comma = refl; no_gap = refl }
closes-bars k.CloseSquare h = record { no_blank = refl; no_line_end = refl; no_comment = refl; no_comma = refl; no_gap = refl }
closes-bars k.CloseCurly h = record { no_blank = refl; no_line_end = refl; no_comment = refl; no_comma = refl; no_gap = refl }
closes-bars _ h = absurd cc

-- ---- the first item

begins-bar : (test : Kind → Bool) (z : Lexeme) → test z.kind ≡ false → (xs ys : List Lexeme) → look.first_is test (xs ++ z ∷ ys) ≡ look.first_is test xs
begins-bar test z fails [] ys = fails
begins-bar test z fails (x ∷ xs) ys = refl

begins-either : (test : Kind → Bool) (z : Lexeme) (xs ys : List Lexeme) → look.first_is test (xs ++ z ∷ ys) ≡ look.first_is test (xs ++ z ∷ [])
begins-either test z [] ys = refl
begins-either test z (x ∷ xs) ys = refl

one-bar : (test : Kind → Bool) (z : Lexeme) → test z.kind ≡ false → (xs ys : List Lexeme) → look.one_if test (xs ++ z ∷ ys) ≡ look.one_if test xs
one-bar test z fails xs ys = ap (λ b. cond b 1 0) (begins-bar test z fails xs ys)

pub one-le : (test : Kind → Bool) (xs : List Lexeme) → look.one_if test xs ≤ length xs
one-le test [] = omega arith
one-le test (x ∷ xs) = cond_both (test x.kind) _ _ (λ n. n ≤ length (x ∷ xs)) (λ h. omega arith) (λ h. omega arith)

pub begins-some : (test : Kind → Bool) (n : ℕ) (xs : List Lexeme) → look.first_is test (drop n xs) ≡ true → n < length xs
begins-some test n xs h =
    let b = begun test (drop n xs) h in
    let size : length xs - n ≡ length (b.first ∷ b.more) = sym (length-drop n xs) ∙ ap length b.is in
    omega arith

-- ---- lines

module _ (z : Lexeme) (b : Bars z.kind) where
  pub near-bar : (xs ys : List Lexeme) → look.line_near (xs ++ z ∷ ys) ≡ look.line_near xs
  near-bar [] ys =
      ap (λ t. cond t (Some 0) (cond (look.is_blank_kind z.kind && look.first_is look.is_line_end ys) (Some 1) None)) b.no_line_end
      ∙ ap (λ t. cond (t && look.first_is look.is_line_end ys) (Some 1) None) b.no_blank
  near-bar (x ∷ xs) ys = ap (λ t. cond (look.is_line_end x.kind) (Some 0) (cond (look.is_blank_kind x.kind && t) (Some 1) None)) (begins-bar look.is_line_end z b.no_line_end xs ys)

  abbrev blanks : List Lexeme → ℕ
  blanks xs = look.one_if look.is_blank_kind xs

  past : (xs ys : List Lexeme) → drop (blanks (xs ++ z ∷ ys)) (xs ++ z ∷ ys) ≡ drop (blanks xs) xs ++ z ∷ ys
  past xs ys = ap (λ n. drop n (xs ++ z ∷ ys)) (one-bar look.is_blank_kind z b.no_blank xs ys) ∙ drop-append-le (blanks xs) xs (z ∷ ys) (one-le look.is_blank_kind xs)

  pub behind-bar : (xs ys : List Lexeme) → look.line_behind (xs ++ z ∷ ys) ≡ look.line_behind xs
  behind-bar xs ys =
      ap (λ t. cond t (Some (suc (blanks (xs ++ z ∷ ys)))) None) (ap (look.first_is look.is_line_end) (past xs ys) ∙ begins-bar look.is_line_end z b.no_line_end (drop (blanks xs) xs) ys)
      ∙ ap (λ n. cond (look.first_is look.is_line_end (drop (blanks xs) xs)) (Some (suc n)) None) (one-bar look.is_blank_kind z b.no_blank xs ys)

  -- how many comments stand behind the blank
  abbrev notes : List Lexeme → ℕ
  notes xs = look.one_if look.is_comment (drop (blanks xs) xs)

  notes-bar : (xs ys : List Lexeme) → notes (xs ++ z ∷ ys) ≡ notes xs
  notes-bar xs ys = ap (look.one_if look.is_comment) (past xs ys) ∙ one-bar look.is_comment z b.no_comment (drop (blanks xs) xs) ys

  past-note : (xs ys : List Lexeme) → drop (notes (xs ++ z ∷ ys)) (drop (blanks (xs ++ z ∷ ys)) (xs ++ z ∷ ys)) ≡ drop (notes xs) (drop (blanks xs) xs) ++ z ∷ ys
  past-note xs ys =
      ap (drop (notes (xs ++ z ∷ ys))) (past xs ys) ∙ ap (λ n. drop n (drop (blanks xs) xs ++ z ∷ ys)) (notes-bar xs ys)
      ∙ drop-append-le (notes xs) (drop (blanks xs) xs) (z ∷ ys) (one-le look.is_comment (drop (blanks xs) xs))

  pub note-bar : (xs ys : List Lexeme) → look.note_len (xs ++ z ∷ ys) ≡ look.note_len xs
  note-bar xs ys =
      ap (λ t. cond t (Some (blanks (xs ++ z ∷ ys) + notes (xs ++ z ∷ ys))) None)
      (ap (look.first_is look.is_line_end) (past-note xs ys) ∙ begins-bar look.is_line_end z b.no_line_end (drop (notes xs) (drop (blanks xs) xs)) ys)
      ∙ ap (λ n. cond (look.first_is look.is_line_end (drop (notes xs) (drop (blanks xs) xs))) (Some (n + notes (xs ++ z ∷ ys))) None) (one-bar look.is_blank_kind z b.no_blank xs ys)
      ∙ ap (λ n. cond (look.first_is look.is_line_end (drop (notes xs) (drop (blanks xs) xs))) (Some (blanks xs + n)) None) (notes-bar xs ys)

  -- behind the comma, where one stands there
  note-behind : (test : Bool) (xs ys : List Lexeme) → look.first_is look.is_comma xs ≡ test → cond test (look.note_len (drop 1 (xs ++ z ∷ ys))) None ≡ cond test (look.note_len (drop 1 xs)) None
  note-behind false xs ys h = refl
  note-behind true xs ys h = ap look.note_len (drop-append-le 1 xs (z ∷ ys) (let some = begins-some look.is_comma 0 xs h in omega arith)) ∙ note-bar (drop 1 xs) ys

  by-comma : (test : Bool) (n : ℕ) (o : Option ℕ) → cond test (look.more_by (n + 1) o) None ≡ look.more_by (n + 1) (cond test o None)
  by-comma true n o = refl
  by-comma false n o = refl

  pub comma-bar : (xs ys : List Lexeme) → look.comma_note_len (xs ++ z ∷ ys) ≡ look.comma_note_len xs
  comma-bar xs ys =
      let rest = drop (blanks xs) xs in
      ap (λ l. cond (look.first_is look.is_comma l) (look.more_by (blanks (xs ++ z ∷ ys) + 1) (look.note_len (drop 1 l))) None) (past xs ys)
      ∙ ap (λ n. cond (look.first_is look.is_comma (rest ++ z ∷ ys)) (look.more_by (n + 1) (look.note_len (drop 1 (rest ++ z ∷ ys)))) None) (one-bar look.is_blank_kind z b.no_blank xs ys)
      ∙ ap (λ t. cond t (look.more_by (blanks xs + 1) (look.note_len (drop 1 (rest ++ z ∷ ys)))) None) (begins-bar look.is_comma z b.no_comma rest ys)
      ∙ by-comma (look.first_is look.is_comma rest) (blanks xs) (look.note_len (drop 1 (rest ++ z ∷ ys)))
      ∙ ap (look.more_by (blanks xs + 1)) (note-behind (look.first_is look.is_comma rest) rest ys refl)
      ∙ sym (by-comma (look.first_is look.is_comma rest) (blanks xs) (look.note_len (drop 1 rest)))

  -- a closing bracket is seen, but not what is beyond it
  pub closes-either : (xs ys : List Lexeme) → look.closing_follows (xs ++ z ∷ ys) ≡ look.closing_follows (xs ++ z ∷ [])
  closes-either xs ys =
      ap (look.first_is look.is_closing) (past xs ys) ∙ begins-either look.is_closing z (drop (blanks xs) xs) ys ∙ sym (ap (look.first_is look.is_closing) (past xs []))

  pub gap-bar : (xs ys : List Lexeme) → look.gap_len (xs ++ z ∷ ys) ≡ look.gap_len xs
  gap-bar [] ys = ap (λ t. cond t (1 + look.gap_len ys) 0) b.no_gap
  gap-bar (x ∷ xs) ys = ap (λ n. cond (look.is_gap x.kind) (1 + n) 0) (gap-bar xs ys)

  pub blank-bar : (xs ys : List Lexeme) → look.one_if look.is_blank_kind (xs ++ z ∷ ys) ≡ look.one_if look.is_blank_kind xs
  blank-bar xs ys = one-bar look.is_blank_kind z b.no_blank xs ys

  pub begins-comma-bar : (xs ys : List Lexeme) → look.first_is look.is_comma (xs ++ z ∷ ys) ≡ look.first_is look.is_comma xs
  begins-comma-bar xs ys = begins-bar look.is_comma z b.no_comma xs ys

-- ---- how many items are looked at

pub near-few : (xs : List Lexeme) → IfSome (look.line_near xs) (λ n. n < length xs)
near-few [] = tt
near-few (x ∷ xs) =
    cond_both (look.is_line_end x.kind) _ _ (λ o. IfSome o (λ n. n < length (x ∷ xs))) (λ h. omega arith)
    (λ h. cond_both (look.is_blank_kind x.kind && look.first_is look.is_line_end xs) _ _ (λ o. IfSome o (λ n. n < length (x ∷ xs))) (λ g. some g) (λ g. tt))
  where
    some : (look.is_blank_kind x.kind && look.first_is look.is_line_end xs) ≡ true → 1 < length (x ∷ xs)
    some g = let more = begins-some look.is_line_end 0 xs (and_parts (look.is_blank_kind x.kind) (look.first_is look.is_line_end xs) g).1 in omega arith

pub behind-few : (xs : List Lexeme) → IfSome (look.line_behind xs) (λ n. n ≤ length xs)
behind-few xs =
    cond_both (look.first_is look.is_line_end (drop (look.one_if look.is_blank_kind xs) xs)) _ _ (λ o. IfSome o (λ n. n ≤ length xs))
    (λ h. let some = begins-some look.is_line_end (look.one_if look.is_blank_kind xs) xs h in omega arith) (λ h. tt)

pub note-few : (xs : List Lexeme) → IfSome (look.note_len xs) (λ n. n ≤ length xs)
note-few xs =
    let n = look.one_if look.is_blank_kind xs in
    let m = look.one_if look.is_comment (drop n xs) in
    cond_both (look.first_is look.is_line_end (drop m (drop n xs))) _ _ (λ o. IfSome o (λ i. i ≤ length xs))
    (λ h. let some = begins-some look.is_line_end m (drop n xs) h in let size = length-drop n xs in omega arith) (λ h. tt)

more-few : (n m : ℕ) (o : Option ℕ) → IfSome o (λ i. i ≤ m) → IfSome (look.more_by n o) (λ i. i ≤ n + m)
more-few n m None h = tt
more-few n m (Some i) h = omega (arith, h)

fewer : (n m : ℕ) (o : Option ℕ) → n ≤ m → IfSome o (λ i. i ≤ n) → IfSome o (λ i. i ≤ m)
fewer n m None le h = tt
fewer n m (Some i) le h = omega (arith, le, h)

pub comma-few : (xs : List Lexeme) → IfSome (look.comma_note_len xs) (λ n. n ≤ length xs)
comma-few xs =
    let n = look.one_if look.is_blank_kind xs in
    cond_both (look.first_is look.is_comma (drop n xs)) _ _ (λ o. IfSome o (λ i. i ≤ length xs))
    (λ h.
    let some = begins-some look.is_comma n xs h in
    let size : length (drop 1 (drop n xs)) ≡ length xs - n - 1 = length-drop 1 (drop n xs) ∙ ap (λ m. m - 1) (length-drop n xs) in
    let le : n + 1 + length (drop 1 (drop n xs)) ≤ length xs = omega arith in
    fewer (n + 1 + length (drop 1 (drop n xs))) (length xs) _ le (more-few (n + 1) (length (drop 1 (drop n xs))) (look.note_len (drop 1 (drop n xs))) (note-few (drop 1 (drop n xs)))))
    (λ h. tt)

pub gap-few : (xs : List Lexeme) → look.gap_len xs ≤ length xs
gap-few xs = prefix_len-le-length (λ (x : Lexeme). look.is_gap x.kind) xs

-- ---- from the end

pub reverse-around : (front : List Lexeme) (z : Lexeme) (xs : List Lexeme) → reverse (front ++ z ∷ xs) ≡ reverse xs ++ z ∷ reverse front
reverse-around front z xs =
    reverse-append front (z ∷ xs) ∙ ap (λ l. l ++ reverse front) (reverse-append (z ∷ []) xs) ∙ append_assoc (reverse xs) (z ∷ []) (reverse front)
