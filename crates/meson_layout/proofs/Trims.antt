-- What goes with a statement among the items around it: blanks and line ends, and what stays before them ends its line.
use Rattle.std.proofs.Common.{◌≡◌, ℕ, ◌+◌, ◌-◌, ◌≤◌, Bool, true, false, cond, not, ◌&&◌, ◌==◌, ◌⊎◌, List, [], ◌∷◌, ◌++◌, length, take, drop, refl, sym, ap, ◌∙◌, subst, inl, inr, append_assoc, length-take, arith}
use Rattle.std.proofs.Math.Seq.{take-add}
use Rattle.std.proofs.Math.Numerals.{one-add}
use Rattle.std.proofs.lemmas.Bool.{cond_both, eqb-true}
use Rattle.std.proofs.lemmas.List.{append-nil, length-append, length-reverse, take-append-drop, reverse-append, reverse-reverse}
use Rattle.std.proofs.lemmas.List.Sums.{prefix_len-le-length}
use Rattle.std.specs.Prelude.{reverse}
use Rattle.meson_lex.specs.Items.{Lexeme}
use Rattle.meson_layout.specs.declared.primitive.BlankLines.{BlankLines}
use Rattle.meson_layout.specs.declared.primitive.BlankLines.TheVariants as blank
use Rattle.meson_layout.specs.BlankLines.{blank_above_len, blank_below_len, blank_growth, white_len}
use Rattle.meson_layout.specs.LineSpots.{in_line_len, rest_of_line_len}
use Rattle.meson_layout.specs.Looks.{all_white, but_last, first_is, is_line_end, is_white, last_few}
use Rattle.meson_layout.specs.Statements.{at_line_start}
use Rattle.meson_layout.proofs.Ends.{back-parts, back-joins}
use Rattle.meson_layout.proofs.LineSpots.{back-ends, in-line-stops}
use Rattle.meson_layout.proofs.Splits.{AllOf, white-join}

-- ---- blanks and line ends

pub all-white : (xs : List Lexeme) → AllOf is_white xs → all_white xs ≡ true
all-white [] h = refl
all-white (x ∷ xs) h = ap (λ b. b && all_white xs) h.0 ∙ all-white xs h.1

white-front : (xs ys : List Lexeme) → AllOf is_white (xs ++ ys) → AllOf is_white xs
white-front [] ys h = tt
white-front (x ∷ xs) ys h = (h.0, white-front xs ys h.1)

white-reverse : (xs : List Lexeme) → AllOf is_white xs → AllOf is_white (reverse xs)
white-reverse [] h = tt
white-reverse (x ∷ xs) h = subst (AllOf is_white) (sym (reverse-append (x ∷ []) xs)) (white-join (reverse xs) (x ∷ []) (white-reverse xs h.1) (h.0, tt))

white-all : (xs : List Lexeme) → AllOf is_white (take (white_len xs) xs)
white-all [] = tt
white-all (x ∷ xs) =
    let P : ℕ → Type 0 = λ n. AllOf is_white (take n (x ∷ xs)) in
    cond_both (is_white x.kind) _ _ P (λ yes. subst P (sym (one-add _)) (yes, white-all xs)) (λ other. tt)

white-few : (xs : List Lexeme) (n : ℕ) → n ≤ white_len xs → AllOf is_white (take n xs)
white-few xs n few =
    let m = white_len xs - n in
    let is : white_len xs ≡ n + m = omega arith in
    white-front (take n xs) (take m (drop n xs)) (subst (AllOf is_white) (ap (λ k. take k xs) is ∙ take-add n m xs) (white-all xs))

white-last : (xs : List Lexeme) (n : ℕ) → n ≤ white_len (reverse xs) → AllOf is_white (last_few n xs)
white-last xs n few =
    let size = length-reverse xs in
    let most = prefix_len-le-length (λ (x : Lexeme). is_white x.kind) (reverse xs) in
    let back = (back-ends n xs (omega arith)).1 in
    let is : last_few n xs ≡ reverse (take n (reverse xs)) = sym (reverse-reverse (last_few n xs)) ∙ ap reverse back in
    subst (AllOf is_white) (sym is) (white-reverse (take n (reverse xs)) (white-few (reverse xs) n few))

-- ---- above

-- This number of items at the end are blanks and line ends, and those before them end their line.
pub record WhiteEnd (before : List Lexeme) (n : ℕ) : Type 0 where
  pub few : n ≤ length before
  pub white : AllOf is_white (last_few n before)
  pub ends : at_line_start (reverse (but_last n before)) ≡ true

pub no-end : (before : List Lexeme) → at_line_start (reverse before) ≡ true → WhiteEnd before 0
no-end before starts =
    let p = back-parts before before [] 0 (sym (append-nil before)) refl in
    record { few = omega arith; white = subst (AllOf is_white) (sym p.1) tt; ends = ap (λ xs. at_line_start (reverse xs)) p.0 ∙ starts }

all-end : (before : List Lexeme) (n : ℕ) → n ≡ length before → n ≤ white_len (reverse before) → WhiteEnd before n
all-end before n is few =
    let p = back-parts before [] before n refl (sym is) in
    record { few = omega arith; white = white-last before n few; ends = ap (λ xs. at_line_start (reverse xs)) p.0 }

-- after the first line end of the last few items
module _ (before : List Lexeme) (n : ℕ) (starts : at_line_start (reverse before) ≡ true) (few : n ≤ white_len (reverse before)) where
  suffix : List Lexeme
  suffix = last_few n before

  within : n ≤ length before
  within =
      let size = length-reverse before in
      let most = prefix_len-le-length (λ (x : Lexeme). is_white x.kind) (reverse before) in
      omega arith

  suffix-len : length (last_few n before) ≡ n
  suffix-len =
      let all = ap length (back-joins before n) in
      let both = length-append (but_last n before) (last_few n before) in
      let size = length-take (length before - n) before in
      let most = within in
      omega arith

  part-end : (d : List Lexeme) → drop (in_line_len (last_few n before)) (last_few n before) ≡ d → at_line_start d ≡ true
      → WhiteEnd before (n - cond (first_is is_line_end d) (in_line_len (last_few n before) + 1) (in_line_len (last_few n before)))
  part-end [] is stops =
      let xs = last_few n before in
      let i = in_line_len xs in
      let none : n - i ≡ 0 =
      (let joined = ap length (take-append-drop i xs) in let both = length-append (take i xs) (drop i xs) in let rest = ap length is in let size = suffix-len in let cut = length-take i xs in omega arith) in
      subst (WhiteEnd before) (sym none) (no-end before starts)
  part-end (x ∷ more) is stops =
      let xs = last_few n before in
      let i = in_line_len xs in
      let front = but_last n before ++ (take i xs ++ x ∷ []) in
      let parts : before ≡ front ++ more =
      sym (back-joins before n) ∙ ap (λ ys. but_last n before ++ ys) (sym (take-append-drop i xs) ∙ ap (λ ys. take i xs ++ ys) is)
      ∙ sym (append_assoc (but_last n before) (take i xs ++ x ∷ []) more ∙ ap (λ ys. but_last n before ++ ys) (append_assoc (take i xs) (x ∷ []) more)) in
      let size : length more ≡ n - (i + 1) =
      (let joined = ap length (take-append-drop i xs) in let both = length-append (take i xs) (drop i xs) in let rest = ap length is in let all = suffix-len in let cut = length-take i xs in let at_most = prefix_len-le-length (λ (y : Lexeme). not (is_line_end y.kind)) xs in omega arith) in
      let p = back-parts before front more (n - (i + 1)) parts size in
      let ends : at_line_start (reverse front) ≡ true =
      ap (λ ys. at_line_start (reverse ys)) (sym (append_assoc (but_last n before) (take i xs) (x ∷ []))) ∙ ap at_line_start (reverse-append (but_last n before ++ take i xs) (x ∷ [])) ∙ stops in
      let done : WhiteEnd before (n - (i + 1)) = (let most = within in record {
        few = omega arith;
        white = white-last before (n - (i + 1)) (omega arith);
        ends = ap (λ ys. at_line_start (reverse ys)) p.0 ∙ ends;
      }) in
      subst (λ b. WhiteEnd before (n - cond b (i + 1) i)) (sym stops) done

above-end : (before : List Lexeme) → at_line_start (reverse before) ≡ true → WhiteEnd before (blank_above_len before)
above-end before starts =
    let n = white_len (reverse before) in
    let few : n ≤ n = omega arith in
    cond_both (n == length before) _ _ (WhiteEnd before)
    (λ all. all-end before n (eqb-true n (length before) all) few)
    (λ other. part-end before n starts few (drop (in_line_len (last_few n before)) (last_few n before)) refl (in-line-stops (last_few n before)))

-- ---- below

below-few : (behind : List Lexeme) → blank_below_len behind ≤ white_len behind
below-few behind = cond_both (white_len behind == length behind) _ _ (λ n. n ≤ white_len behind) (λ all. omega arith) (λ other. omega arith)

-- ---- both

-- what goes on both sides of lines
pub record WhiteEnds (before behind : List Lexeme) (above below : ℕ) : Type 0 where
  pub end : WhiteEnd before above
  pub white : AllOf is_white (take below behind)

pub growth-ends : (blank : BlankLines) (before behind : List Lexeme) → at_line_start (reverse before) ≡ true
    → WhiteEnds before behind (blank_growth blank before behind).before (blank_growth blank before behind).behind
growth-ends blank.Stay before behind starts = record { end = no-end before starts; white = white-few behind 0 (omega arith) }
growth-ends (blank.Trim first last) before behind starts =
    record {
      end = cond_both _ (blank_above_len before) 0 (WhiteEnd before) (λ yes. above-end before starts) (λ other. no-end before starts);
      white = cond_both _ (blank_below_len behind) 0 (λ n. AllOf is_white (take n behind)) (λ yes. white-few behind (blank_below_len behind) (below-few behind)) (λ other. white-few behind 0 (omega arith));
    }

-- ---- the end of a line

-- the rest of a line on which nothing is left is a line end, or nothing
pub bare-rest : (behind : List Lexeme) → (in_line_len behind == 0) ≡ true
    → (take (rest_of_line_len behind) behind ≡ []) ⊎ ((x : Lexeme) × (is_line_end x.kind ≡ true) × (take (rest_of_line_len behind) behind ≡ x ∷ []))
bare-rest [] none = inl refl
bare-rest (x ∷ xs) none = bare (is_line_end x.kind) refl (eqb-true (in_line_len (x ∷ xs)) 0 none)
  where
    bare : (b : Bool) → is_line_end x.kind ≡ b → cond (not b) (1 + in_line_len xs) 0 ≡ 0
        → (take (rest_of_line_len (x ∷ xs)) (x ∷ xs) ≡ []) ⊎ ((y : Lexeme) × (is_line_end y.kind ≡ true) × (take (rest_of_line_len (x ∷ xs)) (x ∷ xs) ≡ y ∷ []))
    bare true ends none =
        let size : in_line_len (x ∷ xs) ≡ 0 = ap (λ b. cond (not b) (1 + in_line_len xs) 0) ends in
        let rest : rest_of_line_len (x ∷ xs) ≡ 1 = ap (λ n. cond (first_is is_line_end (drop n (x ∷ xs))) (n + 1) n) size ∙ ap (λ b. cond b 1 0) ends in
        inr (x, ends, ap (λ n. take n (x ∷ xs)) rest)
    bare false ends none = absurd (omega arith)

-- ---- a line end before

-- more of the last items: those before the last n, and then these
pub more-last : (left : List Lexeme) (n m : ℕ) → n ≤ length left → m ≤ length (but_last n left)
    → (but_last (n + m) left ≡ but_last m (but_last n left)) × (last_few (n + m) left ≡ last_few m (but_last n left) ++ last_few n left)
more-last left n m few more =
    let before = but_last n left in
    let front = but_last m before in
    let tail = last_few m before ++ last_few n left in
    let parts : left ≡ front ++ tail = sym (back-joins left n) ∙ ap (λ xs. xs ++ last_few n left) (sym (back-joins before m)) ∙ append_assoc front (last_few m before) (last_few n left) in
    let size : length tail ≡ n + m =
    (let whole = ap length parts in let both = length-append front tail in let cut = length-take (length before - m) before in let all = length-take (length left - n) left in omega arith) in
    back-parts left front tail (n + m) parts size
