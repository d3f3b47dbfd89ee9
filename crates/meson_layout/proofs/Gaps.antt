-- How far the items go that are no tokens, and what stands beyond them.
use Rattle.std.proofs.Common.{◌≡◌, ℕ, Bool, true, false, List, [], ◌∷◌, ◌++◌, length, take, drop, refl, sym, ap, ◌∙◌, subst}
use Rattle.std.proofs.Math.Numerals.{one-add}
use Rattle.std.proofs.lemmas.Bool.{cond_both}
use Rattle.std.proofs.lemmas.List.{append-nil, take-append-drop, reverse-reverse, reverse-append, length-reverse}
use Rattle.std.proofs.lemmas.List.Folds.{length-prefix_len}
use Rattle.std.specs.Prelude.{reverse, not, ⊤}
use Rattle.meson_lex.specs.Items.{Lexeme}
use Rattle.meson_lex.specs.Significant.{Word, Role, Gap, Ends, Opens, Closes, Other, role}
use Rattle.meson_layout.specs.Looks as look
use Rattle.meson_lex.specs.Words.{word, spoken, spoken_by, speaks}
use Rattle.meson_layout.specs.Words.{comma_word}
use Rattle.meson_layout.proofs.Seams.{gap-quiet}
use Rattle.meson_layout.proofs.Ends.{AllGap, gap-join, gap-spoken, spoken-append, back-parts}

pub gap-front : (xs : List Lexeme) → AllGap (take (look.gap_len xs) xs)
gap-front [] = tt
gap-front (x ∷ xs) = cond_both (look.is_gap x.kind) _ _ (λ n. AllGap (take n (x ∷ xs))) (λ h. subst (λ n. AllGap (take n (x ∷ xs))) (sym (one-add (look.gap_len xs))) (h, gap-front xs)) (λ h. tt)

-- nothing stands beyond the gap, or a token
abbrev pub Stops : List Lexeme → Type 0
Stops [] = ⊤
Stops (y ∷ ys) = look.is_gap y.kind ≡ false

pub gap-stops : (xs : List Lexeme) → Stops (drop (look.gap_len xs) xs)
gap-stops [] = tt
gap-stops (x ∷ xs) = cond_both (look.is_gap x.kind) _ _ (λ n. Stops (drop n (x ∷ xs))) (λ h. subst (λ n. Stops (drop n (x ∷ xs))) (sym (one-add (look.gap_len xs))) (gap-stops xs)) (λ h. h)

gap-reverse : (xs : List Lexeme) → AllGap xs → AllGap (reverse xs)
gap-reverse [] h = tt
gap-reverse (x ∷ xs) h = subst AllGap (sym (reverse-append (x ∷ []) xs)) (gap-join (reverse xs) (x ∷ []) (gap-reverse xs h.1) (h.0, tt))

-- what stands before the gap at the end, and that gap
pub record GapBack (left : List Lexeme) (n : ℕ) : Type 0 where
  pub gap : AllGap (look.last_few n left)
  pub rest : reverse (look.but_last n left) ≡ drop n (reverse left)

pub gap-back : (left : List Lexeme) → GapBack left (look.gap_len (reverse left))
gap-back left =
    let rev = reverse left in
    let n = look.gap_len rev in
    let whole : left ≡ reverse (drop n rev) ++ reverse (take n rev) = sym (reverse-reverse left) ∙ ap reverse (sym (take-append-drop n rev)) ∙ reverse-append (take n rev) (drop n rev) in
    let size : length (reverse (take n rev)) ≡ n = length-reverse (take n rev) ∙ length-prefix_len (λ (x : Lexeme). look.is_gap x.kind) rev in
    let b = back-parts left (reverse (drop n rev)) (reverse (take n rev)) n whole size in
    record {
      gap = subst AllGap (sym b.1) (gap-reverse (take n rev) (gap-front rev));
      rest = ap reverse b.0 ∙ reverse-reverse (drop n rev);
    }

-- ---- tokens beyond a gap

not-gap : (b : Bool) → not b ≡ false → b ≡ true
not-gap true h = refl
not-gap false h = absurd cc

speaking-by : (r : Role) (a : Word) → speaks r ≡ true → spoken_by r a ≡ a ∷ []
speaking-by Gap a h = absurd cc
speaking-by Ends a h = absurd cc
speaking-by Opens a h = refl
speaking-by Closes a h = refl
speaking-by Other a h = refl

pub speaking : (y : Lexeme) (ys : List Lexeme) → look.is_gap y.kind ≡ false → spoken (y ∷ ys) ≡ word y ∷ spoken ys
speaking y ys h = ap (λ ws. ws ++ spoken ys) (speaking-by (role y.kind) (word y) (not-gap (speaks (role y.kind)) (sym (gap-quiet y.kind) ∙ h)))

word-comma : (y : Lexeme) → word y ≡ comma_word → look.is_comma y.kind ≡ true
word-comma y e = ap (λ (a : Word). look.is_comma a.0) e

stopped-comma : (rest : List Lexeme) (more : List Word) → Stops rest → spoken rest ≡ comma_word ∷ more → look.first_is look.is_comma rest ≡ true
stopped-comma [] more s e = absurd cc
stopped-comma (y ∷ ys) more s e =
    let both : word y ∷ spoken ys ≡ comma_word ∷ more = sym (speaking y ys s) ∙ e in
    let same : word y ≡ comma_word = cc in
    word-comma y same

-- where the first word is a comma, one stands beyond the gap
pub comma-beyond : (xs : List Lexeme) (more : List Word) → spoken xs ≡ comma_word ∷ more → look.first_is look.is_comma (drop (look.gap_len xs) xs) ≡ true
comma-beyond xs more e =
    let n = look.gap_len xs in
    let words : spoken (drop n xs) ≡ spoken xs = sym (sym (ap spoken (take-append-drop n xs)) ∙ spoken-append (take n xs) (drop n xs) ∙ ap (λ ws. ws ++ spoken (drop n xs)) (gap-spoken (take n xs) (gap-front xs))) in
    stopped-comma (drop n xs) more (gap-stops xs) (words ∙ e)

-- ---- the same from the end

snoc-last : (xs ys : List Word) (a b : Word) → xs ++ a ∷ [] ≡ ys ++ b ∷ [] → a ≡ b
snoc-last [] [] a b e = cc
snoc-last [] (y ∷ []) a b e = absurd cc
snoc-last [] (y ∷ z ∷ ys) a b e = absurd cc
snoc-last (x ∷ []) [] a b e = absurd cc
snoc-last (x ∷ z ∷ xs) [] a b e = absurd cc
snoc-last (x ∷ xs) (y ∷ ys) a b e = let more : xs ++ a ∷ [] ≡ ys ++ b ∷ [] = cc in snoc-last xs ys a b more

nil-snoc : (ys : List Word) (b : Word) → [] ≡ ys ++ b ∷ [] → ⊥
nil-snoc [] b e = absurd cc
nil-snoc (y ∷ ys) b e = absurd cc

back-comma : (rest front : List Lexeme) (gap : List Lexeme) (words : List Word) → reverse front ≡ rest → Stops rest → AllGap gap → spoken (front ++ gap) ≡ words ++ comma_word ∷ [] → look.first_is look.is_comma rest ≡ true
back-comma [] front gap words e s g is =
    let none : front ≡ [] = sym (reverse-reverse front) ∙ ap reverse e in
    absurd (nil-snoc words comma_word (sym (ap (λ l. spoken (l ++ gap)) none ∙ gap-spoken gap g) ∙ is))
back-comma (y ∷ ys) front gap words e s g is =
    let front_is : front ≡ reverse ys ++ y ∷ [] = sym (reverse-reverse front) ∙ ap reverse e ∙ reverse-append (y ∷ []) ys in
    let said : spoken (front ++ gap) ≡ spoken (reverse ys) ++ word y ∷ [] =
    spoken-append front gap ∙ ap (λ ws. spoken front ++ ws) (gap-spoken gap g) ∙ append-nil (spoken front) ∙ ap spoken front_is ∙ spoken-append (reverse ys) (y ∷ []) ∙ ap (λ ws. spoken (reverse ys) ++ ws) (speaking y [] s) in
    word-comma y (snoc-last (spoken (reverse ys)) words (word y) comma_word (sym said ∙ is))

-- where the last word is a comma, one stands before the gap at the end
pub comma-before-gap : (left : List Lexeme) (words : List Word) → spoken left ≡ words ++ comma_word ∷ [] → look.first_is look.is_comma (reverse (look.but_last (look.gap_len (reverse left)) left)) ≡ true
comma-before-gap left words e =
    let n = look.gap_len (reverse left) in
    let g = gap-back left in
    let whole : look.but_last n left ++ look.last_few n left ≡ left = Rattle.meson_layout.proofs.Ends.back-joins left n in
    back-comma (reverse (look.but_last n left)) (look.but_last n left) (look.last_few n left) words refl (subst Stops (sym g.rest) (gap-stops (reverse left))) g.gap (ap spoken whole ∙ e)
