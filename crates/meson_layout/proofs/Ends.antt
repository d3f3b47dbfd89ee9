-- Ends of item lists: the last few items, and what stands between brackets alone.
use Rattle.std.proofs.Common.{◌≡◌, ℕ, ◌-◌, Bool, true, false, cond, ◌||◌, List, [], ◌∷◌, ◌++◌, length, take, drop, refl, sym, ap, ◌∙◌, subst, arith, append_assoc}
use Rattle.std.proofs.lemmas.List.{length-append, take-append-drop, reverse-reverse, reverse-append}
use Rattle.std.proofs.Math.Seq.{take-append_seam, drop-append_seam}
use Rattle.std.specs.Prelude.{reverse}
use Rattle.std.specs.List.{AllByRecursion}
use Rattle.meson_lex.specs.declared.kinds.Kind.{Kind}
use Rattle.meson_lex.specs.declared.kinds.Kind.TheVariants as k
use Rattle.meson_lex.specs.Items.{Lexeme}
use Rattle.meson_lex.specs.Significant.{Word, Opens, Closes, role}
use Rattle.meson_layout.specs.Looks as look
use Rattle.meson_lex.specs.Words.{word, spoken, spoken_by}
use Rattle.meson_layout.specs.Words.{is_remark, remarks}

-- ---- the last few

pub back-parts : (xs a b : List Lexeme) (n : ℕ) → xs ≡ a ++ b → length b ≡ n → (look.but_last n xs ≡ a) × (look.last_few n xs ≡ b)
back-parts xs a b n e size =
    let whole = ap length e ∙ length-append a b in
    let at : length xs - n ≡ length a = omega arith in
    (ap (λ m. take m xs) at ∙ ap (take (length a)) e ∙ take-append_seam a b, ap (λ m. drop m xs) at ∙ ap (drop (length a)) e ∙ drop-append_seam a b)

pub back-joins : (xs : List Lexeme) (n : ℕ) → look.but_last n xs ++ look.last_few n xs ≡ xs
back-joins xs n = take-append-drop (length xs - n) xs

pub last-one : (xs : List Lexeme) (x : Lexeme) (ys : List Lexeme) → reverse xs ≡ x ∷ ys → xs ≡ reverse ys ++ x ∷ []
last-one xs x ys e = sym (reverse-reverse xs) ∙ ap reverse e ∙ reverse-append (x ∷ []) ys

pub last-two : (xs : List Lexeme) (x y : Lexeme) (ys : List Lexeme) → reverse xs ≡ x ∷ y ∷ ys → xs ≡ reverse ys ++ (y ∷ x ∷ [])
last-two xs x y ys e = sym (reverse-reverse xs) ∙ ap reverse e ∙ reverse-append (x ∷ y ∷ []) ys

-- ---- what is no bracket and no other word than a comma

abbrev pub is_mild : Kind → Bool
is_mild κ = look.is_gap κ || look.is_comma κ

abbrev pub AllMild : List Lexeme → Type 0
AllMild xs = AllByRecursion (λ (x : Lexeme). is_mild x.kind ≡ true) xs

abbrev pub AllGap : List Lexeme → Type 0
AllGap xs = AllByRecursion (λ (x : Lexeme). look.is_gap x.kind ≡ true) xs

pub gap-mild : (xs : List Lexeme) → AllGap xs → AllMild xs
gap-mild [] h = tt
gap-mild (x ∷ xs) h = (ap (λ b. b || look.is_comma x.kind) h.0, gap-mild xs h.1)

pub mild-join : (xs ys : List Lexeme) → AllMild xs → AllMild ys → AllMild (xs ++ ys)
mild-join [] ys h g = g
mild-join (x ∷ xs) ys h g = (h.0, mild-join xs ys h.1 g)

pub gap-join : (xs ys : List Lexeme) → AllGap xs → AllGap ys → AllGap (xs ++ ys)
gap-join [] ys h g = g
gap-join (x ∷ xs) ys h g = (h.0, gap-join xs ys h.1 g)

mild-open : (κ : Kind) → role κ ≡ Opens → is_mild κ ≡ true → ⊥
mild-open k.Blank h m = absurd cc
mild-open k.LineEnd h m = absurd cc
mild-open k.Comment h m = absurd cc
mild-open k.Continuation h m = absurd cc
mild-open k.Comma h m = absurd cc
mild-open _ h m = absurd cc

mild-close : (κ : Kind) → role κ ≡ Closes → is_mild κ ≡ true → ⊥
mild-close k.Blank h m = absurd cc
mild-close k.LineEnd h m = absurd cc
mild-close k.Comment h m = absurd cc
mild-close k.Continuation h m = absurd cc
mild-close k.Comma h m = absurd cc
mild-close _ h m = absurd cc

mild-at : (front : List Lexeme) (o : Lexeme) (left : List Lexeme) → AllMild (front ++ o ∷ left) → is_mild o.kind ≡ true
mild-at [] o left h = h.0
mild-at (f ∷ front) o left h = mild-at front o left h.1

-- Mild items at the end of what stands before an element stand behind the opening bracket.
pub within-left : (front : List Lexeme) (o : Lexeme) (left a t : List Lexeme) → role o.kind ≡ Opens → front ++ o ∷ left ≡ a ++ t → AllMild t → (inner : List Lexeme) × (left ≡ inner ++ t) × (a ≡ front ++ o ∷ inner)
within-left front o left [] t opens e m = absurd (mild-open o.kind opens (mild-at front o left (subst AllMild (sym e) m)))
within-left [] o left (y ∷ a) t opens e m = (a, cc, cc)
within-left (f ∷ front) o left (y ∷ a) t opens e m =
    let more : front ++ o ∷ left ≡ a ++ t = cc in
    let same : y ≡ f = cc in
    let r = within-left front o left a t opens more m in
    (r.0, r.1, ap (λ xs. y ∷ xs) r.2 ∙ ap (λ (z : Lexeme). z ∷ (front ++ o ∷ r.0)) same)

-- Mild items at the front of what stands behind an element stand before the closing bracket.
pub within-right : (right : List Lexeme) (c : Lexeme) (rest t b : List Lexeme) → role c.kind ≡ Closes → right ++ c ∷ rest ≡ t ++ b → AllMild t → (inner : List Lexeme) × (right ≡ t ++ inner) × (b ≡ inner ++ c ∷ rest)
within-right right c rest [] b closes e m = (right, refl, sym e)
within-right [] c rest (y ∷ t) b closes e m =
    let same : y ≡ c = cc in
    absurd (mild-close c.kind closes (ap (λ (z : Lexeme). is_mild z.kind) (sym same) ∙ m.0))
within-right (x ∷ right) c rest (y ∷ t) b closes e m =
    let more : right ++ c ∷ rest ≡ t ++ b = cc in
    let same : x ≡ y = cc in
    let r = within-right right c rest t b closes more m.1 in
    (r.0, ap (λ xs. x ∷ xs) r.1 ∙ ap (λ (z : Lexeme). z ∷ (t ++ r.0)) same, r.2)

-- ---- words and remarks

pub spoken-append : (xs ys : List Lexeme) → spoken (xs ++ ys) ≡ spoken xs ++ spoken ys
spoken-append [] ys = refl
spoken-append (x ∷ xs) ys = ap (λ l. spoken_by (role x.kind) (word x) ++ l) (spoken-append xs ys) ∙ sym (append_assoc (spoken_by (role x.kind) (word x)) (spoken xs) (spoken ys))

remark-case : (b : Bool) (x : Lexeme) (rs us vs : List Lexeme) → rs ≡ us ++ vs → cond b (x ∷ rs) rs ≡ cond b (x ∷ us) us ++ vs
remark-case true x rs us vs e = ap (λ l. x ∷ l) e
remark-case false x rs us vs e = e

pub remarks-append : (xs ys : List Lexeme) → remarks (xs ++ ys) ≡ remarks xs ++ remarks ys
remarks-append [] ys = refl
remarks-append (x ∷ xs) ys = remark-case (is_remark x.kind) x (remarks (xs ++ ys)) (remarks xs) (remarks ys) (remarks-append xs ys)

gap-word : (κ : Kind) (a : Word) → look.is_gap κ ≡ true → spoken_by (role κ) a ≡ []
gap-word k.Blank a h = refl
gap-word k.LineEnd a h = refl
gap-word k.Comment a h = refl
gap-word k.Continuation a h = refl
gap-word _ a h = absurd cc

pub gap-spoken : (xs : List Lexeme) → AllGap xs → spoken xs ≡ []
gap-spoken [] h = refl
gap-spoken (x ∷ xs) h = ap (λ l. l ++ spoken xs) (gap-word x.kind (word x) h.0) ∙ gap-spoken xs h.1

-- ---- kinds of items

pub blank-kind : (κ : Kind) → look.is_blank_kind κ ≡ true → κ ≡ k.Blank
blank-kind k.Blank h = refl
blank-kind _ h = absurd cc

pub line-kind : (κ : Kind) → look.is_line_end κ ≡ true → κ ≡ k.LineEnd
line-kind k.LineEnd h = refl
line-kind _ h = absurd cc

pub comma-kind : (κ : Kind) → look.is_comma κ ≡ true → κ ≡ k.Comma
comma-kind k.Comma h = refl
comma-kind _ h = absurd cc

pub comment-kind : (κ : Kind) → look.is_comment κ ≡ true → κ ≡ k.Comment
comment-kind k.Comment h = refl
comment-kind _ h = absurd cc
