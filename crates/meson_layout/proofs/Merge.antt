-- Blanks side by side made one: the items are then items of a text, with the same text, words and remarks.
use Rattle.std.proofs.Common.{◌≡◌, ℕ, Bool, true, false, cond, ◌&&◌, List, [], ◌∷◌, ◌++◌, refl, sym, ap, ◌∙◌, subst, append_assoc}
use Rattle.std.proofs.lemmas.Bool.{cond_both, cond-false, and_parts, and_from}
use Rattle.std.specs.List.{list_all}
use Rattle.meson_lex.specs.declared.kinds.Kind.{Kind}
use Rattle.meson_lex.specs.declared.kinds.Kind.TheVariants as k
use Rattle.meson_lex.specs.Bytes.{is_blank}
use Rattle.meson_lex.specs.Kinds.{OfKind, IsRun}
use Rattle.meson_lex.specs.Neighbours.{shape}
use Rattle.meson_lex.specs.Items.{Lexeme, joined, AreItems}
use Rattle.meson_lex.specs.Significant.{State, step, emit, after, emitted}
use Rattle.meson_lex.proofs.Runs.{none_bare}
use Rattle.meson_layout.specs.Looks as look
use Rattle.meson_lex.specs.Words.{spoken}
use Rattle.meson_layout.specs.Words.{remarks}
use Rattle.meson_layout.proofs.FirstBytes.{some_text}
use Rattle.meson_layout.proofs.Near.{Near, Follow, IsGood, AllGood, Apart, near-to, chain-items}

abbrev pub blank_of : List ℕ → Lexeme
blank_of text = record { kind = k.Blank; text = text }

abbrev pub glued : Lexeme → Lexeme → List Lexeme → List Lexeme
glued x y ys = cond (look.is_blank_kind x.kind && look.is_blank_kind y.kind) (blank_of (x.text ++ y.text) ∷ ys) (x ∷ y ∷ ys)

abbrev pub glue : Lexeme → List Lexeme → List Lexeme
glue x [] = x ∷ []
glue x (y ∷ ys) = glued x y ys

abbrev pub merge : List Lexeme → List Lexeme
merge [] = []
merge (x ∷ xs) = glue x (merge xs)

blank_kind : (κ : Kind) → look.is_blank_kind κ ≡ true → κ ≡ k.Blank
blank_kind k.Blank h = refl
blank_kind _ h = absurd cc

-- a fact on two items, by whether both are blanks
on-glued : (P : List Lexeme → Type 0) (x y : Lexeme) (ys : List Lexeme) → (x.kind ≡ k.Blank → y.kind ≡ k.Blank → P (blank_of (x.text ++ y.text) ∷ ys)) → ((look.is_blank_kind x.kind && look.is_blank_kind y.kind) ≡ false → P (x ∷ y ∷ ys)) → P (glued x y ys)
on-glued P x y ys both other =
    cond_both (look.is_blank_kind x.kind && look.is_blank_kind y.kind) _ _ P (λ h. let p = and_parts (look.is_blank_kind x.kind) (look.is_blank_kind y.kind) h in both (blank_kind x.kind p.0) (blank_kind y.kind p.1)) other

-- ---- what stays

glue-joined : (x : Lexeme) (ys : List Lexeme) → joined (glue x ys) ≡ x.text ++ joined ys
glue-joined x [] = refl
glue-joined x (y ∷ ys) = on-glued (λ l. joined l ≡ x.text ++ (y.text ++ joined ys)) x y ys (λ b c. append_assoc x.text y.text (joined ys)) (λ h. refl)

pub merge-joined : (xs : List Lexeme) → joined (merge xs) ≡ joined xs
merge-joined [] = refl
merge-joined (x ∷ xs) = glue-joined x (merge xs) ∙ ap (λ l. x.text ++ l) (merge-joined xs)

spoken-kind : (κ : Kind) (text : List ℕ) → κ ≡ k.Blank → (ys : List Lexeme) → spoken (record { kind = κ; text = text } ∷ ys) ≡ spoken ys
spoken-kind κ text e ys = ap (λ c. spoken (record { kind = c; text = text } ∷ ys)) e

remark-kind : (κ : Kind) (text : List ℕ) → κ ≡ k.Blank → (ys : List Lexeme) → remarks (record { kind = κ; text = text } ∷ ys) ≡ remarks ys
remark-kind κ text e ys = ap (λ c. remarks (record { kind = c; text = text } ∷ ys)) e

glue-spoken : (x : Lexeme) (ys : List Lexeme) → spoken (glue x ys) ≡ spoken (x ∷ ys)
glue-spoken x [] = refl
glue-spoken x (y ∷ ys) = on-glued (λ l. spoken l ≡ spoken (x ∷ y ∷ ys)) x y ys (λ b c. sym (spoken-kind x.kind x.text b (y ∷ ys) ∙ spoken-kind y.kind y.text c ys)) (λ h. refl)

pub merge-spoken : (xs : List Lexeme) → spoken (merge xs) ≡ spoken xs
merge-spoken [] = refl
merge-spoken (x ∷ xs) = glue-spoken x (merge xs) ∙ same x (merge xs) xs (merge-spoken xs)
  where
    same : (x : Lexeme) (ys zs : List Lexeme) → spoken ys ≡ spoken zs → spoken (x ∷ ys) ≡ spoken (x ∷ zs)
    same x ys zs e = rw e refl

glue-remarks : (x : Lexeme) (ys : List Lexeme) → remarks (glue x ys) ≡ remarks (x ∷ ys)
glue-remarks x [] = refl
glue-remarks x (y ∷ ys) = on-glued (λ l. remarks l ≡ remarks (x ∷ y ∷ ys)) x y ys (λ b c. sym (remark-kind x.kind x.text b (y ∷ ys) ∙ remark-kind y.kind y.text c ys)) (λ h. refl)

pub merge-remarks : (xs : List Lexeme) → remarks (merge xs) ≡ remarks xs
merge-remarks [] = refl
merge-remarks (x ∷ xs) = glue-remarks x (merge xs) ∙ same x (merge xs) xs (merge-remarks xs)
  where
    same : (x : Lexeme) (ys zs : List Lexeme) → remarks ys ≡ remarks zs → remarks (x ∷ ys) ≡ remarks (x ∷ zs)
    same x ys zs e = rw e refl

-- what a text's tokens are made of: the state behind items, and what they give
abbrev pub SameRun : List Lexeme → List Lexeme → Type 0
SameRun xs ys = (s : State) → (emitted s xs ≡ emitted s ys) × (after s xs ≡ after s ys)

run-kind : (κ : Kind) (text : List ℕ) → κ ≡ k.Blank → (ys : List Lexeme) → SameRun (record { kind = κ; text = text } ∷ ys) ys
run-kind κ text e ys = λ s. (ap (λ c. emitted s (record { kind = c; text = text } ∷ ys)) e, ap (λ c. after s (record { kind = c; text = text } ∷ ys)) e)

glue-run : (x : Lexeme) (ys : List Lexeme) → SameRun (glue x ys) (x ∷ ys)
glue-run x [] = λ s. (refl, refl)
glue-run x (y ∷ ys) = on-glued (λ l. SameRun l (x ∷ y ∷ ys)) x y ys
    (λ b c s. let p = run-kind x.kind x.text b (y ∷ ys) s in let q = run-kind y.kind y.text c ys s in (sym (p.0 ∙ q.0), sym (p.1 ∙ q.1)))
    (λ h s. (refl, refl))

pub merge-run : (xs : List Lexeme) → SameRun (merge xs) xs
merge-run [] = λ s. (refl, refl)
merge-run (x ∷ xs) = λ s.
    let g = glue-run x (merge xs) s in
    let h = merge-run xs (step s x) in
    (g.0 ∙ ap (λ l. emit s x ++ l) h.0, g.1 ∙ h.1)

-- ---- that the merged are items

run-more : (test : ℕ → Bool) (cs bs : List ℕ) → list_all test cs ≡ true → list_all test bs ≡ true → list_all test (cs ++ bs) ≡ true
run-more test [] bs h g = g
run-more test (a ∷ cs) bs h g = let p = and_parts (test a) (list_all test cs) h in and_from (test a) _ p.0 (run-more test cs bs p.1 g)

run-all : (text : List ℕ) → IsRun is_blank text → list_all is_blank text ≡ true
run-all [] h = absurd h
run-all (b ∷ bs) h = and_from (is_blank b) _ h.0 h.1

run-of : (text : List ℕ) → (text ≡ [] → ⊥) → list_all is_blank text ≡ true → IsRun is_blank text
run-of [] some h = absurd (some refl)
run-of (b ∷ bs) some h = let p = and_parts (is_blank b) (list_all is_blank bs) h in (p.0, p.1)

some-more : (cs bs : List ℕ) → (cs ≡ [] → ⊥) → cs ++ bs ≡ [] → ⊥
some-more [] bs some e = some refl
some-more (a ∷ cs) bs some e = absurd cc

blank-run : (x : Lexeme) → x.kind ≡ k.Blank → IsGood x → IsRun is_blank x.text
blank-run x b g = subst (λ κ. OfKind κ x.text) b g.0

good-glued : (x y : Lexeme) → x.kind ≡ k.Blank → y.kind ≡ k.Blank → IsGood x → IsGood y → IsGood (blank_of (x.text ++ y.text))
good-glued x y b c g h =
    let all = run-more is_blank x.text y.text (run-all x.text (blank-run x b g)) (run-all y.text (blank-run y c h)) in
    (run-of (x.text ++ y.text) (some-more x.text y.text (some_text x.kind x.text g.0)) all, none_bare is_blank refl (x.text ++ y.text) all)

abbrev Merged : Lexeme → List Lexeme → Type 0
Merged o xs = Follow o xs × AllGood xs × Apart xs

glue-apart : (x : Lexeme) (ys : List Lexeme) → Apart ys → Apart (glue x ys)
glue-apart x [] h = tt
glue-apart x (y ∷ ys) h = on-glued Apart x y ys (λ b c. keep y c ys h) (λ e. (e, h))
  where
    keep : (y : Lexeme) → y.kind ≡ k.Blank → (ys : List Lexeme) → Apart (y ∷ ys) → Apart (blank_of (x.text ++ y.text) ∷ ys)
    keep y c [] h = tt
    keep y c (z ∷ zs) h = (subst (λ κ. (look.is_blank_kind κ && look.is_blank_kind z.kind) ≡ false) c h.0, h.1)

blank-before : (x : Lexeme) (κ : Kind) (text : List ℕ) → κ ≡ k.Blank → (ys : List Lexeme) → Follow (record { kind = κ; text = text }) ys → Follow (blank_of x.text) ys
blank-before x κ text c [] h = tt
blank-before x κ text c (z ∷ zs) h = (tt, h.1)

glue-follow : (o x : Lexeme) (ys : List Lexeme) → IsGood x → Near o x → Follow x ys → Follow o (glue x ys)
glue-follow o x [] g near h = (near, tt)
glue-follow o x (y ∷ ys) g near h =
    on-glued (Follow o) x y ys
    (λ b c. (near-to (shape o.kind) o.text x.text y.text (some_text x.kind x.text g.0) g.1 near, blank-before (blank_of (x.text ++ y.text)) y.kind y.text c ys h.1))
    (λ e. (near, h))

glue-good : (x : Lexeme) (ys : List Lexeme) → IsGood x → AllGood ys → AllGood (glue x ys)
glue-good x [] g h = (g, tt)
glue-good x (y ∷ ys) g h = on-glued AllGood x y ys (λ b c. (good-glued x y b c g h.0, h.1)) (λ e. (g, h))

merged : (o : Lexeme) (xs : List Lexeme) → Follow o xs → AllGood xs → Merged o (merge xs)
merged o [] f g = (tt, tt, tt)
merged o (x ∷ xs) f g =
    let m = merged x xs f.1 g.1 in
    (glue-follow o x (merge xs) g.0 f.0 m.0, glue-good x (merge xs) g.0 m.1, glue-apart x (merge xs) m.2)

pub merge-items : (o : Lexeme) (xs : List Lexeme) → Follow o xs → AllGood xs → AreItems (merge xs) []
merge-items o xs f g = let m = merged o xs f g in chain-items (merge xs) o m.0 m.1 m.2

-- ---- brackets stay where they are

glue-solid : (x : Lexeme) (ys : List Lexeme) → look.is_blank_kind x.kind ≡ false → glue x ys ≡ x ∷ ys
glue-solid x [] h = refl
glue-solid x (y ∷ ys) h = ap (λ b. cond (b && look.is_blank_kind y.kind) (blank_of (x.text ++ y.text) ∷ ys) (x ∷ y ∷ ys)) h

glue-end : (x : Lexeme) (ys : List Lexeme) (c : Lexeme) (zs : List Lexeme) → look.is_blank_kind c.kind ≡ false → glue x (ys ++ c ∷ zs) ≡ glue x ys ++ c ∷ zs
glue-end x [] c zs h = not-both (look.is_blank_kind x.kind) (look.is_blank_kind c.kind) _ _ h
  where
    not-both : {A : Type 0} (p q : Bool) (u v : A) → q ≡ false → cond (p && q) u v ≡ v
    not-both true q u v e = cond-false q u v e
    not-both false q u v e = refl
glue-end x (y ∷ ys) c zs h = spread (look.is_blank_kind x.kind && look.is_blank_kind y.kind) (blank_of (x.text ++ y.text) ∷ ys) (x ∷ y ∷ ys) (c ∷ zs)
  where
    spread : (b : Bool) (us vs ws : List Lexeme) → cond b (us ++ ws) (vs ++ ws) ≡ cond b us vs ++ ws
    spread true us vs ws = refl
    spread false us vs ws = refl

pub merge-listed : (o c : Lexeme) (xs : List Lexeme) → look.is_blank_kind o.kind ≡ false → look.is_blank_kind c.kind ≡ false → merge (o ∷ (xs ++ c ∷ [])) ≡ o ∷ (merge xs ++ c ∷ [])
merge-listed o c xs h g = glue-solid o (merge (xs ++ c ∷ [])) h ∙ ap (λ l. o ∷ l) (merge-end xs)
  where
    merge-end : (xs : List Lexeme) → merge (xs ++ c ∷ []) ≡ merge xs ++ c ∷ []
    merge-end [] = refl
    merge-end (x ∷ xs) = ap (glue x) (merge-end xs) ∙ glue-end x (merge xs) c [] g
