-- The tokens of items one after another, of items that stand elsewhere, and of items between brackets.
use Rattle.meson_edit.proofs.Words.{◌≡◌, ℕ, zero, suc, pred, ◌+◌, ◌≤◌, Bool, true, false, List, [], ◌∷◌, ◌++◌, length, Some, None, refl, sym, ap, ap₂, ◌∙◌}
use Rattle.meson_edit.proofs.Words.{append_assoc, length-append, arith, map-append, Lexeme, joined, line_end_at, token_at, spot_by, end_by, spots, end_after}
use Rattle.meson_edit.proofs.Words.{closing_at, Word, kept, Role, Gap, Ends, Opens, Closes, Other, role, State, step_by, step, after, ends_line, only_if}
use Rattle.meson_edit.proofs.Words.{spoken_by, spoken, nest, quiet-line, token_by, tokens_by}

-- ---- one after another

pub spots-append : (s : State) (e p : ℕ) (xs ys : List Lexeme)
    → spots s e p (xs ++ ys) ≡ spots s e p xs ++ spots (after s xs) (end_after e p xs) (p + length (joined xs)) ys
spots-append s e p [] ys = let here : p ≡ p + length {A = ℕ} [] = omega arith in ap (λ n. spots s e n ys) here
spots-append s e p (x ∷ xs) ys =
    let z = step s x in
    let q = end_by (role x.kind) x e p in
    let here = spot_by (role x.kind) s x e p in
    let more = spots z q (p + length x.text) xs in
    let n = length-append x.text (joined xs) in
    let same : (p + length x.text) + length (joined xs) ≡ p + length (x.text ++ joined xs) = omega arith in
    ap (λ ts. here ++ ts) (spots-append z q (p + length x.text) xs ys ∙ ap (λ n. more ++ spots (after z xs) (end_after q (p + length x.text) xs) n ys) same)
    ∙ sym (append_assoc here more (spots (after z xs) (end_after q (p + length x.text) xs) (p + length (x.text ++ joined xs)) ys))

pub end_after-append : (e p : ℕ) (xs ys : List Lexeme) → end_after e p (xs ++ ys) ≡ end_after (end_after e p xs) (p + length (joined xs)) ys
end_after-append e p [] ys = let here : p ≡ p + length {A = ℕ} [] = omega arith in ap (λ n. end_after e n ys) here
end_after-append e p (x ∷ xs) ys =
    let q = end_by (role x.kind) x e p in
    let n = length-append x.text (joined xs) in
    let same : (p + length x.text) + length (joined xs) ≡ p + length (x.text ++ joined xs) = omega arith in
    end_after-append q (p + length x.text) xs ys ∙ ap (λ n. end_after (end_after q (p + length x.text) xs) n ys) same

-- ---- elsewhere

-- the borders from one to another all move by the same
abbrev pub Carries : (ℕ → ℕ) → ℕ → ℕ → Type 0
Carries g p q = (n k : ℕ) → p ≤ n → n + k ≤ q → g (n + k) ≡ g n + k

module _ (g : ℕ → ℕ) where
  line-moved : (b : Bool) (e : ℕ) → only_if b (line_end_at (g e)) ≡ tokens_by g (only_if b (line_end_at e))
  line-moved true e = refl
  line-moved false e = refl

  token-moved : (x : Lexeme) (p : ℕ) → g (p + length x.text) ≡ g p + length x.text → token_at x (g p) ≡ token_by g (token_at x p)
  token-moved x p to = ap (λ n. record { kind = x.kind; text = x.text; from = g p; to = n }) (sym to)

  spot-moved : (r : Role) (s : State) (x : Lexeme) (e p : ℕ) → g (p + length x.text) ≡ g p + length x.text
      → spot_by r s x (g e) (g p) ≡ tokens_by g (spot_by r s x e p)
  spot-moved Gap s x e p to = refl
  spot-moved Ends s x e p to = line-moved (ends_line s.depth s.fresh) e
  spot-moved Opens s x e p to = ap (λ t. t ∷ []) (token-moved x p to)
  spot-moved Closes s x e p to = ap (λ t. t ∷ []) (token-moved x p to)
  spot-moved Other s x e p to = ap (λ t. t ∷ []) (token-moved x p to)

  end-moved : (r : Role) (x : Lexeme) (e p : ℕ) → g (p + length x.text) ≡ g p + length x.text → end_by r x (g e) (g p) ≡ g (end_by r x e p)
  end-moved Gap x e p to = refl
  end-moved Ends x e p to = refl
  end-moved Opens x e p to = sym to
  end-moved Closes x e p to = sym to
  end-moved Other x e p to = sym to

  pub spots-moved : (s : State) (e p q : ℕ) (xs : List Lexeme) → Carries g p q → p + length (joined xs) ≤ q
      → spots s (g e) (g p) xs ≡ tokens_by g (spots s e p xs)
  spots-moved s e p q [] carries inside = refl
  spots-moved s e p q (x ∷ xs) carries inside =
      let n = length-append x.text (joined xs) in
      let to = carries p (length x.text) (omega arith) (omega arith) in
      let z = step s x in
      let here = spot_by (role x.kind) s x e p in
      let more = spots-moved z (end_by (role x.kind) x e p) (p + length x.text) q xs (λ n k h. carries n k (omega arith)) (omega arith) in
      ap₂ (λ a b. a ++ b) (spot-moved (role x.kind) s x e p to) (ap₂ (λ a b. spots z a b xs) (end-moved (role x.kind) x e p to) (sym to) ∙ more)
      ∙ sym (map-append (token_by g) here (spots z (end_by (role x.kind) x e p) (p + length x.text) xs))

  pub end_after-moved : (e p q : ℕ) (xs : List Lexeme) → Carries g p q → p + length (joined xs) ≤ q → end_after (g e) (g p) xs ≡ g (end_after e p xs)
  end_after-moved e p q [] carries inside = refl
  end_after-moved e p q (x ∷ xs) carries inside =
      let n = length-append x.text (joined xs) in
      let to = carries p (length x.text) (omega arith) (omega arith) in
      ap₂ (λ a b. end_after a b xs) (end-moved (role x.kind) x e p to) (sym to)
      ∙ end_after-moved (end_by (role x.kind) x e p) (p + length x.text) q xs (λ n k h. carries n k (omega arith)) (omega arith)

  pub closing-moved : (fresh : Bool) (e : ℕ) → closing_at fresh (g e) ≡ tokens_by g (closing_at fresh e)
  closing-moved true e = refl
  closing-moved false e = refl

-- ---- between brackets

-- items between brackets, of which some stay open: how many were open before, and whether a line began, does not matter
abbrev Alike : List Lexeme → Type 0
Alike xs = (n m a b e p : ℕ) (s z : State) → s.depth ≡ n + suc a → z.depth ≡ n + suc b → nest n (spoken xs) ≡ Some m → spots s e p xs ≡ spots z e p xs

alike-by : (r : Role) (x : Lexeme) (w : Word) → role w.0 ≡ r → (xs : List Lexeme) → Alike xs → (n m a b e p : ℕ) (s z : State) → s.depth ≡ n + suc a
    → z.depth ≡ n + suc b
    → nest n (spoken_by r w ++ spoken xs) ≡ Some m
    → spot_by r s x e p ++ spots (step_by r s) (end_by r x e p) (p + length x.text) xs
    ≡ spot_by r z x e p ++ spots (step_by r z) (end_by r x e p) (p + length x.text) xs
alike-by Gap x w is xs ih n m a b e p s z d f h = ih n m a b e (p + length x.text) s z d f h
alike-by Ends x w is xs ih n m a b e p s z d f h =
    let q = p + length x.text in
    ap (λ (b : Bool). only_if b (line_end_at e) ++ spots (step_by Ends s) e q xs) (quiet-line s.depth n a s.fresh d)
    ∙ ih n m a b e q (step_by Ends s) (step_by Ends z) d f h
    ∙ sym (ap (λ (b : Bool). only_if b (line_end_at e) ++ spots (step_by Ends z) e q xs) (quiet-line z.depth n b z.fresh f))
alike-by Opens x w is xs ih n m a b e p s z d f h =
    ap (λ l. token_at x p ∷ l) (ih (suc n) m a b (p + length x.text) (p + length x.text) (step_by Opens s) (step_by Opens z) (omega arith) (omega arith)
    (rw is at h))
alike-by Closes x w is xs ih zero m a b e p s z d f h = let no-close : None ≡ Some m = rw is at h in absurd cc
alike-by Closes x w is xs ih (suc n) m a b e p s z d f h =
    let one : s.depth ≡ suc (n + suc a) = omega arith in
    let two : z.depth ≡ suc (n + suc b) = omega arith in
    ap (λ l. token_at x p ∷ l) (ih n m a b (p + length x.text) (p + length x.text) (step_by Closes s) (step_by Closes z) (ap pred one) (ap pred two)
    (rw is at h))
alike-by Other x w is xs ih n m a b e p s z d f h =
    ap (λ l. token_at x p ∷ l) (ih n m a b (p + length x.text) (p + length x.text) (step_by Other s) (step_by Other z) d f (rw is at h))

alike : (xs : List Lexeme) → Alike xs
alike [] n m a b e p s z d f h = refl
alike (x ∷ xs) n m a b e p s z d f h = alike-by (role x.kind) x (x.kind, kept x.kind x.text) refl xs (alike xs) n m a b e p s z d f h

pub inside-spots : (xs : List Lexeme) (a b e p : ℕ) (s z : State) → s.depth ≡ suc a → z.depth ≡ suc b → nest 0 (spoken xs) ≡ Some 0
    → spots s e p xs ≡ spots z e p xs
inside-spots xs a b e p s z d f h = alike xs 0 0 a b e p s z (omega arith) (omega arith) h
