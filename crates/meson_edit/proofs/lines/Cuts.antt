-- The words of items in two parts. Where the first part has words that are whole lines, the others are those of the second part at the start of a line. And
-- items without words, which change none.
use Rattle.meson_edit.proofs.Words.{◌≡◌, true, false, Bool, List, [], ◌∷◌, ◌++◌, refl, sym, ap, ap₂, ◌∙◌, append_assoc, append_cancel_left}
use Rattle.meson_edit.proofs.Words.{Lexeme, Word, kept, new_line, Role, Gap, Ends, Opens, Closes, Other, role, State, start, step_by, step, ◌⊎◌, inl, inr}
use Rattle.meson_edit.proofs.Words.{emit_by, emit, after, emitted, closing, significant, speaks, spoken, spoken_by, word, HasNoLineEnd}
use Rattle.meson_edit.proofs.exchange.States.{same-state}
use Rattle.meson_edit.proofs.exchange.Standing.{ends-line}
use Rattle.meson_edit.proofs.exchange.LineWords.{told, told-append, line-ended, speaks-fresh}

-- ---- two parts

-- behind items that are outside brackets at their end
behind-cut : (fresh : Bool) (ys : List Lexeme) (rest : List Word) → told (record { depth = 0; fresh = fresh }) ys ≡ closing fresh ++ rest → told start ys ≡ rest
behind-cut true ys rest h = h
behind-cut false ys rest h = line-ended ys rest h

pub second-part : (xs ys : List Lexeme) (rest : List Word) → (after start xs).depth ≡ 0 → told start (xs ++ ys) ≡ significant xs ++ rest → told start ys ≡ rest
second-part xs ys rest deep h =
    let q = after start xs in
    let whole : emitted start xs ++ told q ys ≡ emitted start xs ++ (closing q.fresh ++ rest) =
    sym (told-append start xs ys) ∙ h ∙ append_assoc (emitted start xs) (closing q.fresh) rest in
    let behind : told q ys ≡ closing q.fresh ++ rest = append_cancel_left (emitted start xs) (told q ys) (closing q.fresh ++ rest) whole in
    behind-cut q.fresh ys rest (ap (λ (s : State). told s ys) (sym (same-state q 0 q.fresh deep refl)) ∙ behind)

-- ---- items without words

-- an item that speaks has a word of its own
role-quiet : (r : Role) (w : Word) (more : List Word) → spoken_by r w ++ more ≡ [] → (speaks r ≡ false) × (more ≡ [])
role-quiet Gap w more h = (refl, h)
role-quiet Ends w more h = (refl, h)
role-quiet Opens w more h = absurd cc
role-quiet Closes w more h = absurd cc
role-quiet Other w more h = absurd cc

step-depth : (r : Role) (s : State) → speaks r ≡ false → (step_by r s).depth ≡ s.depth
step-depth Gap s h = refl
step-depth Ends s h = refl
step-depth Opens s h = absurd cc
step-depth Closes s h = absurd cc
step-depth Other s h = absurd cc

-- they open and close nothing
pub quiet-depth : (xs : List Lexeme) (s : State) → spoken xs ≡ [] → (after s xs).depth ≡ s.depth
quiet-depth [] s h = refl
quiet-depth (x ∷ xs) s h =
    let q = role-quiet (role x.kind) (word x) (spoken xs) h in
    quiet-depth xs (step s x) q.1 ∙ step-depth (role x.kind) s q.0

-- at the start of a line nothing changes
pub record Stays (s : State) (xs : List Lexeme) : Type 0 where
  pub silent : emitted s xs ≡ []
  pub same : after s xs ≡ s

start-by : (r : Role) (w : Word) (xs : List Lexeme) → speaks r ≡ false → Stays start xs
    → (emit_by r start w ++ emitted (step_by r start) xs ≡ []) × (after (step_by r start) xs ≡ start)
start-by Gap w xs h t = (t.silent, t.same)
start-by Ends w xs h t = (t.silent, t.same)
start-by Opens w xs h t = absurd cc
start-by Closes w xs h t = absurd cc
start-by Other w xs h t = absurd cc

quiet-start : (xs : List Lexeme) → spoken xs ≡ [] → Stays start xs
quiet-start [] h = record { silent = refl; same = refl }
quiet-start (x ∷ xs) h =
    let q = role-quiet (role x.kind) (word x) (spoken xs) h in
    let t = start-by (role x.kind) (x.kind, kept x.kind x.text) xs q.0 (quiet-start xs q.1) in
    record { silent = t.0; same = t.1 }

-- elsewhere outside brackets they end the line at most, as the end of a text does
told-by : (r : Role) (w : Word) (xs : List Lexeme) → speaks r ≡ false → ((fresh : Bool) → told (record { depth = 0; fresh = fresh }) xs ≡ closing fresh) → (fresh : Bool)
    → let s : State = record { depth = 0; fresh = fresh } in (emit_by r s w ++ emitted (step_by r s) xs) ++ closing (after (step_by r s) xs).fresh ≡ closing fresh
told-by Gap w xs h ih fresh = ih fresh
told-by Ends w xs h ih true = ih true
told-by Ends w xs h ih false = ap (λ w. new_line ∷ w) (ih true)
told-by Opens w xs h ih fresh = absurd cc
told-by Closes w xs h ih fresh = absurd cc
told-by Other w xs h ih fresh = absurd cc

quiet-told : (xs : List Lexeme) → spoken xs ≡ [] → (fresh : Bool) → told (record { depth = 0; fresh = fresh }) xs ≡ closing fresh
quiet-told [] h fresh = refl
quiet-told (x ∷ xs) h fresh =
    let q = role-quiet (role x.kind) (word x) (spoken xs) h in
    told-by (role x.kind) (x.kind, kept x.kind x.text) xs q.0 (quiet-told xs q.1) fresh

pub quiet-behind : (xs quiet : List Lexeme) → (after start xs).depth ≡ 0 → spoken quiet ≡ [] → significant (xs ++ quiet) ≡ significant xs
quiet-behind xs quiet deep h =
    let q = after start xs in
    told-append start xs quiet
    ∙ ap (λ w. emitted start xs ++ w) (ap (λ (s : State). told s quiet) (same-state q 0 q.fresh deep refl) ∙ quiet-told quiet h q.fresh)

pub quiet-before : (quiet xs : List Lexeme) → spoken quiet ≡ [] → significant (quiet ++ xs) ≡ significant xs
quiet-before quiet xs h =
    let t = quiet-start quiet h in
    told-append start quiet xs ∙ ap₂ (λ (w : List Word) (s : State). w ++ told s xs) t.silent t.same

-- ---- a line's items before its first word, and those after its last

speaking-or-not : (r : Role) → (speaks r ≡ true) ⊎ (speaks r ≡ false)
speaking-or-not Gap = inr refl
speaking-or-not Ends = inr refl
speaking-or-not Opens = inl refl
speaking-or-not Closes = inl refl
speaking-or-not Other = inl refl

-- where no line ends, no line begins
no-line-fresh : (r : Role) (s : State) → (r ≡ Ends → ⊥) → s.fresh ≡ false → (step_by r s).fresh ≡ false
no-line-fresh Gap s h e = e
no-line-fresh Ends s h e = absurd (h refl)
no-line-fresh Opens s h e = refl
no-line-fresh Closes s h e = refl
no-line-fresh Other s h e = refl

no-lines-fresh : (xs : List Lexeme) (s : State) → HasNoLineEnd xs → s.fresh ≡ false → (after s xs).fresh ≡ false
no-lines-fresh [] s h e = e
no-lines-fresh (x ∷ xs) s h e = no-lines-fresh xs (step s x) h.1 (no-line-fresh (role x.kind) s (ends-line x.kind h.0) e)

-- a gap
gap-by : (r : Role) (s : State) (w : Word) (xs : List Lexeme) → (r ≡ Ends → ⊥) → speaks r ≡ false → (Stays (step_by r s) xs)
    → (emit_by r s w ++ emitted (step_by r s) xs ≡ []) × (after (step_by r s) xs ≡ s)
gap-by Gap s w xs h q t = (t.silent, t.same)
gap-by Ends s w xs h q t = absurd (h refl)
gap-by Opens s w xs h q t = absurd cc
gap-by Closes s w xs h q t = absurd cc
gap-by Other s w xs h q t = absurd cc

-- where a line begins at the end, and none ended, there was no word
pub line-head : (xs : List Lexeme) (s : State) → HasNoLineEnd xs → (after s xs).fresh ≡ true → Stays s xs
line-head [] s h e = record { silent = refl; same = refl }
line-head (x ∷ xs) s h e = by-speech (line-head xs (step s x) h.1 e) (speaking-or-not (role x.kind))
  where
    by-speech : Stays (step s x) xs → (speaks (role x.kind) ≡ true) ⊎ (speaks (role x.kind) ≡ false) → Stays s (x ∷ xs)
    by-speech later (inl loud) =
        let spoken_line = no-lines-fresh xs (step s x) h.1 (speaks-fresh (role x.kind) s loud) in
        let both : false ≡ true = sym spoken_line ∙ e in
        absurd cc
    by-speech later (inr q) =
        let t = gap-by (role x.kind) s (x.kind, kept x.kind x.text) xs (ends-line x.kind h.0) q later in
        record { silent = t.0; same = t.1 }

-- behind a statement there is no word before the line ends
loud-word : (r : Role) (s : State) (w : Word) (more ws : List Word) → role w.0 ≡ r → speaks r ≡ true → emit_by r s w ++ more ≡ new_line ∷ ws → ⊥
loud-word Gap s w more ws is loud h = absurd cc
loud-word Ends s w more ws is loud h = absurd cc
loud-word Opens s w more ws is loud h = let same : w ≡ new_line = cc in let both : Ends ≡ Opens = sym (ap (λ (v : Word). role v.0) same) ∙ is in absurd cc
loud-word Closes s w more ws is loud h = let same : w ≡ new_line = cc in let both : Ends ≡ Closes = sym (ap (λ (v : Word). role v.0) same) ∙ is in absurd cc
loud-word Other s w more ws is loud h = let same : w ≡ new_line = cc in let both : Ends ≡ Other = sym (ap (λ (v : Word). role v.0) same) ∙ is in absurd cc

gap-told : (r : Role) (s : State) (w : Word) (xs : List Lexeme) → (r ≡ Ends → ⊥) → speaks r ≡ false
    → (emit_by r s w ++ emitted (step_by r s) xs) ++ closing (after (step_by r s) xs).fresh ≡ told s xs
gap-told Gap s w xs h q = refl
gap-told Ends s w xs h q = absurd (h refl)
gap-told Opens s w xs h q = absurd cc
gap-told Closes s w xs h q = absurd cc
gap-told Other s w xs h q = absurd cc

gap-stays : (r : Role) (s : State) (xs : List Lexeme) → (r ≡ Ends → ⊥) → speaks r ≡ false → Stays s xs → Stays (step_by r s) xs
gap-stays Gap s xs h q t = t
gap-stays Ends s xs h q t = absurd (h refl)
gap-stays Opens s xs h q t = absurd cc
gap-stays Closes s xs h q t = absurd cc
gap-stays Other s xs h q t = absurd cc

pub line-rest : (xs ys : List Lexeme) (s : State) (ws : List Word) → HasNoLineEnd xs → told s (xs ++ ys) ≡ new_line ∷ ws → Stays s xs
line-rest [] ys s ws h e = record { silent = refl; same = refl }
line-rest (x ∷ xs) ys s ws h e = by-speech (line-rest xs ys s ws h.1) (speaking-or-not (role x.kind))
  where
    by-speech : (told s (xs ++ ys) ≡ new_line ∷ ws → Stays s xs) → (speaks (role x.kind) ≡ true) ⊎ (speaks (role x.kind) ≡ false) → Stays s (x ∷ xs)
    by-speech more_stay (inl loud) =
        let more = emitted (step s x) (xs ++ ys) in
        let end = closing (after (step s x) (xs ++ ys)).fresh in
        absurd (loud-word (role x.kind) s (x.kind, kept x.kind x.text) (more ++ end) ws refl loud (sym (append_assoc (emit s x) more end) ∙ e))
    by-speech more_stay (inr q) =
        let r = role x.kind in
        let w : Word = (x.kind, kept x.kind x.text) in
        let later = more_stay (sym (gap-told r s w (xs ++ ys) (ends-line x.kind h.0) q) ∙ e) in
        let t = gap-by r s w xs (ends-line x.kind h.0) q (gap-stays r s xs (ends-line x.kind h.0) q later) in
        record { silent = t.0; same = t.1 }
