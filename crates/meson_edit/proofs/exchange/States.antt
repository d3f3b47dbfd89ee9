-- The state after items is read off the words that they give; behind whole lines it is the one at the start.
use Rattle.meson_edit.proofs.Words.{◌≡◌, ℕ, zero, suc, pred, Bool, true, false, List, [], ◌∷◌, ◌++◌, Some, None, refl, sym, ap, ap₂, subst, ◌∙◌, append_assoc}
use Rattle.meson_edit.proofs.Words.{inl, inr, ◌⊎◌, append-nil, Lexeme, Word, kept, new_line, Role, Gap, Ends, Opens, Closes, Other, role, State, start}
use Rattle.meson_edit.proofs.Words.{fresh_after, step_by, step, ends_line, only_if, emit_by, emit, after, emitted, nest, Flat, flat-append}

-- ---- from words to states

abbrev pub after_words : State → List Word → State
after_words s [] = s
after_words s (w ∷ ws) = after_words (step_by (role w.0) s) ws

pub after-words-append : (s : State) (a b : List Word) → after_words s (a ++ b) ≡ after_words (after_words s a) b
after-words-append s [] b = refl
after-words-append s (w ∷ a) b = after-words-append (step_by (role w.0) s) a b

line-state : (depth : ℕ) (fresh : Bool) → after_words (record { depth = depth; fresh = fresh }) (only_if (ends_line depth fresh) new_line) ≡ step_by Ends (record { depth = depth; fresh = fresh })
line-state zero true = refl
line-state zero false = refl
line-state (suc d) fresh = refl

role-state : (r : Role) (s : State) (w : Word) → role w.0 ≡ r → after_words s (emit_by r s w) ≡ step_by r s
role-state Gap s w is = refl
role-state Ends s w is = line-state s.depth s.fresh
role-state Opens s w is = ap (λ r. step_by r s) is
role-state Closes s w is = ap (λ r. step_by r s) is
role-state Other s w is = ap (λ r. step_by r s) is

pub state-is : (s : State) (xs : List Lexeme) → after s xs ≡ after_words s (emitted s xs)
state-is s [] = refl
state-is s (x ∷ xs) =
    let more = emitted (step s x) xs in
    state-is (step s x) xs ∙ sym (after-words-append s (emit s x) more ∙ ap (λ q. after_words q more) (role-state (role x.kind) s (x.kind, kept x.kind x.text) refl))

-- ---- depth

abbrev Deepens : List Word → Type 0
Deepens ws = (n m : ℕ) (s : State) → s.depth ≡ n → nest n ws ≡ Some m → (after_words s ws).depth ≡ m

depth-by : (r : Role) (w : Word) → role w.0 ≡ r → (ws : List Word) → Deepens ws → (n m : ℕ) (s : State) → s.depth ≡ n → nest n (w ∷ ws) ≡ Some m → (after_words (step_by r s) ws).depth ≡ m
depth-by Gap w is ws ih n m s e h = ih n m (step_by Gap s) e (rw is at h)
depth-by Ends w is ws ih n m s e h = ih n m (step_by Ends s) e (rw is at h)
depth-by Opens w is ws ih n m s e h = ih (suc n) m (step_by Opens s) (ap suc e) (rw is at h)
depth-by Closes w is ws ih zero m s e h = let no-close : None ≡ Some m = rw is at h in absurd cc
depth-by Closes w is ws ih (suc n) m s e h = ih n m (step_by Closes s) (ap pred e) (rw is at h)
depth-by Other w is ws ih n m s e h = ih n m (step_by Other s) e (rw is at h)

deepens : (ws : List Word) → Deepens ws
deepens [] n m s e h = let same : n ≡ m = cc in e ∙ same
deepens (w ∷ ws) n m s e h = depth-by (role w.0) w refl ws (deepens ws) n m s e h

pub flat-depth : (ws : List Word) (s : State) → s.depth ≡ 0 → Flat ws → (after_words s ws).depth ≡ 0
flat-depth ws s e f = deepens ws 0 0 s e (ap (nest 0) (sym (append-nil ws)) ∙ f 0 [])

pub same-state : (s : State) (d : ℕ) (b : Bool) → s.depth ≡ d → s.fresh ≡ b → s ≡ record { depth = d; fresh = b }
same-state s d b e f = ap₂ (λ (d : ℕ) (b : Bool). record { depth = d; fresh = b }) e f

-- ---- whole lines

-- words that close what they open, and of which the last is a line end, where there are any
pub record Lines (a : List Word) : Type 0 where
  pub flat : Flat a
  pub ends : (a ≡ []) ⊎ ((b : List Word) × (a ≡ b ++ new_line ∷ []))

pub no-lines : Lines []
no-lines = record { flat = λ n b. refl; ends = inl refl }

pub lines-append : (a b : List Word) → Lines a → Lines b → Lines (a ++ b)
lines-append a b p q = record { flat = flat-append a b p.flat q.flat; ends = ending q.ends }
  where
    ending : (b ≡ []) ⊎ ((c : List Word) × (b ≡ c ++ new_line ∷ [])) → (a ++ b ≡ []) ⊎ ((c : List Word) × (a ++ b ≡ c ++ new_line ∷ []))
    ending (inl e) = subst (λ c. (c ≡ []) ⊎ ((d : List Word) × (c ≡ d ++ new_line ∷ []))) (sym (append-nil a) ∙ ap (λ c. a ++ c) (sym e)) p.ends
    ending (inr e) = inr (a ++ e.0, ap (λ c. a ++ c) e.1 ∙ sym (append_assoc a e.0 (new_line ∷ [])))

pub line-flat : (b : List Word) → Flat b → Flat (new_line ∷ b)
line-flat b f = λ n c. f n c

-- a line, and lines behind it
pub line-more : (a b : List Word) → Flat a → Lines b → Lines (a ++ (new_line ∷ b))
line-more a b f q = record { flat = flat-append a (new_line ∷ b) f (line-flat b q.flat); ends = ending q.ends }
  where
    ending : (b ≡ []) ⊎ ((c : List Word) × (b ≡ c ++ new_line ∷ [])) → (a ++ (new_line ∷ b) ≡ []) ⊎ ((c : List Word) × (a ++ (new_line ∷ b) ≡ c ++ new_line ∷ []))
    ending (inl e) = inr (a, ap (λ c. a ++ (new_line ∷ c)) e)
    ending (inr e) = inr (a ++ (new_line ∷ e.0), ap (λ c. a ++ (new_line ∷ c)) e.1 ∙ sym (append_assoc a (new_line ∷ e.0) (new_line ∷ [])))

-- behind lines the state is as it was at the start
pub lines-state : (a : List Word) → Lines a → after_words start a ≡ start
lines-state a l = ended l.ends
  where
    ended : (a ≡ []) ⊎ ((b : List Word) × (a ≡ b ++ new_line ∷ [])) → after_words start a ≡ start
    ended (inl e) = ap (after_words start) e
    ended (inr e) =
        let q = after_words start e.0 in
        let last : after_words start a ≡ step_by Ends q = ap (after_words start) e.1 ∙ after-words-append start e.0 (new_line ∷ []) in
        let zero_deep : q.depth ≡ 0 = sym (ap (λ (s : State). s.depth) last) ∙ flat-depth a start refl l.flat in
        last ∙ ap (λ (d : ℕ). record { depth = d; fresh = fresh_after d q.fresh }) zero_deep
