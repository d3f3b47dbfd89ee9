-- The tokens of the items behind a statement: a new line, and then those that they give at the start of a line.
use Rattle.meson_edit.proofs.Words.{◌≡◌, true, false, List, [], ◌∷◌, ◌++◌, refl, sym, ap, ap₂, subst, ◌∙◌, append_assoc, inl, inr, Lexeme, Word, kept, new_line}
use Rattle.meson_edit.proofs.Words.{Role, Gap, Ends, Opens, Closes, Other, role, State, start, step_by, emit_by, after, emitted, closing, speaks, IsTight, Flat}
use Rattle.meson_edit.proofs.Words.{after-append, emitted-append, IsLineRest, in_line}
use Rattle.meson_lex.specs.declared.kinds.Kind.TheVariants as k
use Rattle.meson_edit.proofs.exchange.States.{state-is, flat-depth, same-state}

-- the words that items give at a state, and at their end
abbrev pub told : State → List Lexeme → List Word
told s xs = emitted s xs ++ closing (after s xs).fresh

-- the same of an item of this role and others behind it
abbrev told_by : Role → State → Word → List Lexeme → List Word
told_by r s w xs = (emit_by r s w ++ emitted (step_by r s) xs) ++ closing (after (step_by r s) xs).fresh

pub told-append : (s : State) (xs ys : List Lexeme) → told s (xs ++ ys) ≡ emitted s xs ++ told (after s xs) ys
told-append s xs ys =
    ap₂ (λ (u : List Word) (q : State). u ++ closing q.fresh) (emitted-append s xs ys) (after-append s xs ys)
    ∙ append_assoc (emitted s xs) (emitted (after s xs) ys) (closing (after (after s xs) ys).fresh)

-- ---- the end of a line

no-line-word : (w : Word) (r : Role) → role w.0 ≡ r → (r ≡ Ends → ⊥) → w ≡ new_line → ⊥
no-line-word w r is other e = other (sym is ∙ ap (λ (v : Word). role v.0) e)

line-by : (r : Role) (w : Word) → role w.0 ≡ r → (xs : List Lexeme) → ((ws : List Word) → told in_line xs ≡ new_line ∷ ws → told start xs ≡ ws)
    → (ws : List Word) → told_by r in_line w xs ≡ new_line ∷ ws → told_by r start w xs ≡ ws
line-by Gap w is xs ih ws h = ih ws h
line-by Ends w is xs ih ws h = cc
line-by Opens w is xs ih ws h = let same : w ≡ new_line = cc in absurd (no-line-word w Opens is (λ e. absurd cc) same)
line-by Closes w is xs ih ws h = let same : w ≡ new_line = cc in absurd (no-line-word w Closes is (λ e. absurd cc) same)
line-by Other w is xs ih ws h = let same : w ≡ new_line = cc in absurd (no-line-word w Other is (λ e. absurd cc) same)

-- behind a statement stands its line end, and a line begins behind that
pub line-ended : (xs : List Lexeme) (ws : List Word) → told in_line xs ≡ new_line ∷ ws → told start xs ≡ ws
line-ended [] ws h = cc
line-ended (x ∷ xs) ws h = line-by (role x.kind) (x.kind, kept x.kind x.text) refl xs (line-ended xs) ws h

-- ---- where a line begins

skip : (r : Role) (w : Word) (xs : List Lexeme) → speaks r ≡ false → told_by r start w xs ≡ told start xs
skip Gap w xs h = refl
skip Ends w xs h = refl
skip Opens w xs h = absurd cc
skip Closes w xs h = absurd cc
skip Other w xs h = absurd cc

silent-first : (x : Lexeme) (xs : List Lexeme) → speaks (role x.kind) ≡ false → told start (x ∷ xs) ≡ told start xs
silent-first x xs h = skip (role x.kind) (x.kind, kept x.kind x.text) xs h

-- blanks and line ends there are no tokens
pub rest-told : (gone back : List Lexeme) → IsLineRest gone → told start (gone ++ back) ≡ told start back
rest-told [] back h = refl
rest-told (x ∷ []) back (inl e) = silent-first x back (ap (λ κ. speaks (role κ)) e)
rest-told (x ∷ []) back (inr e) = silent-first x back (ap (λ κ. speaks (role κ)) e)
rest-told (x ∷ y ∷ []) back h = silent-first x (y ∷ back) (ap (λ κ. speaks (role κ)) h.0) ∙ silent-first y back (ap (λ κ. speaks (role κ)) h.1)
rest-told (x ∷ y ∷ z ∷ zs) back h = absurd h

-- ---- single items

pub speaks-fresh : (r : Role) (s : State) → speaks r ≡ true → (step_by r s).fresh ≡ false
speaks-fresh Gap s h = absurd cc
speaks-fresh Ends s h = absurd cc
speaks-fresh Opens s h = refl
speaks-fresh Closes s h = refl
speaks-fresh Other s h = refl

pub fresh-silent : (r : Role) (s : State) → (step_by r s).fresh ≡ true → speaks r ≡ false
fresh-silent Gap s h = refl
fresh-silent Ends s h = refl
fresh-silent Opens s h = absurd cc
fresh-silent Closes s h = absurd cc
fresh-silent Other s h = absurd cc

gap-after : (r : Role) (s : State) → r ≡ Gap → step_by r s ≡ s
gap-after r s e = ap (λ r. step_by r s) e

gap-emit : (r : Role) (s : State) (w : Word) → r ≡ Gap → emit_by r s w ≡ []
gap-emit r s w e = ap (λ r. emit_by r s w) e

-- a blank at the end changes nothing
pub blank-after : (s : State) (xs : List Lexeme) (x : Lexeme) → x.kind ≡ k.Blank → after s (xs ++ x ∷ []) ≡ after s xs
blank-after s xs x e = after-append s xs (x ∷ []) ∙ gap-after (role x.kind) (after s xs) (ap role e)

pub blank-emitted : (s : State) (xs : List Lexeme) (x : Lexeme) → x.kind ≡ k.Blank → emitted s (xs ++ x ∷ []) ≡ emitted s xs ++ []
blank-emitted s xs x e = emitted-append s xs (x ∷ []) ∙ ap (λ w. emitted s xs ++ (w ++ [])) (gap-emit (role x.kind) (after s xs) (x.kind, kept x.kind x.text) (ap role e))

-- behind what is a statement, or the end of one
pub tight-after : (s : State) (own : List Lexeme) (words : List Word) → s.depth ≡ 0 → IsTight own → emitted s own ≡ words → Flat words → after s own ≡ in_line
tight-after s own words zero t is flat =
    same-state (after s own) 0 false
    (ap (λ (s : State). s.depth) (state-is s own) ∙ flat-depth (emitted s own) s zero (subst Flat (sym is) flat))
    (ap (λ l. (after s l).fresh) t.ends ∙ ap (λ (s : State). s.fresh) (after-append s t.front (t.last ∷ [])) ∙ speaks-fresh (role t.last.kind) (after s t.front) t.last_speaks)

-- behind a statement that begins a line
pub tight-state : (own : List Lexeme) (words : List Word) → IsTight own → emitted start own ≡ words → Flat words → after start own ≡ in_line
tight-state own words t is flat = tight-after start own words refl t is flat
