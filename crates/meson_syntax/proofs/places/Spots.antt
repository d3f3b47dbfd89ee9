-- From a token to the item that it comes from.
use Rattle.std.proofs.Common.{◌≡◌, ℕ, ◌+◌, Bool, true, false, List, [], ◌∷◌, ◌++◌, length, refl, sym, ap, ap₂, ◌∙◌, subst, append_assoc, length-append, arith, inl, inr, ◌⊎◌}
use Rattle.meson_lex.specs.declared.kinds.Kind.TheVariants as k
use Rattle.meson_lex.specs.Items.{Lexeme, joined}
use Rattle.meson_lex.specs.Significant.{Word, kept, Role, Gap, Ends, Opens, Closes, Other, role, State, step, after, ends_line, only_if, emit_by, emitted}
use Rattle.meson_lex.specs.Located.{Token, word_of, line_end_at, token_at, spot_by, end_by, spots}
use Rattle.meson_lex.specs.Words.{speaks}

pub after-append : (s : State) (xs ys : List Lexeme) → after s (xs ++ ys) ≡ after (after s xs) ys
after-append s [] ys = refl
after-append s (x ∷ xs) ys = after-append (step s x) xs ys

pub emitted-append : (s : State) (xs ys : List Lexeme) → emitted s (xs ++ ys) ≡ emitted s xs ++ emitted (after s xs) ys
emitted-append s [] ys = refl
emitted-append s (x ∷ xs) ys =
    let w = emit_by (role x.kind) s (x.kind, kept x.kind x.text) in
    ap (λ l. w ++ l) (emitted-append (step s x) xs ys) ∙ sym (append_assoc w (emitted (step s x) xs) (emitted (after (step s x) xs) ys))

pub speaks-emit : (r : Role) (s : State) (w : Word) → speaks r ≡ true → emit_by r s w ≡ w ∷ []
speaks-emit Gap s w h = absurd cc
speaks-emit Ends s w h = absurd cc
speaks-emit Opens s w h = refl
speaks-emit Closes s w h = refl
speaks-emit Other s w h = refl

-- what an item adds: nothing, a line end, or itself
abbrev Adds : Role → ℕ → ℕ → Lexeme → List Token → ℕ → Type 0
Adds r e p x ts e' = (ts ≡ []) ⊎ ((ts ≡ line_end_at e ∷ []) ⊎ ((ts ≡ token_at x p ∷ []) × (e' ≡ p + length x.text) × (speaks r ≡ true)))

adds-end : (b : Bool) (e p : ℕ) (x : Lexeme) → Adds Ends e p x (only_if b (line_end_at e)) e
adds-end true e p x = inr (inl refl)
adds-end false e p x = inl refl

adds-by : (r : Role) (s : State) (e p : ℕ) (x : Lexeme) → Adds r e p x (spot_by r s x e p) (end_by r x e p)
adds-by Gap s e p x = inl refl
adds-by Ends s e p x = adds-end (ends_line s.depth s.fresh) e p x
adds-by Opens s e p x = inr (inr (refl, refl, refl))
adds-by Closes s e p x = inr (inr (refl, refl, refl))
adds-by Other s e p x = inr (inr (refl, refl, refl))

-- a token of an item, not of the end of a line
abbrev pub IsOwn : Token → Type 0
IsOwn t = t.kind ≡ k.LineEnd → ⊥

-- no such token is among these
abbrev pub IsSilent : List Token → Type 0
IsSilent ts = (before : List Token) (t : Token) (behind : List Token) → IsOwn t → ts ≡ before ++ t ∷ behind → ⊥

-- The item of one token of items, which the tokens `more` follow.
pub record ItemAt (s : State) (e p : ℕ) (xs : List Lexeme) (before : List Token) (t : Token) (behind more : List Token) : Type 0 where
  pub front : List Lexeme
  pub here : Lexeme
  pub rest : List Lexeme
  pub parts : xs ≡ front ++ here ∷ rest
  pub is_front : spots s e p front ≡ before
  pub is : t.kind ≡ here.kind
  pub word : word_of t ≡ (here.kind, kept here.kind here.text)
  pub here_speaks : speaks (role here.kind) ≡ true
  pub from : t.from ≡ p + length (joined front)
  pub to : t.to ≡ t.from + length here.text
  pub is_rest : spots (step (after s front) here) t.to t.to rest ++ more ≡ behind

-- an item before the one that is looked for
later : (s : State) (e p : ℕ) (x : Lexeme) (xs : List Lexeme) (a before : List Token) (t : Token) (behind more : List Token) → spot_by (role x.kind) s x e p ≡ a
    → ItemAt (step s x) (end_by (role x.kind) x e p) (p + length x.text) xs before t behind more → ItemAt s e p (x ∷ xs) (a ++ before) t behind more
later s e p x xs a before t behind more same r =
    let n = length-append x.text (joined r.front) in
    let begins = r.from in
    record {
      front = x ∷ r.front;
      here = r.here;
      rest = r.rest;
      parts = ap (λ l. x ∷ l) r.parts;
      is_front = ap₂ (λ u v. u ++ v) same r.is_front;
      is = r.is;
      word = r.word;
      here_speaks = r.here_speaks;
      from = omega arith;
      to = r.to;
      is_rest = r.is_rest;
    }

cut-step : (s : State) (e p : ℕ) (x : Lexeme) (xs : List Lexeme) (more : List Token) → Adds (role x.kind) e p x (spot_by (role x.kind) s x e p) (end_by (role x.kind) x e p)
    → ((before : List Token) (t : Token) (behind : List Token) → IsOwn t → spots (step s x) (end_by (role x.kind) x e p) (p + length x.text) xs ++ more ≡ before ++ t ∷ behind
    → ItemAt (step s x) (end_by (role x.kind) x e p) (p + length x.text) xs before t behind more)
    → (before : List Token) (t : Token) (behind : List Token) → IsOwn t → spots s e p (x ∷ xs) ++ more ≡ before ++ t ∷ behind → ItemAt s e p (x ∷ xs) before t behind more
cut-step s e p x xs more (inl none) ih before t behind own h =
    let rest : spots (step s x) (end_by (role x.kind) x e p) (p + length x.text) xs ++ more ≡ before ++ t ∷ behind = rw none at h in
    later s e p x xs [] before t behind more none (ih before t behind own rest)
cut-step s e p x xs more (inr (inl line)) ih [] t behind own h =
    let found : line_end_at e ∷ (spots (step s x) (end_by (role x.kind) x e p) (p + length x.text) xs ++ more) ≡ t ∷ behind = rw line at h in
    let same : line_end_at e ≡ t = cc in
    absurd (own (sym (ap (λ (u : Token). u.kind) same)))
cut-step s e p x xs more (inr (inl line)) ih (a ∷ before) t behind own h =
    let found : line_end_at e ∷ (spots (step s x) (end_by (role x.kind) x e p) (p + length x.text) xs ++ more) ≡ a ∷ (before ++ t ∷ behind) = rw line at h in
    let same : line_end_at e ≡ a = cc in
    let rest : spots (step s x) (end_by (role x.kind) x e p) (p + length x.text) xs ++ more ≡ before ++ t ∷ behind = cc in
    later s e p x xs (a ∷ []) before t behind more (line ∙ ap (λ u. u ∷ []) same) (ih before t behind own rest)
cut-step s e p x xs more (inr (inr itself)) ih [] t behind own h =
    let found : token_at x p ∷ (spots (step s x) (end_by (role x.kind) x e p) (p + length x.text) xs ++ more) ≡ t ∷ behind = rw itself.0 at h in
    let same : token_at x p ≡ t = cc in
    let rest : spots (step s x) (end_by (role x.kind) x e p) (p + length x.text) xs ++ more ≡ behind = cc in
    let from : t.from ≡ p = sym (ap (λ (u : Token). u.from) same) in
    let to : p + length x.text ≡ t.to = ap (λ (u : Token). u.to) same in
    record {
      front = [];
      here = x;
      rest = xs;
      parts = refl;
      is_front = refl;
      is = sym (ap (λ (u : Token). u.kind) same);
      word = sym (ap word_of same);
      here_speaks = itself.2;
      from = omega arith;
      to = omega arith;
      is_rest = subst (λ q. spots (step s x) q q xs ++ more ≡ behind) to (subst (λ q. spots (step s x) q (p + length x.text) xs ++ more ≡ behind) itself.1 rest);
    }
cut-step s e p x xs more (inr (inr itself)) ih (a ∷ before) t behind own h =
    let found : token_at x p ∷ (spots (step s x) (end_by (role x.kind) x e p) (p + length x.text) xs ++ more) ≡ a ∷ (before ++ t ∷ behind) = rw itself.0 at h in
    let same : token_at x p ≡ a = cc in
    let rest : spots (step s x) (end_by (role x.kind) x e p) (p + length x.text) xs ++ more ≡ before ++ t ∷ behind = cc in
    later s e p x xs (a ∷ []) before t behind more (itself.0 ∙ ap (λ u. u ∷ []) same) (ih before t behind own rest)

pub cut-item : (s : State) (e p : ℕ) (xs : List Lexeme) (more : List Token) → IsSilent more
    → (before : List Token) (t : Token) (behind : List Token) → IsOwn t → spots s e p xs ++ more ≡ before ++ t ∷ behind → ItemAt s e p xs before t behind more
cut-item s e p [] more quiet before t behind own h = absurd (quiet before t behind own h)
cut-item s e p (x ∷ xs) more quiet before t behind own h =
    cut-step s e p x xs more (adds-by (role x.kind) s e p x) (cut-item (step s x) (end_by (role x.kind) x e p) (p + length x.text) xs more quiet) before t behind own h
