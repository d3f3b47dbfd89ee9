-- Parts that are spelled one after another, put together again as they stand around one of them.
use Rattle.meson_edit.proofs.Words.{◌≡◌, ℕ, List, [], ◌∷◌, ◌++◌, refl, sym, subst, ◌∙◌, append_assoc, append-nil, Token, Then, Deeper, NewLine}

pub next : {P Q : List Token → Type 0} (a b : List Token) → P a → Q b → Then P Q (a ++ b)
next a b p q = record { front = a; back = b; joined = refl; first = p; second = q }

-- the same tokens grouped another way
pub regrouped : {P Q : List Token → Type 0} (ts us : List Token) → ts ≡ us → Then P Q us → Then P Q ts
regrouped ts us e t = record { front = t.front; back = t.back; joined = e ∙ t.joined; first = t.first; second = t.second }

-- all of it
pub alone : (P : List Token → Type 0) (new : List Token) → P new → P (new ++ [])
alone P new p = subst P (sym (append-nil new)) p

-- the last of two, and of three
pub next-last : {P Q : List Token → Type 0} (a new : List Token) → P a → Q new → Then P Q (a ++ (new ++ []))
next-last {P} {Q} a new p q = next a (new ++ []) p (alone Q new q)

pub next-third : {P Q R : List Token → Type 0} (a b new : List Token) → P a → Q b → R new → Then P (Then Q R) ((a ++ b) ++ (new ++ []))
next-third {P} {Q} {R} a b new p q r = regrouped _ _ (append_assoc a b (new ++ [])) (next a (b ++ (new ++ [])) p (next-last b new q r))

-- the third of four
pub next-inner : {P Q R S : List Token → Type 0} (a b new c : List Token) → P a → Q b → R new → S c → Then P (Then Q (Then R S)) ((a ++ b) ++ (new ++ c))
next-inner a b new c p q r s = regrouped _ _ (append_assoc a b (new ++ c)) (next a (b ++ (new ++ c)) p (next b (new ++ c) q (next new c r s)))

pub deeper : {P Q : ℕ → List Token → Type 0} {d : ℕ} {ts : List Token} (w : Deeper P d ts) (new : List Token) → Q w.inner new → Deeper Q d new
deeper w new q = record { inner = w.inner; less = w.less; spelled = q }

-- behind the same line end
pub line-again : {P Q : ℕ → List Token → Type 0} {ts : List Token} (line : NewLine P ts) (new : List Token) → Q line.token.to new → NewLine Q (line.token ∷ new)
line-again line new q = record { token = line.token; rest = new; joined = refl; is = line.is; second = q }
