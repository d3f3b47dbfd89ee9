-- Tokens whose words are known, cut where the words are.
use Rattle.std.proofs.Common.{◌≡◌, ℕ, suc, zero, ◌≤◌, Bool, true, false, List, [], ◌∷◌, ◌++◌, map, refl, sym, ap, ap₂, subst, ◌∙◌, arith}
use Rattle.meson_lex.specs.declared.kinds.Kind.{Kind}
use Rattle.meson_lex.specs.declared.kinds.Kind.TheVariants as k
use Rattle.meson_lex.specs.declared.kinds.Span.{Span}
use Rattle.meson_lex.specs.Significant.{Word, kept, new_line}
use Rattle.meson_lex.specs.Located.{Token, word_of, words}
use Rattle.meson_syntax.specs.Tree.{Nowhere, Name, erase_name, erase_names, Arguments, no_arguments, argument}
use Rattle.meson_syntax.specs.Spelling.{Covers, CoversBlock, end_of, One, IsOneToken, SaysName, Then, Deeper, NewLine, Nothing, Each, SaysMoreNames, SaysNames, Comma}
use Rattle.meson_syntax.specs.Grammar.{mark, comma_words, names_words, more_names_words, HasName}
use Rattle.meson_syntax.proofs.parsing.NonEmpty.{says-some, one-some, then-some}

-- tokens of which the first have the words a, and those behind them the words b
pub record Cut (a b : List Word) (ts : List Token) : Type 0 where
  pub front : List Token
  pub back : List Token
  pub joined : ts ≡ front ++ back
  pub first : words front ≡ a
  pub second : words back ≡ b

pub cut : (a b : List Word) (ts : List Token) → words ts ≡ a ++ b → Cut a b ts
cut [] b ts e = record { front = []; back = ts; joined = refl; first = refl; second = e }
cut (w ∷ ws) b [] e = absurd cc
cut (w ∷ ws) b (t ∷ ts) e =
    let head : word_of t ≡ w = cc in
    let rest : words ts ≡ ws ++ b = cc in
    let c = cut ws b ts rest in
    record { front = t ∷ c.front; back = c.back; joined = ap (λ x. t ∷ x) c.joined; first = ap₂ (λ x y. x ∷ y) head c.first; second = c.second }

pub join : (P Q : List Token → Type 0) (a b : List Word) (ts : List Token) → (c : Cut a b ts) → P c.front → Q c.back → Then P Q ts
join P Q a b ts c p q = record { front = c.front; back = c.back; joined = c.joined; first = p; second = q }

-- ---- single tokens

pub one-from : (κ : Kind) (ts : List Token) → words ts ≡ mark κ → One κ ts
one-from κ [] e = absurd cc
one-from κ (t ∷ []) e =
    let head : word_of t ≡ (κ, []) = cc in
    record { token = t; alone = refl; is = ap (λ (w : Word). w.0) head }
one-from κ (t ∷ u ∷ ts) e = absurd cc

pub says-from : (κ : Kind) (x : List ℕ) (ts : List Token) → ((y : List ℕ) → kept κ y ≡ y) → words ts ≡ (κ, x) ∷ [] → IsOneToken κ x ts
says-from κ x [] keeps e = absurd cc
says-from κ x (t ∷ []) keeps e =
    let head : word_of t ≡ (κ, x) = cc in
    let is : t.kind ≡ κ = ap (λ (w : Word). w.0) head in
    let says : kept t.kind t.text ≡ x = ap (λ (w : Word). w.1) head in
    let kept-is : kept t.kind t.text ≡ t.text = ap (λ a. kept a t.text) is ∙ keeps t.text in
    record { token = t; alone = refl; is = is; says = sym kept-is ∙ says }
says-from κ x (t ∷ u ∷ ts) keeps e = absurd cc

pub nothing-from : (ts : List Token) → words ts ≡ [] → Nothing ts
nothing-from [] e = refl
nothing-from (t ∷ ts) e = absurd cc

-- a token with its kind's mark, and what follows it
pub one-then : (κ : Kind) (Q : List Token → Type 0) (b : List Word) (ts : List Token) → (c : Cut (mark κ) b ts) → Q c.back → Then (One κ) Q ts
one-then κ Q b ts c q = join (One κ) Q (mark κ) b ts c (one-from κ c.front c.first) q

-- what stands before a token at the end
pub then-one : (κ : Kind) (P : List Token → Type 0) (a : List Word) (ts : List Token) → (c : Cut a (mark κ) ts) → P c.front → Then P (One κ) ts
then-one κ P a ts c p = join P (One κ) a (mark κ) ts c p (one-from κ c.back c.second)

-- ---- spans for tokens

cover : (ts : List Token) → (ts ≡ [] → ⊥) → (s : Span) × Covers s ts
cover [] some = absurd (some refl)
cover (t ∷ ts) some = (record { from = t.from; to = end_of t.to ts }, (refl, refl))

pub cover-one : (κ : Kind) (ts : List Token) → One κ ts → (s : Span) × Covers s ts
cover-one κ ts w = cover ts (λ e. one-some κ (subst (One κ) e w))

pub cover-says : (κ : Kind) (x : List ℕ) (ts : List Token) → IsOneToken κ x ts → (s : Span) × Covers s ts
cover-says κ x ts w = cover ts (λ e. says-some κ x (subst (IsOneToken κ x) e w))

-- this name, at the place where it stands
pub name-from : (x : Name Nowhere) (ts : List Token) → words ts ≡ (k.Identifier, x.text) ∷ [] → (y : Name Span) × (erase_name y ≡ x) × SaysName y ts
name-from x ts e =
    let w = says-from k.Identifier x.text ts (λ y. refl) e in
    let c = cover-says k.Identifier x.text ts w in
    (record { place = c.0; text = x.text }, refl, (c.1, w))

-- ---- several tokens

pub each-from : (κs : List Kind) (ts : List Token) → words ts ≡ map (λ κ. (κ, [])) κs → Each κs ts
each-from [] ts e = nothing-from ts e
each-from (κ ∷ κs) ts e =
    let a = cut (mark κ) (map (λ κ. (κ, [])) κs) ts e in
    one-then κ (Each κs) _ ts a (each-from κs a.back a.second)

pub comma-from : (more : Arguments Span) (trailing : Bool) (ts : List Token) → words ts ≡ comma_words more trailing → Comma more trailing ts
comma-from no_arguments true ts e = one-from k.Comma ts e
comma-from no_arguments false ts e = nothing-from ts e
comma-from (argument a more) trailing ts e = one-from k.Comma ts e

more-names-from : (xs : List (Name Nowhere)) (ts : List Token) → words ts ≡ more_names_words xs → (ys : List (Name Span)) × (erase_names ys ≡ xs) × SaysMoreNames ys ts
more-names-from [] ts e = ([], refl, nothing-from ts e)
more-names-from (x ∷ xs) ts e =
    let a = cut (mark k.Comma) ((k.Identifier, x.text) ∷ more_names_words xs) ts e in
    let b = cut ((k.Identifier, x.text) ∷ []) (more_names_words xs) a.back a.second in
    let y = name-from x b.front b.first in
    let ys = more-names-from xs b.back b.second in
    let t = join (SaysName y.0) (SaysMoreNames ys.0) _ _ a.back b y.2 ys.2 in
    (y.0 ∷ ys.0, ap₂ (λ v w. v ∷ w) y.1 ys.1, one-then k.Comma (Then (SaysName y.0) (SaysMoreNames ys.0)) _ ts a t)

pub names-from : (xs : List (Name Nowhere)) (ts : List Token) → HasName xs → words ts ≡ names_words xs → (ys : List (Name Span)) × (erase_names ys ≡ xs) × SaysNames ys ts
names-from [] ts has e = absurd has
names-from (x ∷ xs) ts has e =
    let a = cut ((k.Identifier, x.text) ∷ []) (more_names_words xs) ts e in
    let y = name-from x a.front a.first in
    let ys = more-names-from xs a.back a.second in
    (y.0 ∷ ys.0, ap₂ (λ v w. v ∷ w) y.1 ys.1, join (SaysName y.0) (SaysMoreNames ys.0) _ _ ts a y.2 ys.2)

-- ---- line ends

-- a line end, and tokens with the words b behind it
pub record LineCut (b : List Word) (ts : List Token) : Type 0 where
  pub token : Token
  pub rest : List Token
  pub joined : ts ≡ token ∷ rest
  pub is : token.kind ≡ k.LineEnd
  pub second : words rest ≡ b

pub line-cut : (b : List Word) (ts : List Token) → words ts ≡ new_line ∷ b → LineCut b ts
line-cut b [] e = absurd cc
line-cut b (t ∷ ts) e =
    let head : word_of t ≡ new_line = cc in
    let rest : words ts ≡ b = cc in
    record { token = t; rest = ts; joined = refl; is = ap (λ (w : Word). w.0) head; second = rest }

pub new-line-from : (P : ℕ → List Token → Type 0) (b : List Word) (ts : List Token) → (c : LineCut b ts) → P c.token.to c.rest → NewLine P ts
new-line-from P b ts c p = record { token = c.token; rest = c.rest; joined = c.joined; is = c.is; second = p }

-- ---- spans for several tokens

pub cover-then : (P Q : List Token → Type 0) (ts : List Token) → (P [] → ⊥) → Then P Q ts → (s : Span) × Covers s ts
cover-then P Q ts some t = cover ts (λ e. then-some P Q some (subst (Then P Q) e t))

pub cover-block : (last : ℕ) (ts : List Token) → (s : Span) × CoversBlock last s ts
cover-block last [] = (record { from = last; to = last }, (refl, refl))
cover-block last (t ∷ ts) = (record { from = t.from; to = end_of t.to ts }, (refl, refl))

-- ---- depth

-- one level below d there is room for n
pub record Under (n d : ℕ) : Type 0 where
  pub inner : ℕ
  pub less : d ≡ suc inner
  pub fits : n ≤ inner

pub under : (n d : ℕ) → suc n ≤ d → Under n d
under n zero h = absurd (omega arith)
under n (suc d) h = record { inner = d; less = refl; fits = omega arith }

pub deeper : (P : ℕ → List Token → Type 0) (n d : ℕ) (ts : List Token) → (u : Under n d) → P u.inner ts → Deeper P d ts
deeper P n d ts u p = record { inner = u.inner; less = u.less; spelled = p }
