-- Steps of a parser, and the tokens that they take.
use Rattle.std.proofs.Common.{◌≡◌, ℕ, Bool, true, false, cond, List, [], ◌∷◌, ◌++◌, Some, None, ◌⊎◌, inl, inr, refl, sym, ap, ap₂, subst, ◌∙◌, append_assoc, rules}
use denote.Enum.Bare.{same_true}
use Rattle.meson_lex.specs.declared.kinds.Kind.TheVariants as k
use Rattle.meson_lex.specs.contracts.kinds.Kind.{the_type}
use Rattle.meson_lex.specs.declared.kinds.Kind.{Kind}
use Rattle.meson_lex.specs.Located.{Token}
use Rattle.meson_syntax.specs.inside.Input.{same_kind, Input, Outcome, Parser, and_then, kind_of, text_of, from_of, next_of, begins_with, begins_with_two, kind, text_ahead, from, next, sees, sees_two, after_kind, expect, span_from, name_next}
use Rattle.meson_syntax.specs.Spelling.{end_of, Covers, One, IsOneToken, Then, Nothing, SaysName}
use Rattle.meson_syntax.proofs.parsing.NonEmpty.{says-some}

-- from i to j the parser took these tokens
pub record Took (i : Input) (used : List Token) (j : Input) : Type 0 where
  pub rest : i.rest ≡ used ++ j.rest
  pub last : j.last ≡ end_of i.last used

-- from i to j it took tokens that P describes
pub record Passes (P : List Token → Type 0) (i j : Input) : Type 0 where
  pub used : List Token
  pub fits : P used
  pub took : Took i used j

-- the same tokens, described otherwise
pub part : (P Q : List Token → Type 0) (i j : Input) (p : Passes P i j) → Q p.used → Passes Q i j
part P Q i j p q = record { used = p.used; fits = q; took = p.took }

pub end_of-append : (l : ℕ) (a b : List Token) → end_of l (a ++ b) ≡ end_of (end_of l a) b
end_of-append l [] b = refl
end_of-append l (t ∷ ts) b = end_of-append t.to ts b

took-then : (i m j : Input) (a b : List Token) → Took i a m → Took m b j → Took i (a ++ b) j
took-then i m j a b p q = record {
  rest = p.rest ∙ ap (λ x. a ++ x) q.rest ∙ sym (append_assoc a b j.rest);
  last = q.last ∙ ap (λ l. end_of l b) p.last ∙ sym (end_of-append i.last a b);
}

pub passes-then : (P Q : List Token → Type 0) (i m j : Input) → Passes P i m → Passes Q m j → Passes (Then P Q) i j
passes-then P Q i m j p q = record {
  used = p.used ++ q.used;
  fits = record { front = p.used; back = q.used; joined = refl; first = p.fits; second = q.fits };
  took = took-then i m j p.used q.used p.took q.took;
}

pub passes-nothing : (i : Input) → Passes Nothing i i
passes-nothing i = record { used = []; fits = refl; took = record { rest = refl; last = refl } }

nothing_took : (i j : Input) (used : List Token) → used ≡ [] → Took i used j → i ≡ j
nothing_took i j used e t =
    let rest : i.rest ≡ j.rest = t.rest ∙ ap (λ u. u ++ j.rest) e in
    let last : j.last ≡ i.last = t.last ∙ ap (end_of i.last) e in
    let make : ℕ → List Token → Input = λ l r. record { last = l; rest = r } in
    ap₂ make (sym last) rest

pub nothing-same : (i j : Input) → Passes Nothing i j → i ≡ j
nothing-same i j p = nothing_took i j p.used p.fits p.took

-- ---- what a parser that answered did

pub and_then_some : {A B : Type 0} (r : Outcome A) (f : A → Parser B) (y : B × Input) → and_then r f ≡ Some y
    → (p : A × Input) × (r ≡ Some p) × (f p.0 p.1 ≡ Some y)
and_then_some (Some p) f y h = (p, refl, h)
and_then_some None f y h = absurd cc

pub chosen_by : {A : Type 0} (b : Bool) (x y z : A) → cond b x y ≡ z → ((b ≡ true) × (x ≡ z)) ⊎ ((b ≡ false) × (y ≡ z))
chosen_by true x y z h = inl (refl, h)
chosen_by false x y z h = inr (refl, h)

pub chosen_at : {A B : Type 0} (b : Bool) (x y : A → B) (a : A) (z : B) → cond b x y a ≡ z → ((b ≡ true) × (x a ≡ z)) ⊎ ((b ≡ false) × (y a ≡ z))
chosen_at true x y a z h = inl (refl, h)
chosen_at false x y a z h = inr (refl, h)

pub some-injective : {A : Type 0} (x y : A) → Some x ≡ Some y → x ≡ y
some-injective x y e = cc

-- what is passed stays passed, at an equal answer
pub passes-at : {A : Type 0} (P : A → List Token → Type 0) (i : Input) (p q : A × Input) → Some p ≡ Some q → Passes (P p.0) i p.1 → Passes (P q.0) i q.1
passes-at P i p q e r = subst (λ x. Passes (P x.0) i x.1) (some-injective p q e) r

pub passes-from : (P : List Token → Type 0) (i m j : Input) → i ≡ m → Passes P i j → Passes P m j
passes-from P i m j e r = subst (λ x. Passes P x j) e r

-- ---- nodes

covers_list : (last : ℕ) (rest more : List Token) (to : ℕ) (used : List Token) → (used ≡ [] → ⊥) → rest ≡ used ++ more → to ≡ end_of last used
    → Covers (record { from = from_of last rest; to = to }) used
covers_list last rest more to [] some e l = absurd (some refl)
covers_list last rest more to (t ∷ ts) some e l = (ap (from_of last) e, l)

-- what a node that began at i covers at j
covers : (i j : Input) (used : List Token) → (used ≡ [] → ⊥) → Took i used j → Covers (span_from (from i) j) used
unfolding span_from from
covers i j used some t = covers_list i.last i.rest j.rest j.last used some t.rest t.last

-- a node, from its first token to its last
pub node : (P : List Token → Type 0) (i j : Input) → (P [] → ⊥) → Passes P i j → Passes (λ ts. Covers (span_from (from i) j) ts × P ts) i j
node P i j some r = record {
  used = r.used;
  fits = (covers i j r.used (λ e. some (subst P e r.fits)) r.took, r.fits);
  took = r.took;
}

-- ---- single tokens

says_list : (κ : Kind) (last : ℕ) (rest : List Token) → begins_with κ rest ≡ true → Passes (IsOneToken κ (text_of rest)) (record { last = last; rest = rest }) (next_of last rest)
unfolding same_kind
says_list κ last [] h = absurd cc
says_list κ last (t ∷ ts) h = record {
  used = t ∷ [];
  fits = record { token = t; alone = refl; is = same_true the_type (search rules) _ _ h; says = refl };
  took = record { rest = refl; last = refl };
}

pub sees-says : (κ : Kind) (i : Input) → sees κ i ≡ true → Passes (IsOneToken κ (text_ahead i)) i (next i)
unfolding sees text_ahead next
sees-says κ i h = says_list κ i.last i.rest h

-- a name, at its place
pub sees-name : (i : Input) → sees k.Identifier i ≡ true → Passes (SaysName (name_next i)) i (next i)
unfolding name_next
sees-name i h = node (IsOneToken k.Identifier (text_ahead i)) i (next i) (says-some k.Identifier (text_ahead i)) (sees-says k.Identifier i h)

one-from-says : (κ : Kind) (x : List ℕ) (i j : Input) → Passes (IsOneToken κ x) i j → Passes (One κ) i j
one-from-says κ x i j r = record { used = r.used; fits = record { token = r.fits.token; alone = r.fits.alone; is = r.fits.is }; took = r.took }

pub sees-one : (κ : Kind) (i : Input) → sees κ i ≡ true → Passes (One κ) i (next i)
sees-one κ i h = one-from-says κ (text_ahead i) i (next i) (sees-says κ i h)

pub expect-one : (κ : Kind) (i : Input) (p : Unit {0} × Input) → expect κ i ≡ Some p → Passes (One κ) i p.1
unfolding expect
expect-one κ i p h = elim (chosen_by (sees κ i) (Some (tt, next i)) None (Some p) h) [
  | inl w ↦ (let n : next i ≡ p.1 = cc (w.1) in subst (λ j. Passes (One κ) i j) n (sees-one κ i w.0))
  | inr w ↦ absurd cc
]

pub eat-one : (κ : Kind) (i : Input) → sees κ i ≡ true → Passes (One κ) i (after_kind κ i)
unfolding after_kind
eat-one κ i h = rw h (sees-one κ i h)

pub eat-none : (κ : Kind) (i : Input) → sees κ i ≡ false → after_kind κ i ≡ i
unfolding after_kind
eat-none κ i h = rw h

two_list : (κ ι : Kind) (last : ℕ) (rest : List Token) → begins_with_two κ ι rest ≡ cond (begins_with κ rest) (begins_with ι (next_of last rest).rest) false
two_list κ ι last [] = refl
two_list κ ι last (t ∷ ts) = refl

-- two tokens are one and then one
pub two-by : (κ ι : Kind) (i : Input) → sees_two κ ι i ≡ cond (sees κ i) (sees ι (next i)) false
unfolding sees_two sees next
two-by κ ι i = two_list κ ι i.last i.rest

and-both : (a b : Bool) → cond a b false ≡ true → (a ≡ true) × (b ≡ true)
and-both true b h = (refl, h)
and-both false b h = absurd cc

pub two-both : (κ ι : Kind) (i : Input) → sees_two κ ι i ≡ true → (sees κ i ≡ true) × (sees ι (next i) ≡ true)
two-both κ ι i h = and-both (sees κ i) (sees ι (next i)) (sym (two-by κ ι i) ∙ h)

kind_list : (κ other : Kind) (rest : List Token) → kind_of rest ≡ Some κ → same_kind κ other ≡ true → begins_with other rest ≡ true
kind_list κ other [] e h = absurd cc
kind_list κ other (t ∷ ts) e h = let is : t.kind ≡ κ = some-injective _ _ e in rw is h

pub kind-sees : (i : Input) (κ other : Kind) → kind i ≡ Some κ → same_kind κ other ≡ true → sees other i ≡ true
unfolding kind sees
kind-sees i κ other e h = kind_list κ other i.rest e h
