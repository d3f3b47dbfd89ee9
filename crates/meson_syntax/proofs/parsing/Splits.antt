-- From what was spelled to what is read: steps.
use Rattle.std.proofs.Common.{◌≡◌, ℕ, ◌+◌, ◌<◌, Bool, true, false, cond, List, [], ◌∷◌, ◌++◌, length, Some, refl, sym, ap, ap₂, subst, ◌∙◌, append_assoc, length-append, arith, rules}
use denote.Enum.Bare.{true_same, false_same, same_true}
use Rattle.meson_lex.specs.declared.kinds.Kind.TheVariants as k
use Rattle.meson_lex.specs.contracts.kinds.Kind.{the_type}
use Rattle.meson_lex.specs.declared.kinds.Kind.{Kind}
use Rattle.meson_lex.specs.declared.kinds.Span.{Span}
use Rattle.meson_lex.specs.Located.{Token}
use Rattle.meson_syntax.specs.inside.Input.{same_kind, Input, Outcome, Parser, and_then, kind_of, text_of, from_of, next_of, begins_with, kind, text_ahead, from, next, sees, sees_two, after_kind, expect, span_from, left, name_next}
use Rattle.meson_syntax.specs.Spelling.{end_of, Covers, One, IsOneToken, Then, SaysName}
use Rattle.meson_syntax.proofs.parsing.Steps.{Took, Passes, end_of-append, two-by, some-injective, part}
use Rattle.meson_syntax.specs.Tree.{Name}

-- ---- what a parser answers

pub bind-is : {A B : Type 0} (r : Outcome A) (f : A → Parser B) (p : A × Input) (z : Outcome B) → r ≡ Some p → f p.0 p.1 ≡ z → and_then r f ≡ z
bind-is r f p z e h = rw e h

pub yes-at : {A B : Type 0} (b : Bool) (x y : A → B) (a : A) (z : B) → b ≡ true → x a ≡ z → cond b x y a ≡ z
yes-at b x y a z e h = rw e h

pub no-at : {A B : Type 0} (b : Bool) (x y : A → B) (a : A) (z : B) → b ≡ false → y a ≡ z → cond b x y a ≡ z
no-at b x y a z e h = rw e h

-- ---- one part and then another

-- the place between what the first part takes and what the second does
pub record Split (P Q : List Token → Type 0) (i j : Input) : Type 0 where
  pub at : Input
  pub first : Passes P i at
  pub second : Passes Q at j

middle : Input → List Token → Input → List Token → Input
middle i front j back = record { last = end_of i.last front; rest = back ++ j.rest }

pub passes-split : (P Q : List Token → Type 0) (i j : Input) → Passes (Then P Q) i j → Split P Q i j
unfolding middle
passes-split P Q i j r =
    let f = r.fits.front in
    let b = r.fits.back in
    record {
      at = middle i f j b;
      first = record { used = f; fits = r.fits.first; took = record { rest = r.took.rest ∙ ap (λ u. u ++ j.rest) r.fits.joined ∙ append_assoc f b j.rest; last = refl } };
      second = record { used = b; fits = r.fits.second; took = record { rest = refl; last = r.took.last ∙ ap (end_of i.last) r.fits.joined ∙ end_of-append i.last f b } };
    }

-- ---- single tokens

-- the next token is of this kind and text, and j stands behind it
pub record TokenRead (κ : Kind) (x : List ℕ) (i j : Input) : Type 0 where
  pub is : kind i ≡ Some κ
  pub says : text_ahead i ≡ x
  pub goes : next i ≡ j

input : ℕ → List Token → Input
input last rest = record { last = last; rest = rest }

token_list : (κ : Kind) (x : List ℕ) (last : ℕ) (rest : List Token) (j : Input) (t : Token) → rest ≡ t ∷ j.rest → j.last ≡ t.to → t.kind ≡ κ → t.text ≡ x
    → TokenRead κ x (record { last = last; rest = rest }) j
unfolding kind text_ahead next input
token_list κ x last rest j t e l is says = record {
  is = ap kind_of e ∙ ap Some is;
  says = ap text_of e ∙ says;
  goes = ap (next_of last) e ∙ ap (λ l'. input l' j.rest) (sym l);
}

pub says-read : (κ : Kind) (x : List ℕ) (i j : Input) → Passes (IsOneToken κ x) i j → TokenRead κ x i j
says-read κ x i j r =
    let t = r.fits.token in
    token_list κ x i.last i.rest j t (r.took.rest ∙ ap (λ u. u ++ j.rest) r.fits.alone) (r.took.last ∙ ap (end_of i.last) r.fits.alone) r.fits.is r.fits.says

pub one-read : (κ : Kind) (i j : Input) → Passes (One κ) i j → TokenRead κ (text_ahead i) i j
one-read κ i j r =
    let t = r.fits.token in
    let w = token_list κ t.text i.last i.rest j t (r.took.rest ∙ ap (λ u. u ++ j.rest) r.fits.alone) (r.took.last ∙ ap (end_of i.last) r.fits.alone) r.fits.is refl in
    record { is = w.is; says = refl; goes = w.goes }

-- ---- spans and lengths

span : ℕ → ℕ → Span
span a b = record { from = a; to = b }

covered_list : (s : Span) (last : ℕ) (rest more : List Token) (to : ℕ) (used : List Token) → Covers s used → rest ≡ used ++ more → to ≡ end_of last used
    → span (from_of last rest) to ≡ span s.from s.to
covered_list s last rest more to [] c e l = absurd c
covered_list s last rest more to (t ∷ ts) c e l = ap₂ span (ap (from_of last) e ∙ sym c.0) (l ∙ sym c.1)

-- the one span that covers what was taken
pub covered : (s : Span) (i j : Input) (used : List Token) → Covers s used → Took i used j → span_from (from i) j ≡ s
unfolding span_from from span
covered s i j used c t = covered_list s i.last i.rest j.rest j.last used c t.rest t.last

-- the next token is this name, at its place, and j stands behind it
pub record NameRead (x : Name Span) (i j : Input) : Type 0 where
  pub is : kind i ≡ Some k.Identifier
  pub says : name_next i ≡ x
  pub goes : next i ≡ j

name_of : Span → List ℕ → Name Span
name_of place text = record { place = place; text = text }

pub name-read : (x : Name Span) (i j : Input) → Passes (SaysName x) i j → NameRead x i j
unfolding name_next name_of
name-read x i j r =
    let w = says-read k.Identifier x.text i j (part _ _ i j r r.fits.1) in
    let place = ap (span_from (from i)) w.goes ∙ covered x.place i j r.used r.fits.0 r.took in
    record { is = w.is; says = ap₂ name_of place w.says; goes = w.goes }

-- the text of the next name is the next token's
pub name-text : (i : Input) → (name_next i).text ≡ text_ahead i
unfolding name_next
name-text i = refl

yes_list : (κ : Kind) (rest : List Token) → kind_of rest ≡ Some κ → begins_with κ rest ≡ true
unfolding same_kind
yes_list κ [] e = absurd cc
yes_list κ (t ∷ ts) e = true_same the_type t.kind κ (some-injective _ _ e)

pub yes-sees : (κ : Kind) (i : Input) → kind i ≡ Some κ → sees κ i ≡ true
unfolding kind sees
yes-sees κ i e = yes_list κ i.rest e

list_yes : (κ : Kind) (rest : List Token) → begins_with κ rest ≡ true → kind_of rest ≡ Some κ
unfolding same_kind
list_yes κ [] e = absurd cc
list_yes κ (t ∷ ts) e = ap Some (same_true the_type (search rules) t.kind κ e)

pub sees-yes : (κ : Kind) (i : Input) → sees κ i ≡ true → kind i ≡ Some κ
unfolding kind sees
sees-yes κ i e = list_yes κ i.rest e

not_list : (κ : Kind) (rest : List Token) → (kind_of rest ≡ Some κ → ⊥) → begins_with κ rest ≡ false
unfolding same_kind
not_list κ [] f = refl
not_list κ (t ∷ ts) f = false_same the_type (search rules) t.kind κ (λ e. f (ap Some e))

pub not-sees : (κ : Kind) (i : Input) → (kind i ≡ Some κ → ⊥) → sees κ i ≡ false
unfolding kind sees
not-sees κ i f = not_list κ i.rest f

both-by : (a b : Bool) → a ≡ true → b ≡ true → cond a b false ≡ true
both-by a b p q = rw p q

neither-by : (a b : Bool) → (a ≡ true → b ≡ true → ⊥) → cond a b false ≡ false
neither-by false b f = refl
neither-by true false f = refl
neither-by true true f = absurd (f refl refl)

pub yes-two : (κ ι : Kind) (i : Input) → kind i ≡ Some κ → kind (next i) ≡ Some ι → sees_two κ ι i ≡ true
yes-two κ ι i p q = two-by κ ι i ∙ both-by (sees κ i) (sees ι (next i)) (yes-sees κ i p) (yes-sees ι (next i) q)

pub not-two : (κ ι : Kind) (i : Input) → (kind i ≡ Some κ → kind (next i) ≡ Some ι → ⊥) → sees_two κ ι i ≡ false
not-two κ ι i f = two-by κ ι i ∙ neither-by (sees κ i) (sees ι (next i)) (λ a b. f (sees-yes κ i a) (sees-yes ι (next i) b))

pub expect-is : (κ : Kind) (i j : Input) → Passes (One κ) i j → expect κ i ≡ Some (tt, j)
unfolding expect
expect-is κ i j r =
    let w = one-read κ i j r in
    rw (yes-sees κ i w.is) (ap (λ n. Some (tt, n)) w.goes)

pub after-is : (κ : Kind) (i j : Input) → Passes (One κ) i j → after_kind κ i ≡ j
unfolding after_kind
after-is κ i j r =
    let w = one-read κ i j r in
    rw (yes-sees κ i w.is) w.goes

pub after-not : (κ : Kind) (i : Input) → (kind i ≡ Some κ → ⊥) → after_kind κ i ≡ i
unfolding after_kind
after-not κ i f = rw (not-sees κ i f)

-- ---- lengths

took-left : (i j : Input) (used : List Token) → Took i used j → left i ≡ length used + left j
unfolding left
took-left i j used t = ap length t.rest ∙ length-append used j.rest

used-some : (used : List Token) → (used ≡ [] → ⊥) → 0 < length used
used-some [] f = absurd (f refl)
used-some (t ∷ ts) f = omega arith

-- what takes something leaves less
pub falls : (P : List Token → Type 0) (i j : Input) → (P [] → ⊥) → Passes P i j → left j < left i
falls P i j some r =
    let e = took-left i j r.used r.took in
    let n = used-some r.used (λ e. some (subst P e r.fits)) in
    omega arith
