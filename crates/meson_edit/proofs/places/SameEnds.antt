-- Tokens that go from one border to another may be exchanged within others: a span or a block that covers all still does.
use Rattle.meson_edit.proofs.Words.{◌≡◌, ℕ, List, [], ◌∷◌, ◌++◌, sym, ap, subst, ◌∙◌, append_assoc, Token, Span, end_of, Covers, CoversBlock, end_of-append}

-- what covers the one among others covers the other one there
pub record SameEnds (own new : List Token) : Type 0 where
  pub covers : (s : Span) (front back : List Token) → Covers s (front ++ (own ++ back)) → Covers s (front ++ (new ++ back))
  pub block : (last : ℕ) (s : Span) (front back : List Token) → CoversBlock last s (front ++ (own ++ back)) → CoversBlock last s (front ++ (new ++ back))

ends-three : (end : ℕ) (a b c : List Token) → end_of end (a ++ (b ++ c)) ≡ end_of (end_of (end_of end a) b) c
ends-three end a b c = end_of-append end a (b ++ c) ∙ end_of-append (end_of end a) b c

-- both are covered by one span
pub same-ends : (s : Span) (own new : List Token) → Covers s own → Covers s new → SameEnds own new
same-ends s [] new c d = absurd c
same-ends s (t ∷ own) [] c d = absurd d
same-ends s (t ∷ own) (u ∷ new) c d = record { covers = covered; block = λ last s front back. blocked last s front back } where
  from : t.from ≡ u.from
  from = sym c.0 ∙ d.0

  to : end_of t.to own ≡ end_of u.to new
  to = sym c.1 ∙ d.1

  behind : (end : ℕ) (front back : List Token) → end_of end (front ++ ((t ∷ own) ++ back)) ≡ end_of end (front ++ ((u ∷ new) ++ back))
  behind end front back = ends-three end front (t ∷ own) back ∙ ap (λ n. end_of n back) to ∙ sym (ends-three end front (u ∷ new) back)

  covered : (s : Span) (front back : List Token) → Covers s (front ++ ((t ∷ own) ++ back)) → Covers s (front ++ ((u ∷ new) ++ back))
  covered s [] back h = (h.0 ∙ from, h.1 ∙ behind 0 [] back)
  covered s (x ∷ front) back h = (h.0, h.1 ∙ behind x.to front back)

  blocked : (last : ℕ) (s : Span) (front back : List Token) → CoversBlock last s (front ++ ((t ∷ own) ++ back))
      → CoversBlock last s (front ++ ((u ∷ new) ++ back))
  blocked last s [] back h = covered s [] back h
  blocked last s (x ∷ front) back h = covered s (x ∷ front) back h

group : {A : Type 0} (a b c d e : List A) → a ++ ((b ++ (c ++ d)) ++ e) ≡ (a ++ b) ++ (c ++ (d ++ e))
group a b c d e = simp append_assoc

-- and so do all tokens with the one or the other among them
pub ends-around : (ts front own back new : List Token) → ts ≡ front ++ (own ++ back) → SameEnds own new → SameEnds ts (front ++ (new ++ back))
ends-around ts front own back new parts e = record {
  covers = λ s f b c. subst (Covers s) (sym (group f front new back b)) (e.covers s (f ++ front) (back ++ b) (subst (Covers s) (all f b) c));
  block = λ last s f b c.
      subst (CoversBlock last s) (sym (group f front new back b)) (e.block last s (f ++ front) (back ++ b) (subst (CoversBlock last s) (all f b) c));
} where
  all : (f b : List Token) → f ++ (ts ++ b) ≡ (f ++ front) ++ (own ++ (back ++ b))
  all f b = ap (λ x. f ++ (x ++ b)) parts ∙ group f front own back b

-- the span, or the block, of all
pub cover : (own new : List Token) → SameEnds own new → (s : Span) (ts front back : List Token) → ts ≡ front ++ (own ++ back) → Covers s ts
    → Covers s (front ++ (new ++ back))
cover own new e s ts front back parts c = e.covers s front back (subst (Covers s) parts c)
