-- Two items that stand as two tokens say, and all between them.
use Rattle.std.proofs.Common.{◌≡◌, List, ◌++◌, ap₂, ◌∙◌, ℕ, ◌+◌, true, [], ◌∷◌, length, refl, sym, ap, subst, length-append, arith, Bool, false}
use Rattle.meson_lex.specs.Significant.{Word, kept, role, State, step, after}
use Rattle.meson_lex.specs.Located.{Token, words, word_of, spots, line_end_at, closing_at}
use Rattle.meson_lex.proofs.TokenWords.{words-append}
use Rattle.meson_lex.specs.Items.{Lexeme, joined}
use Rattle.meson_lex.proofs.Seams.{joined-append}
use Rattle.meson_lex.specs.Words.{speaks}
use Rattle.meson_syntax.proofs.places.Spots.{after-append, IsOwn, IsSilent, cut-item}

pub join-words : (f g : List Token) (a b : List Word) → words f ≡ a → words g ≡ b → words (f ++ g) ≡ a ++ b
join-words f g a b p q = words-append f g ∙ ap₂ (λ x y. x ++ y) p q

-- The items of two tokens and of those between them.
pub record PairAt (s : State) (e p : ℕ) (xs : List Lexeme) (before : List Token) (t : Token) (between : List Token) (u : Token) (behind more : List Token) : Type 0 where
  pub left : List Lexeme
  pub first : Lexeme
  pub inner : List Lexeme
  pub last : Lexeme
  pub right : List Lexeme
  pub parts : xs ≡ left ++ first ∷ (inner ++ last ∷ right)
  pub is_left : spots s e p left ≡ before
  pub is_first : t.kind ≡ first.kind
  pub first_word : word_of t ≡ (first.kind, kept first.kind first.text)
  pub first_speaks : speaks (role first.kind) ≡ true
  pub is_inner : spots (step (after s left) first) t.to t.to inner ≡ between
  pub is_last : u.kind ≡ last.kind
  pub last_word : word_of u ≡ (last.kind, kept last.kind last.text)
  pub last_speaks : speaks (role last.kind) ≡ true
  pub from : t.from ≡ p + length (joined left)
  pub within : t.to ≡ p + length (joined (left ++ first ∷ []))
  pub to : u.to ≡ p + length (joined (left ++ first ∷ (inner ++ last ∷ [])))
  pub is_right : spots (after s (left ++ first ∷ (inner ++ last ∷ []))) u.to u.to right ++ more ≡ behind

pub cut-pair : (s : State) (e p : ℕ) (xs : List Lexeme) (more : List Token) → IsSilent more
    → (before : List Token) (t : Token) (between : List Token) (u : Token) (behind : List Token) → IsOwn t → IsOwn u → spots s e p xs ++ more ≡ before ++ t ∷ (between ++ u ∷ behind)
    → PairAt s e p xs before t between u behind more
cut-pair s e p xs more quiet before t between u behind own other h =
    let i = cut-item s e p xs more quiet before t (between ++ u ∷ behind) own h in
    let inside = step (after s i.front) i.here in
    let j = cut-item inside t.to t.to i.rest more quiet between u behind other i.is_rest in
    let one = i.here ∷ [] in
    let all = i.here ∷ (j.front ++ j.here ∷ []) in
    let n0 = ap length (joined-append i.front one) ∙ length-append (joined i.front) (joined one) in
    let n1 = length-append i.here.text [] in
    let n2 = ap length (joined-append i.front all) ∙ length-append (joined i.front) (joined all) in
    let n3 = length-append i.here.text (joined (j.front ++ j.here ∷ [])) in
    let n4 = ap length (joined-append j.front (j.here ∷ [])) ∙ length-append (joined j.front) (joined (j.here ∷ [])) in
    let n5 = length-append j.here.text [] in
    let zero-is : length {A = ℕ} [] ≡ 0 = refl in
    let i-from = i.from in
    let i-to = i.to in
    let j-from = j.from in
    let j-to = j.to in
    let state : after s (i.front ++ all) ≡ step (after inside j.front) j.here = after-append s i.front all ∙ after-append inside j.front (j.here ∷ []) in
    record {
      left = i.front;
      first = i.here;
      inner = j.front;
      last = j.here;
      right = j.rest;
      parts = i.parts ∙ ap (λ l. i.front ++ i.here ∷ l) j.parts;
      is_left = i.is_front;
      is_first = i.is;
      first_word = i.word;
      first_speaks = i.here_speaks;
      is_inner = j.is_front;
      is_last = j.is;
      last_word = j.word;
      last_speaks = j.here_speaks;
      from = i.from;
      within = omega arith;
      to = omega arith;
      is_right = subst (λ q. spots q u.to u.to j.rest ++ more ≡ behind) (sym state) j.is_rest;
    }

-- ---- the end of a file

pub silent-nothing : IsSilent []
silent-nothing [] t behind own h = absurd cc
silent-nothing (a ∷ before) t behind own h = absurd cc

pub silent-closing : (fresh : Bool) (end : ℕ) → IsSilent (closing_at fresh end)
silent-closing true end = silent-nothing
silent-closing false end = silent-line where
  silent-line : IsSilent (line_end_at end ∷ [])
  silent-line [] t behind own h = let same : line_end_at end ≡ t = cc in own (sym (ap (λ (u : Token). u.kind) same))
  silent-line (a ∷ before) t behind own h = silent-nothing before t behind own cc

pub joined-lengths : (xs ys : List Lexeme) → length (joined (xs ++ ys)) ≡ length (joined xs) + length (joined ys)
joined-lengths xs ys = ap length (joined-append xs ys) ∙ length-append (joined xs) (joined ys)
