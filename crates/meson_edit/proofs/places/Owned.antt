-- From the tokens of a node to its items.
use Rattle.meson_edit.proofs.Words.{◌≡◌, ℕ, ◌+◌, true, List, [], ◌∷◌, ◌++◌, length, refl, sym, ap, ap₂, ◌∙◌, subst, append_assoc, length-append, arith, Lexeme}
use Rattle.meson_edit.proofs.Words.{joined, Token, word_of, words, spots, kept, role, State, step, after, emitted, speaks, IsTight, joined-append, words-append}
use Rattle.meson_edit.proofs.Words.{words-spots, cut-pair, after-append, emitted-append, speaks-emit, IsOwn, IsSilent, cut-item}

pub emit-word : (s : State) (x : Lexeme) (t : Token) → speaks (role x.kind) ≡ true → word_of t ≡ (x.kind, kept x.kind x.text) → emitted s (x ∷ []) ≡ words (t ∷ [])
emit-word s x t h e = ap (λ l. l ++ []) (speaks-emit (role x.kind) s (x.kind, kept x.kind x.text) h) ∙ ap (λ w. w ∷ []) (sym e)

-- ---- tokens that begin and end with an item's

pub record Bounded (ts : List Token) : Type 0 where
  pub first : Token
  pub rest : List Token
  pub begins : ts ≡ first ∷ rest
  pub first_own : IsOwn first
  pub front : List Token
  pub last : Token
  pub ends : ts ≡ front ++ last ∷ []
  pub last_own : IsOwn last

-- The items of such tokens.
pub record OwnAt (s : State) (e p : ℕ) (xs : List Lexeme) (before own behind more : List Token) (b : Bounded own) : Type 0 where
  pub left : List Lexeme
  pub mine : List Lexeme
  pub right : List Lexeme
  pub parts : xs ≡ left ++ (mine ++ right)
  pub is_left : spots s e p left ≡ before
  pub is_mine : emitted (after s left) mine ≡ words own
  pub is_right : emitted (after s (left ++ mine)) right ++ words more ≡ words behind
  pub from : b.first.from ≡ p + length (joined left)
  pub to : b.last.to ≡ p + length (joined (left ++ mine))
  pub tight : IsTight mine

pub right-words : (s : State) (at : ℕ) (rest : List Lexeme) (more behind : List Token) → spots s at at rest ++ more ≡ behind → emitted s rest ++ words more ≡ words behind
right-words s at rest more behind h = ap (λ w. w ++ words more) (sym (words-spots rest s at at)) ∙ sym (words-append (spots s at at rest) more) ∙ ap words h

own-one : (s : State) (e p : ℕ) (xs : List Lexeme) (more : List Token) → IsSilent more → (before own behind : List Token) (b : Bounded own) → b.front ≡ []
    → spots s e p xs ++ more ≡ before ++ (own ++ behind) → OwnAt s e p xs before own behind more b
own-one s e p xs more quiet before own behind b none h =
    let t = b.last in
    let alone : own ≡ t ∷ [] = b.ends ∙ ap (λ f. f ++ t ∷ []) none in
    let both : t ∷ [] ≡ b.first ∷ b.rest = sym alone ∙ b.begins in
    let same : b.first ≡ t = cc in
    let i = cut-item s e p xs more quiet before t behind b.last_own (h ∙ ap (λ o. before ++ (o ++ behind)) alone) in
    let one = i.here ∷ [] in
    let n0 = ap length (joined-append i.front one) ∙ length-append (joined i.front) (joined one) in
    let n1 = length-append i.here.text [] in
    let zero-is : length {A = ℕ} [] ≡ 0 = refl in
    let first-from : b.first.from ≡ t.from = ap (λ (x : Token). x.from) same in
    let i-from = i.from in
    let i-to = i.to in
    record {
      left = i.front;
      mine = one;
      right = i.rest;
      parts = i.parts;
      is_left = i.is_front;
      is_mine = emit-word (after s i.front) i.here t i.here_speaks i.word ∙ ap words (sym alone);
      is_right = subst (λ q. emitted q i.rest ++ words more ≡ words behind) (sym (after-append s i.front one)) (right-words (step (after s i.front) i.here) t.to i.rest more behind i.is_rest);
      from = omega arith;
      to = omega arith;
      tight = record { first = i.here; more = []; begins = refl; first_speaks = i.here_speaks; front = []; last = i.here; ends = refl; last_speaks = i.here_speaks };
    }

own-more : (s : State) (e p : ℕ) (xs : List Lexeme) (more : List Token) → IsSilent more → (before own behind : List Token) (b : Bounded own) (t : Token) (between : List Token) → b.front ≡ t ∷ between
    → spots s e p xs ++ more ≡ before ++ (own ++ behind) → OwnAt s e p xs before own behind more b
own-more s e p xs more quiet before own behind b t between some h =
    let u = b.last in
    let all : own ≡ t ∷ (between ++ u ∷ []) = b.ends ∙ ap (λ f. f ++ u ∷ []) some in
    let both : t ∷ (between ++ u ∷ []) ≡ b.first ∷ b.rest = sym all ∙ b.begins in
    let same : b.first ≡ t = cc in
    let apart : own ++ behind ≡ t ∷ (between ++ u ∷ behind) = ap (λ o. o ++ behind) all ∙ ap (λ l. t ∷ l) (append_assoc between (u ∷ []) behind) in
    let i = cut-pair s e p xs more quiet before t between u behind (subst IsOwn same b.first_own) b.last_own (h ∙ ap (λ o. before ++ o) apart) in
    let mine = i.first ∷ (i.inner ++ i.last ∷ []) in
    let inside = step (after s i.left) i.first in
    let first-from : b.first.from ≡ t.from = ap (λ (x : Token). x.from) same in
    let i-from = i.from in
    record {
      left = i.left;
      mine = mine;
      right = i.right;
      parts = i.parts ∙ ap (λ l. i.left ++ i.first ∷ l) (sym (append_assoc i.inner (i.last ∷ []) i.right));
      is_left = i.is_left;
      is_mine = emitted-append (after s i.left) (i.first ∷ []) (i.inner ++ i.last ∷ [])
          ∙ ap₂ (λ v w. v ++ w) (emit-word (after s i.left) i.first t i.first_speaks i.first_word)
          (emitted-append inside i.inner (i.last ∷ [])
          ∙ ap₂ (λ v w. v ++ w) (sym (words-spots i.inner inside t.to t.to) ∙ ap words i.is_inner) (emit-word (after inside i.inner) i.last u i.last_speaks i.last_word)
          ∙ sym (words-append between (u ∷ [])))
          ∙ ap words (sym all);
      is_right = right-words (after s (i.left ++ mine)) u.to i.right more behind i.is_right;
      from = omega arith;
      to = i.to;
      tight = record { first = i.first; more = i.inner ++ i.last ∷ []; begins = refl; first_speaks = i.first_speaks; front = i.first ∷ i.inner; last = i.last; ends = refl; last_speaks = i.last_speaks };
    }

own-by : (s : State) (e p : ℕ) (xs : List Lexeme) (more : List Token) → IsSilent more → (before own behind : List Token) (b : Bounded own) (front : List Token) → b.front ≡ front
    → spots s e p xs ++ more ≡ before ++ (own ++ behind) → OwnAt s e p xs before own behind more b
own-by s e p xs more quiet before own behind b [] is h = own-one s e p xs more quiet before own behind b is h
own-by s e p xs more quiet before own behind b (t ∷ between) is h = own-more s e p xs more quiet before own behind b t between is h

pub cut-own : (s : State) (e p : ℕ) (xs : List Lexeme) (more : List Token) → IsSilent more → (before own behind : List Token) (b : Bounded own)
    → spots s e p xs ++ more ≡ before ++ (own ++ behind) → OwnAt s e p xs before own behind more b
cut-own s e p xs more quiet before own behind b h = own-by s e p xs more quiet before own behind b b.front refl h
