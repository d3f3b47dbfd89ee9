-- The tokens of a text in which one list is exchanged for another.
use Rattle.meson_edit.proofs.Words.{if◌then◌else◌, ◌≡◌, ℕ, ◌+◌, ◌-◌, ◌<◌, ◌≤◌, Bool, List, [], ◌∷◌, ◌++◌, length, Some, refl, sym, ap, ap₂, subst, ◌∙◌}
use Rattle.meson_edit.proofs.Words.{append_assoc, length-append, arith, le-leb, lt-leb, map-append, Lexeme, joined, AreItems, Token, words, token_at, spot_by}
use Rattle.meson_edit.proofs.Words.{end_by, spots, end_after, closing_at, located, Role, Opens, Closes, role, State, start, step_by, after, emitted, closing}
use Rattle.meson_edit.proofs.Words.{spoken, Kind, Span, AreItems-split, words-append, words-spots, moved, opens, closes, list_span, Nowhere, Bracket, IsBracket}
use Rattle.meson_edit.proofs.Words.{open-bracket, close-bracket, last-end, listed, behind, bracket-text, list-after, nest, inner-flat, joined-lengths}
use Rattle.meson_edit.proofs.Words.{after-append, list_tokens, TokensExchanged, TokensMove, token_by, tokens_by}
use Rattle.meson_edit.proofs.places.Standing.{closing-words}
use Rattle.meson_edit.proofs.exchange.Lists.{own-first}
use Rattle.meson_edit.proofs.kept.Spots.{spots-append, end_after-append, Carries, spots-moved, end_after-moved, closing-moved, inside-spots}

-- ---- borders before and behind what is exchanged

pub moved-still : (end was now n : ℕ) → n < end → moved end was now n ≡ n
moved-still end was now n h = ap (λ (b : Bool). if b then (n - was) + now else n) (lt-leb end n h)

pub moved-on : (end was now n : ℕ) → end ≤ n → moved end was now n ≡ (n - was) + now
moved-on end was now n h = ap (λ (b : Bool). if b then (n - was) + now else n) (le-leb end n h)

still-carries : (end was now q : ℕ) → q < end → Carries (moved end was now) 0 q
still-carries end was now q h n k a b =
    let one = moved-still end was now (n + k) (omega arith) in
    let two = moved-still end was now n (omega arith) in
    omega arith

on-carries : (end was now q : ℕ) → was ≤ end → Carries (moved end was now) end q
on-carries end was now q h n k a b =
    let one = moved-on end was now (n + k) (omega arith) in
    let two = moved-on end was now n (omega arith) in
    omega arith

pub still-spots : (end was now : ℕ) (s : State) (p : ℕ) (left : List Lexeme) → p + length (joined left) < end
    → tokens_by (moved end was now) (spots s p p left) ≡ spots s p p left
still-spots end was now s p left h =
    let still = moved-still end was now p (omega arith) in
    let q = p + length (joined left) in
    sym (spots-moved (moved end was now) s p p q left (λ n k a b. still-carries end was now q h n k (omega arith) b) (omega arith))
    ∙ ap₂ (λ a b. spots s a b left) still still

-- ---- the tokens of a list

module _ (o c : Lexeme) (inner : List Lexeme) (is-o : role o.kind ≡ Opens) (is-c : role c.kind ≡ Closes) (flat : nest 0 (spoken inner) ≡ Some 0) where
  first-spots : (s : State) (e p : ℕ) (rest : List Lexeme)
      → spots s e p (o ∷ rest) ≡ token_at o p ∷ spots (step_by Opens s) (p + length o.text) (p + length o.text) rest
  first-spots s e p rest = ap (λ (r : Role). spot_by r s o e p ++ spots (step_by r s) (end_by r o e p) (p + length o.text) rest) is-o

  pub last-spots : (s : State) (e p : ℕ) → spots s e p (c ∷ []) ≡ token_at c p ∷ []
  last-spots s e p = ap (λ (r : Role). spot_by r s c e p ++ spots (step_by r s) (end_by r c e p) (p + length c.text) []) is-c

  -- between its brackets as between those of any other text
  own-spots : (s : State) (e p : ℕ) → spots s e p (listed o inner c []) ≡ spots start p p (listed o inner c [])
  own-spots s e p =
      let q = p + length o.text in
      let here = end_after q q inner in
      let end = q + length (joined inner) in
      let one = step_by Opens s in
      let two = step_by Opens start in
      first-spots s e p (inner ++ c ∷ [])
      ∙ ap (λ ts. token_at o p ∷ ts)
      (spots-append one q q inner (c ∷ [])
      ∙ ap₂ (λ a b. a ++ b) (inside-spots inner s.depth 0 q q one two refl refl flat)
      (last-spots (after one inner) here end ∙ sym (last-spots (after two inner) here end))
      ∙ sym (spots-append two q q inner (c ∷ [])))
      ∙ sym (first-spots start p p (inner ++ c ∷ []))

  pub own-moved : (s : State) (e p : ℕ) → spots s e p (listed o inner c []) ≡ list_tokens p o inner c
  own-moved s e p =
      own-spots s e p
      ∙ ap (λ n. spots start n n (listed o inner c [])) (omega arith)
      ∙ spots-moved (λ n. n + p) start 0 0 (length (joined (listed o inner c []))) (listed o inner c []) (λ n k a b. omega arith) (omega arith)

  own-end : (e p : ℕ) → end_after e p (listed o inner c []) ≡ p + length (joined (listed o inner c []))
  own-end e p = last-end e p (o ∷ inner) c is-c

-- the tokens of items behind a token that ends where they begin, with the end of the file
abbrev rest_tokens : State → ℕ → List Lexeme → List Token
rest_tokens s n right = spots s n n right ++ closing_at (after s right).fresh (end_after n n right)

rest-moved : (g : ℕ → ℕ) (s : State) (n q : ℕ) (right : List Lexeme) → Carries g n q → n + length (joined right) ≤ q
    → rest_tokens s (g n) right ≡ tokens_by g (rest_tokens s n right)
rest-moved g s n q right carries inside =
    ap₂ (λ a b. a ++ b) (spots-moved g s n n q right carries inside)
    (ap (closing_at (after s right).fresh) (end_after-moved g n n q right carries inside) ∙ closing-moved g (after s right).fresh (end_after n n right))
    ∙ sym (map-append (token_by g) (spots s n n right) (closing_at (after s right).fresh (end_after n n right)))

rest-words : (s : State) (n : ℕ) (right : List Lexeme) → words (rest_tokens s n right) ≡ emitted s right ++ closing (after s right).fresh
rest-words s n right =
    words-append (spots s n n right) (closing_at (after s right).fresh (end_after n n right))
    ∙ ap₂ (λ a b. a ++ b) (words-spots right s n n) (closing-words (after s right).fresh (end_after n n right))

-- ---- a list among the items of a text

four : {A : Type 0} (a b r z : List A) → (a ++ (b ++ r)) ++ z ≡ a ++ (b ++ (r ++ z))
four a b r z = simp append_assoc

module _ (κ ι : Kind) (begins : IsBracket κ Opens) (ends : IsBracket ι Closes) (left right : List Lexeme) (o c : Lexeme) (inner : List Lexeme)
    (is-o : o.kind ≡ κ) (is-c : c.kind ≡ ι) (flat : nest 0 (spoken inner) ≡ Some 0) where
  opens-here : role o.kind ≡ Opens
  opens-here = ap role is-o ∙ begins.is_role

  closes-here : role c.kind ≡ Closes
  closes-here = ap role is-c ∙ ends.is_role

  list-spots : (s : State) (e p end : ℕ) → end ≡ p + length (joined (listed o inner c []))
      → spots s e p (listed o inner c right) ≡ list_tokens p o inner c ++ spots (behind s) end end right
  list-spots s e p end is =
      let own = listed o inner c [] in
      let last : end_after e p own ≡ end = own-end o c inner opens-here closes-here flat e p ∙ sym is in
      ap (spots s e p) (own-first o inner c right)
      ∙ spots-append s e p own right
      ∙ ap₂ (λ a b. a ++ b) (own-moved o c inner opens-here closes-here flat s e p)
      (ap₂ (λ (z : State) (a : ℕ). spots z a (p + length (joined own)) right) (list-after κ ι begins ends inner o c is-o is-c flat s []) last
      ∙ ap (λ n. spots (behind s) end n right) (sym is))

  list-end : (e p end : ℕ) → end ≡ p + length (joined (listed o inner c [])) → end_after e p (listed o inner c right) ≡ end_after end end right
  list-end e p end is =
      let own = listed o inner c [] in
      ap (end_after e p) (own-first o inner c right)
      ∙ end_after-append e p own right
      ∙ ap₂ (λ a b. end_after a b right) (own-end o c inner opens-here closes-here flat e p ∙ sym is) (sym is)

  -- the state behind the list, and at the end
  behind-state : (rest : List Lexeme) → after start (left ++ listed o inner c rest) ≡ after (behind (after start left)) rest
  behind-state rest = after-append start left (listed o inner c rest) ∙ list-after κ ι begins ends inner o c is-o is-c flat (after start left) rest

  pub list-behind : (n : ℕ)
      → words (rest_tokens (behind (after start left)) n right)
      ≡ emitted (after start (left ++ listed o inner c [])) right ++ closing (after start (left ++ listed o inner c right)).fresh
  list-behind n =
      rest-words (behind (after start left)) n right ∙ sym (ap₂ (λ (a z : State). emitted a right ++ closing z.fresh) (behind-state []) (behind-state right))

  pub list-located : (from end : ℕ) → from ≡ length (joined left) → end ≡ from + length (joined (listed o inner c []))
      → located (left ++ listed o inner c right) ≡ spots start 0 0 left ++ (list_tokens from o inner c ++ rest_tokens (behind (after start left)) end right)
  list-located from end is-from is-end =
      let s = after start left in
      let e = end_after 0 0 left in
      let all = listed o inner c right in
      let here : 0 + length (joined left) ≡ from = omega arith in
      let told = spots-append start 0 0 left all ∙ ap (λ n. spots start 0 0 left ++ spots s e n all) here
      ∙ ap (λ ts. spots start 0 0 left ++ ts) (list-spots s e from end is-end) in
      let last = end_after-append 0 0 left all ∙ ap (λ n. end_after e n all) here ∙ list-end e from end is-end in
      ap₂ (λ a b. a ++ b) told (ap₂ (λ (z : State) (n : ℕ). closing_at z.fresh n) (behind-state right) last)
      ∙ four (spots start 0 0 left) (list_tokens from o inner c) (spots (behind s) end end right)
      (closing_at (after (behind s) right).fresh (end_after end end right))

-- ---- one list for another

module _ (b : Bracket) (left right : List Lexeme) (o c : Lexeme) (inner : List Lexeme) (is-o : o.kind ≡ opens b) (is-c : c.kind ≡ closes b)
    (flat : nest 0 (spoken inner) ≡ Some 0) (q d : Lexeme) (other : List Lexeme) (is-q : q.kind ≡ opens b) (is-d : d.kind ≡ closes b)
    (other-flat : nest 0 (spoken other) ≡ Some 0) where
  pub exchanged : (from end was now : ℕ) → from ≡ length (joined left) → was ≡ length (joined (listed o inner c []))
      → now ≡ length (joined (listed q other d [])) → end ≡ from + was → 1 ≤ was
      → TokensExchanged left right o c inner q d other from (moved end was now)
  exchanged from end was now is-from is-was is-now is-end some =
      let g = moved end was now in
      let s = behind (after start left) in
      let n = moved-on end was now end (omega arith) in
      let here : g end ≡ from + length (joined (listed q other d [])) = omega arith in
      let there : end ≡ from + length (joined (listed o inner c [])) = omega arith in
      record {
        behind = rest_tokens s end right;
        old = list-located (opens b) (closes b) (open-bracket b) (close-bracket b) left right o c inner is-o is-c flat from end is-from there;
        new = list-located (opens b) (closes b) (open-bracket b) (close-bracket b) left right q d other is-q is-d other-flat from (g end) is-from here
            ∙ ap (λ ts. spots start 0 0 left ++ (list_tokens from q other d ++ ts))
            (rest-moved g s end (end + length (joined right)) right (on-carries end was now (end + length (joined right)) (omega arith)) (omega arith));
        is_behind = list-behind (opens b) (closes b) (open-bracket b) (close-bracket b) left right o c inner is-o is-c flat end;
        stay = still-spots end was now start 0 left (omega arith);
      }

-- an opening bracket is one byte long
pub open-long : (b : Bracket) (left right inner : List Lexeme) (o c : Lexeme) → o.kind ≡ opens b → AreItems (left ++ listed o inner c right) []
    → 1 ≤ length (joined (listed o inner c []))
open-long b left right inner o c is h =
    let first = open-bracket b in
    let here = (AreItems-split left (listed o inner c right) [] h).1.0 in
    let text = bracket-text (opens b) Opens first o is (joined (inner ++ c ∷ right) ++ []) here in
    let n = ap length text in
    let m = length-append o.text (joined (inner ++ c ∷ [])) in
    let one : length (first.byte ∷ []) ≡ 1 = refl in
    omega arith

-- and so is a closing one
pub close-long : (b : Bracket) (left right inner : List Lexeme) (o c : Lexeme) → c.kind ≡ closes b → AreItems (left ++ listed o inner c right) []
    → 1 ≤ length c.text
close-long b left right inner o c is h =
    let last = close-bracket b in
    let within = (AreItems-split left (listed o inner c right) [] h).1.1 in
    let here = (AreItems-split inner (c ∷ right) [] within).1.0 in
    let n = ap length (bracket-text (closes b) Closes last c is (joined right ++ []) here) in
    let one : length (last.byte ∷ []) ≡ 1 = refl in
    omega arith

pub tokens-move : TokensMove
tokens-move bytes items are p s l text t was to =
    let n = joined-lengths s.left (listed s.open_item s.inner s.close_item []) in
    let a = s.from in
    let b = s.to in
    let is-was : was ≡ length (joined (listed s.open_item s.inner s.close_item [])) = omega arith in
    let long = open-long p.bracket s.left s.right s.inner s.open_item s.close_item s.is_open (subst (λ xs. AreItems xs []) s.parts are.each) in
    exchanged p.bracket s.left s.right s.open_item s.close_item s.inner s.is_open s.is_close (ap (nest 0) s.is_inner ∙ inner-flat Span p.list)
    t.open_item t.close_item t.inner t.is_open t.is_close (ap (nest 0) t.is_inner ∙ inner-flat Nowhere l)
    (list_span p.list).from (list_span p.list).to was (length text) a is-was (sym (ap length t.are_items.joins)) (sym to) (omega arith)
