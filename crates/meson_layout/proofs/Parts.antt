-- The items before, of and behind a span.
use Rattle.std.proofs.Common.{◌≡◌, ℕ, suc, ◌+◌, ◌-◌, List, [], ◌∷◌, ◌++◌, length, take, drop, refl, ap, ap₂, ◌∙◌, subst, arith}
use Rattle.std.proofs.lemmas.Bool.{cond-false, ne_eqb}
use Rattle.std.proofs.lemmas.List.{length-append, take-append-drop}
use Rattle.std.proofs.Math.Seq.{take-append_seam, drop-append_seam}
use Rattle.std.specs.Prelude.{◌==◌}
use Rattle.meson_lex.specs.declared.kinds.Span.{Span}
use Rattle.meson_lex.specs.Items.{Lexeme, joined}
use Rattle.meson_lex.proofs.Seams.{joined-append}
use Rattle.meson_layout.specs.Layout.{before_len, parts_by, parts_of_items, split_at_span}
use Rattle.meson_layout.proofs.FirstBytes.{some_text}
use Rattle.meson_layout.proofs.Near.{IsGood, AllGood, good-front, good-rest}

some-length : (x : Lexeme) → IsGood x → length x.text ≡ 0 → ⊥
some-length x g e = by-text x.text (some_text x.kind x.text g.0) e
  where
    by-text : (t : List ℕ) → (t ≡ [] → ⊥) → length t ≡ 0 → ⊥
    by-text [] some e = some refl
    by-text (b ∷ bs) some e = absurd (omega arith)

before-none : (xs : List Lexeme) → before_len 0 xs ≡ 0
before-none [] = refl
before-none (x ∷ xs) = refl

pub before-all : (a rest : List Lexeme) → AllGood a → before_len (length (joined a)) (a ++ rest) ≡ length a
before-all [] rest g = before-none rest
before-all (x ∷ a) rest g =
    let size = length-append x.text (joined a) in
    let some : length (x.text ++ joined a) ≡ 0 → ⊥ = λ e. some-length x g.0 (omega arith) in
    let left : length (x.text ++ joined a) - length x.text ≡ length (joined a) = omega arith in
    cond-false (length (x.text ++ joined a) == 0) _ _ (ne_eqb _ 0 some) ∙ ap suc (ap (λ n. before_len n (a ++ rest)) left ∙ before-all a rest g.1)

pub before-is : (items a rest : List Lexeme) (n : ℕ) → items ≡ a ++ rest → n ≡ length (joined a) → AllGood a → before_len n items ≡ length a
before-is items a rest n e size g = ap₂ before_len size e ∙ before-all a rest g

parts-by : (a own right : List Lexeme) (size : ℕ) → size ≡ length (joined own) → AllGood own
    → parts_by (before_len size (drop (length a) (a ++ (own ++ right)))) (take (length a) (a ++ (own ++ right))) (drop (length a) (a ++ (own ++ right))) ≡ record { left = a; own = own; right = right }
parts-by a own right size e g =
    let left = take-append_seam a (own ++ right) in
    let rest = drop-append_seam a (own ++ right) in
    let n = before-is (own ++ right) own right size refl e g in
    ap₂ (λ l r. parts_by (before_len size r) l r) left rest
    ∙ ap (λ m. parts_by m a (own ++ right)) n
    ∙ ap₂ (λ o r. record { left = a; own = o; right = r }) (take-append_seam own right) (drop-append_seam own right)

pub parts-are : (items left own right : List Lexeme) (s : Span) → items ≡ left ++ (own ++ right) → s.from ≡ length (joined left) → s.to ≡ length (joined (left ++ own)) → AllGood items
    → split_at_span s items ≡ record { left = left; own = own; right = right }
unfolding split_at_span
parts-are items left own right s e from to g =
    let good : AllGood (left ++ (own ++ right)) = subst AllGood e g in
    let whole = ap length (joined-append left own) ∙ length-append (joined left) (joined own) in
    let size : s.to - s.from ≡ length (joined own) = omega arith in
    let n = before-is items left (own ++ right) s.from e from (good-front left (own ++ right) good) in
    ap (λ m. parts_of_items m (s.to - s.from) items) n
    ∙ ap (parts_of_items (length left) (s.to - s.from)) e
    ∙ parts-by left own right (s.to - s.from) size (good-front own right (good-rest left (own ++ right) good))

-- the parts are all items
pub parts-join : (s : Span) (items : List Lexeme) → (split_at_span s items).left ++ ((split_at_span s items).own ++ (split_at_span s items).right) ≡ items
unfolding split_at_span
parts-join s items =
    let n = before_len s.from items in
    ap (λ r. take n items ++ r) (take-append-drop (before_len (s.to - s.from) (drop n items)) (drop n items)) ∙ take-append-drop n items

pub parts_size : (s : Span) (items : List Lexeme) → length (split_at_span s items).left + (length (split_at_span s items).own + length (split_at_span s items).right) ≡ length items
parts_size s items =
    let p = split_at_span s items in
    let outer = length-append p.left (p.own ++ p.right) in
    let inner = length-append p.own p.right in
    let whole = ap length (parts-join s items) in
    omega arith
