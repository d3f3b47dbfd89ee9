-- Items cut at the same byte are cut at the same item, and the texts on both sides of a cut are UTF-8.
use Rattle.meson_edit.proofs.Words.{◌≡◌, ℕ, ◌+◌, ◌<◌, List, [], ◌∷◌, ◌++◌, length, refl, sym, ap, ap₂, subst, ◌∙◌, length-append, arith, drop, get_or, IsUtf8}
use Rattle.meson_edit.proofs.Words.{get_or-append_seam, take-append_seam, drop-append-add, append-nil, IsUtf8-nil, IsUtf8-take, IsUtf8-drop}
use Rattle.meson_edit.proofs.Words.{IsCharBoundary-before_ascii, Lexeme, joined, IsItem, AreItems, joined-append, AreItems-split}
use Rattle.meson_edit.proofs.exchange.FirstBytes.{begins-with}

-- ---- the same cut

long : (x : Lexeme) (rest more : List ℕ) → IsItem x rest → length (x.text ++ more) ≡ 0 → ⊥
long x rest more h e =
    let b = begins-with x.kind x.text h.0 in
    let n = length-append x.text more in
    let m = ap length b.is_text in
    omega arith

pub same-items : (xs a ys b : List Lexeme) → xs ++ a ≡ ys ++ b → AreItems (xs ++ a) [] → length (joined xs) ≡ length (joined ys) → (xs ≡ ys) × (a ≡ b)
same-items [] a [] b e h n = (refl, e)
same-items [] a (y ∷ ys) b e h n = let g = subst (λ l. AreItems l []) e h in absurd (long y (joined (ys ++ b) ++ []) (joined ys) g.0 (sym n))
same-items (x ∷ xs) a [] b e h n = absurd (long x (joined (xs ++ a) ++ []) (joined xs) h.0 n)
same-items (x ∷ xs) a (y ∷ ys) b e h n =
    let head : x ≡ y = cc in
    let rest : xs ++ a ≡ ys ++ b = cc in
    let first = ap (λ (z : Lexeme). length z.text) head in
    let p = length-append x.text (joined xs) in
    let q = length-append y.text (joined ys) in
    let shorter : length (joined xs) ≡ length (joined ys) = omega arith in
    let r = same-items xs a ys b rest h.1 shorter in
    (ap₂ (λ u v. u ∷ v) head r.0, r.1)

-- ---- UTF-8

record Halves (front back : List ℕ) : Type 0 where
  pub before : IsUtf8 front
  pub behind : IsUtf8 back

halves : (front : List ℕ) (b : ℕ) (rest : List ℕ) → b < 128 → IsUtf8 (front ++ b ∷ rest) → Halves front (b ∷ rest)
halves front b rest small u =
    let bytes = front ++ b ∷ rest in
    let n = length-append front (b ∷ rest) in
    let seam : get_or bytes (length front) 0 ≡ b = get_or-append_seam front b rest 0 in
    let edge = IsCharBoundary-before_ascii bytes (length front) (omega arith) (omega arith) in
    let after : drop (length front + 0) bytes ≡ b ∷ rest = drop-append-add front (b ∷ rest) 0 in
    let zero_more : length front + 0 ≡ length front = omega arith in
    record {
      before = subst IsUtf8 (take-append_seam front (b ∷ rest)) (IsUtf8-take bytes (length front) u edge);
      behind = subst IsUtf8 (ap (λ k. drop k bytes) (sym zero_more) ∙ after) (IsUtf8-drop bytes (length front) u edge);
    }

pub utf8-cut : (xs ys : List Lexeme) → AreItems (xs ++ ys) [] → IsUtf8 (joined (xs ++ ys)) → IsUtf8 (joined xs) × IsUtf8 (joined ys)
utf8-cut xs [] h u = (subst (λ l. IsUtf8 (joined l)) (append-nil xs) u, IsUtf8-nil)
utf8-cut xs (y ∷ ys) h u =
    let b = begins-with y.kind y.text (AreItems-split xs (y ∷ ys) [] h).1.0.0 in
    let first : joined (y ∷ ys) ≡ b.byte ∷ (b.rest ++ joined ys) = ap (λ t. t ++ joined ys) b.is_text in
    let k = halves (joined xs) b.byte (b.rest ++ joined ys) b.low (subst IsUtf8 (joined-append xs (y ∷ ys) ∙ ap (λ t. joined xs ++ t) first) u) in
    (k.before, subst IsUtf8 (sym first) k.behind)
