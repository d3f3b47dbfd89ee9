-- What a writer got that nothing was written to, and one that lines were written to one after another.
use Rattle.std.proofs.Common.{◌≡◌, ◌<◌, ◌+◌, ℕ, zero, suc, List, [], ◌∷◌, ◌++◌, length, take, Option, Some, None, sym, refl, ap, subst, ◌∙◌, arith, append_assoc, add-one, get_or}
use Rattle.std.proofs.lemmas.List.{append-nil}
use Rattle.std.specs.Io.KnownBytes.{Appends}
use Rattle.std.specs.Prelude.{codes}
use Rattle.meson_store.specs.Output.{Heard, Gets}
use Rattle.meson_rewrite.specs.Lines.{left_lines, line}

appends_nothing : (c : Option (List ℕ)) → Appends c c []
appends_nothing None = tt
appends_nothing (Some xs) = sym (append-nil xs)

pub gets_nothing : (a : Heard) → Gets a a []
gets_nothing a = (appends_nothing a.contents, refl)

-- ---- one after another

appends_then : (u v w : Option (List ℕ)) (xs ys : List ℕ) → Appends u v xs → Appends v w ys → Appends u w (xs ++ ys)
appends_then None v w xs ys h k = tt
appends_then (Some u) None w xs ys h k = absurd h
appends_then (Some u) (Some v) None xs ys h k = absurd k
appends_then (Some u) (Some v) (Some w) xs ys h k = k ∙ ap (λ b. b ++ ys) h ∙ append_assoc u xs ys

-- one more file was told of
left_more : (names : List (List ℕ)) (i : ℕ) (name : List ℕ) → name ≡ get_or names i name → i < length names
    → left_lines (take (suc i) names) ≡ left_lines (take i names) ++ line (codes "left new: " ++ name)
left_more [] i name is h = absurd (omega arith)
left_more (n ∷ names) zero name is h = ap (λ m. line (codes "left new: " ++ m) ++ []) (sym is) ∙ append-nil (line (codes "left new: " ++ name))
left_more (n ∷ names) (suc i) name is h =
    let below : i < length names = omega arith in
    ap (λ ls. line (codes "left new: " ++ n) ++ ls) (left_more names i name is below) ∙ sym (append_assoc (line (codes "left new: " ++ n)) (left_lines (take i names)) (line (codes "left new: " ++ name)))

pub gets_left : (a b c : Heard) (names : List (List ℕ)) (i : ℕ) (name : List ℕ) → name ≡ get_or names i name → i < length names
    → Gets a b (left_lines (take i names)) → Gets b c (line (codes "left new: " ++ name)) → Gets a c (left_lines (take (i + 1) names))
gets_left a b c names i name is h so_far next =
    subst (Gets a c) (sym (ap (λ n. left_lines (take n names)) (add-one i) ∙ left_more names i name is h))
    (appends_then a.contents b.contents c.contents (left_lines (take i names)) (line (codes "left new: " ++ name)) so_far.0 next.0, next.1 ∙ so_far.1)
