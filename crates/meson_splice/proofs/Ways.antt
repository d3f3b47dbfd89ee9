-- The splices of a change from the n-th on, either way.
use Rattle.std.proofs.Common.{◌≡◌, ◌∙◌, ℕ, suc, ◌+◌, ◌-◌, ◌<◌, List, ◌∷◌, drop, length, map, reverse, get_or, ap, add-one, arith, drop-cons}
use Rattle.std.proofs.lemmas.List.{get_or-map, get_or-reverse, length-map, length-reverse}
use Rattle.meson_splice.specs.Patch.{inverse_of, inverses_of}
use Rattle.meson_splice.specs.declared.splice.Splice.{Splice}

length-inverses : (splices : List Splice) → length (inverses_of splices) ≡ length splices
length-inverses splices = length-reverse (map inverse_of splices) ∙ length-map splices inverse_of

-- the n-th from the end is the next to be taken back
pub backward-at : (splices : List Splice) (n : ℕ) (d : Splice) → n < length splices
    → drop n (inverses_of splices) ≡ inverse_of (get_or splices (length splices - 1 - n) d) ∷ drop (n + 1) (inverses_of splices)
backward-at splices n d within =
    let inverses = map inverse_of splices in
    let many : length inverses ≡ length splices = length-map splices inverse_of in
    let inside : n < length (reverse inverses) = rw length-inverses within in
    let there : get_or (reverse inverses) n (inverse_of d) ≡ inverse_of (get_or splices (length splices - 1 - n) d) =
    get_or-reverse inverses n (inverse_of d) (omega arith)
    ∙ ap (λ m. get_or inverses (m - 1 - n) (inverse_of d)) many
    ∙ get_or-map inverse_of splices (length splices - 1 - n) d (inverse_of d) (omega arith) in
    rw add-one (drop-cons (reverse inverses) n (inverse_of d) inside ∙ ap (λ s. s ∷ drop (suc n) (reverse inverses)) there)
