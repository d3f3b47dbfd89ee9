-- Notes that are taken one after another, their paths one behind another.
use Rattle.meson_calls.proofs.Words.{slice_range, ◌≡◌, ℕ, zero, suc, ◌<◌, ◌+◌, ◌-◌, ◌≤◌, List, [], ◌∷◌, ◌++◌, length, take, drop, map, refl, sym, ap, ap₂, ◌∙◌}
use Rattle.meson_calls.proofs.Words.{arith, append-nil, drop-append-le, take-append-le, map-append, ranged_view, what_view, place, placed, Ranged}
use Rattle.std.proofs.lemmas.List.{length-append, length-drop}
use Rattle.meson_syntax.proofs.Slices.{slice_range-part}
use Rattle.meson_calls.specs.Ranges.{IsInside, AreInside}

-- further steps change no range
range_stays : (steps more : List ℕ) (from to : ℕ) → from ≤ to → to ≤ length steps → slice_range (steps ++ more) from to ≡ slice_range steps from to
range_stays steps more from to ordered within =
    let begins : from ≤ length steps = omega (arith, ordered, within) in
    let left = length-drop from steps in
    let fits : to - from ≤ length (drop from steps) = omega (arith, left, ordered, within) in
    ap (take (to - from)) (drop-append-le from steps more begins) ∙ take-append-le (to - from) (drop from steps) more fits

stays : (steps more : List ℕ) (rs : List Ranged) → AreInside (length steps) rs → map (ranged_view (steps ++ more)) rs ≡ map (ranged_view steps) rs
stays steps more [] are = refl
stays steps more (r ∷ rs) are =
    let first : zero < length (r ∷ rs) = omega arith in
    let here : IsInside (length steps) r = are zero r first in
    let others : AreInside (length steps) rs = λ k d within. let below : suc k < length (r ∷ rs) = omega (arith, within) in are (suc k) d below in
    ap₂ (λ path ns. placed (place r.file path) (what_view r.source.now r.what) ∷ ns) (range_stays steps more r.from r.to here.0 here.1) (stays steps more rs others)

-- a note of a path that is put behind the steps
pub taken_more : (steps path after : List ℕ) (rs : List Ranged) (r : Ranged) → after ≡ steps ++ path → r.from ≡ length steps → r.to ≡ length after → AreInside (length steps) rs →
    map (ranged_view after) (rs ++ r ∷ []) ≡ map (ranged_view steps) rs ++ placed (place r.file path) (what_view r.source.now r.what) ∷ []
taken_more steps path after rs r joins begins ends are =
    let size = ap length joins ∙ length-append steps path in
    let to_end : r.to ≡ r.from + length path = omega (arith, size, begins, ends) in
    let whole : after ≡ steps ++ (path ++ []) = joins ∙ ap (λ p. steps ++ p) (sym (append-nil path)) in
    map-append (ranged_view after) rs (r ∷ [])
    ∙ ap₂ (λ ns p. ns ++ placed (place r.file p) (what_view r.source.now r.what) ∷ []) (ap (λ s. map (ranged_view s) rs) joins ∙ stays steps path rs are)
    (slice_range-part after steps path [] r.from r.to whole (sym begins) to_end)
