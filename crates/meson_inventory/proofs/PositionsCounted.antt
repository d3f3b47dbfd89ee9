-- The position of an offset is counted on from that of an earlier one.
use Rattle.std.proofs.Common.{◌≡◌, ℕ, ◌+◌, ◌-◌, ◌*◌, ◌≤◌, List, [], ◌∷◌, ◌++◌, length, take, drop, refl, ap, sym, ◌∙◌, arith}
use Rattle.std.proofs.Math.Seq.{take-add}
use Rattle.std.proofs.lemmas.List.{length-drop, length-take-le}
use Rattle.meson_ranges.specs.Positions.{position_after, position_after_byte, position_of, start}
use Rattle.meson_ranges.specs.declared.positions.Position.{Position}
use Rattle.meson_inventory.specs.inside.Positions.{IsCounted}

position_after-append : (p : Position) (xs ys : List ℕ) → position_after p (xs ++ ys) ≡ position_after (position_after p xs) ys
position_after-append p [] ys = refl
position_after-append p (x ∷ xs) ys = position_after-append (position_after_byte p x) xs ys

further : (bytes : List ℕ) (from n : ℕ) → position_after (position_of bytes from) (take n (drop from bytes)) ≡ position_of bytes (from + n)
further bytes from n =
    sym (position_after-append start (take from bytes) (take n (drop from bytes))) ∙ ap (position_after start) (sym (take-add from n bytes))

-- p is counted at an offset, and q is after the bytes from there to a later one
pub counted_on : (bytes : List ℕ) (from to : ℕ) (p q : Position) → IsCounted bytes from p → from ≤ to → to ≤ length bytes
    → q ≡ position_after p (take (to - from) (drop from bytes)) → q.line ≤ p.line + length (take (to - from) (drop from bytes))
    → q.character ≤ p.character + 2 * length (take (to - from) (drop from bytes)) → IsCounted bytes to q
counted_on bytes from to p q counted later within is line character =
    let size : length (take (to - from) (drop from bytes)) ≡ to - from = length-take-le (to - from) (drop from bytes) (omega (arith, length-drop from bytes)) in
    let at : from + (to - from) ≡ to = omega arith in (
      is ∙ ap (λ r. position_after r (take (to - from) (drop from bytes))) counted.0 ∙ further bytes from (to - from) ∙ ap (position_of bytes) at,
      within,
      omega (arith, line, size, counted.2, later),
      omega (arith, character, size, counted.3, later),
    )
