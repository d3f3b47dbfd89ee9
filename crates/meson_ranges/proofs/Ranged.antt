-- The ranges of edits, one after another.
use Rattle.std.proofs.Common.{◌≡◌, ℕ, ◌+◌, ◌-◌, ◌*◌, ◌≤◌, List, [], ◌∷◌, ◌++◌, length, map, take, drop, refl, ap, ap₂, sym, ◌∙◌, arith}
use Rattle.std.specs.List.{All}
use Rattle.std.proofs.Math.Seq.{take-add}
use Rattle.std.proofs.lemmas.List.{length-drop, length-take-le, map-append}
use Rattle.std.proofs.lemmas.List.Elements.{All-head, All-tail}
use Rattle.meson_ranges.specs.Edits.{AreApart, IsThere}
use Rattle.meson_ranges.specs.Positions.{position_after, position_after_byte, position_of, start}
use Rattle.meson_ranges.specs.Ranges.{ranged}
use Rattle.meson_ranges.specs.Trimming.{TextEdit}
use Rattle.meson_ranges.specs.declared.positions.Position.{Position}
use Rattle.meson_ranges.specs.declared.ranges.RangedEdit.{RangedEdit}
use Rattle.meson_ranges.proofs.Making.{earlier}

position_after-append : (p : Position) (xs ys : List ℕ) → position_after p (xs ++ ys) ≡ position_after (position_after p xs) ys
position_after-append p [] ys = refl
position_after-append p (x ∷ xs) ys = position_after-append (position_after_byte p x) xs ys

-- the position of an offset, from that of an earlier one
further : (text : List ℕ) (from n : ℕ) → position_after (position_of text from) (take n (drop from text)) ≡ position_of text (from + n)
further text from n =
    sym (position_after-append start (take from text) (take n (drop from text))) ∙ ap (position_after start) (sym (take-add from n text))

-- the edits that are left are after that offset, which has that position
pub record AreLeft (text : List ℕ) (edits : List TextEdit) (from : ℕ) (p : Position) : Type 0 where
  pub within : from ≤ length text
  pub place : p ≡ position_of text from
  pub line : p.line ≤ from
  pub character : p.character ≤ 2 * from
  pub apart : AreApart from edits
  pub there : All (IsThere text) edits

pub first_left : (text : List ℕ) (edits : List TextEdit) → AreApart 0 edits → All (IsThere text) edits → AreLeft text edits 0 start
first_left text edits apart there = record { within = omega arith; place = refl; line = omega arith; character = omega arith; apart = apart; there = there }

pub record NextFits (text : List ℕ) (e : TextEdit) (from : ℕ) : Type 0 where
  pub before : from ≤ e.at
  pub within : e.at + length e.was ≤ length text

pub next_fits : (text : List ℕ) (e : TextEdit) (edits : List TextEdit) (from : ℕ) (p : Position) → AreLeft text (e ∷ edits) from p → NextFits text e from
next_fits text e edits from p left = record { before = left.apart.0; within = (All-head (IsThere text) e edits left.there).within }

-- where an edit begins, and where it ends
pub start_place : (text : List ℕ) (e : TextEdit) (edits : List TextEdit) (from : ℕ) (p begin : Position) → AreLeft text (e ∷ edits) from p
    → begin ≡ position_after p (take (e.at - from) (drop from text)) → begin ≡ position_of text e.at
start_place text e edits from p begin left is =
    let first : from ≤ e.at = left.apart.0 in
    let at : from + (e.at - from) ≡ e.at = omega arith in
    is ∙ ap (λ q. position_after q (take (e.at - from) (drop from text))) left.place ∙ further text from (e.at - from) ∙ ap (position_of text) at

pub end_place : (text : List ℕ) (e : TextEdit) (edits : List TextEdit) (from : ℕ) (p begin end : Position) → AreLeft text (e ∷ edits) from p
    → begin ≡ position_of text e.at → end ≡ position_after begin e.was → end ≡ position_of text (e.at + length e.was)
end_place text e edits from p begin end left begins is =
    let here = All-head (IsThere text) e edits left.there in
    is ∙ ap (λ q. position_after q e.was) begins ∙ ap (position_after (position_of text e.at)) (sym here.same) ∙ further text e.at (length e.was)

pub one_less : (text : List ℕ) (e : TextEdit) (edits : List TextEdit) (from : ℕ) (p end : Position) → AreLeft text (e ∷ edits) from p
    → end ≡ position_of text (e.at + length e.was) → end.line ≤ e.at + length e.was → end.character ≤ 2 * (e.at + length e.was)
    → AreLeft text edits (e.at + length e.was) end
one_less text e edits from p end left ends line character = record {
  within = (All-head (IsThere text) e edits left.there).within;
  place = ends;
  line = line;
  character = character;
  apart = earlier edits (e.at + length e.was) (e.at + length e.was + 1) (omega arith) left.apart.1;
  there = All-tail (IsThere text) e edits left.there;
}

pub slice_size : (text : List ℕ) (from to : ℕ) → from ≤ to → to ≤ length text → length (take (to - from) (drop from text)) ≡ to - from
slice_size text from to order within = length-take-le (to - from) (drop from text) (omega (arith, length-drop from text))

pub one_more_ranged : (text : List ℕ) (e : TextEdit) (before : List TextEdit) (made : List RangedEdit) (begin end : Position)
    → begin ≡ position_of text e.at → end ≡ position_of text (e.at + length e.was) → made ≡ map (ranged text) before
    → made ++ record { edit = e; range = record { start = begin; end = end } } ∷ [] ≡ map (ranged text) (before ++ e ∷ [])
one_more_ranged text e before made begin end begins ends is =
    ap₂ (λ b n. made ++ record { edit = e; range = record { start = b; end = n } } ∷ []) begins ends
    ∙ ap (λ l. l ++ ranged text e ∷ []) is ∙ sym (map-append (ranged text) before (e ∷ []))
