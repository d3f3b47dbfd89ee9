-- The position after a text says how many lines it has, and how many units are after the last line end.
use Rattle.std.proofs.Common.{◌≡◌, ℕ, ◌+◌, Bool, true, false, cond, ◌||◌, List, [], ◌∷◌, ◌++◌, filter, length, take, refl, ap, ap₂, subst, sym, inl, inr, ◌∙◌, arith}
use Rattle.std.specs.Prelude.{◌==◌, count_by}
use Rattle.std.specs.List.{list_any}
use Rattle.std.proofs.lemmas.Bool.{eqb-true}
use Rattle.std.proofs.lemmas.List.{append_assoc, append-nil, length-append}
use Rattle.std.proofs.lemmas.List.Elements.{filter-append}
use Rattle.std.proofs.lemmas.List.Folds.{list_any-append}
use Rattle.std.proofs.lemmas.List.Sums.{length-filter}
use Rattle.meson_ranges.specs.PositionLaws.{IsPositionAfter, RangesAreOffsets}
use Rattle.meson_ranges.specs.Positions.{position_after, position_after_byte, start, units, units_of}
use Rattle.meson_ranges.specs.declared.positions.Position.{Position}

-- whether a byte is a line feed
abbrev feed : ℕ → Bool
feed b = b == 10

units-append : (xs ys : List ℕ) → units (xs ++ ys) ≡ units xs + units ys
units-append [] ys = omega arith
units-append (x ∷ xs) ys = let rest = units-append xs ys in omega (arith, rest)

count-append : (xs ys : List ℕ) → count_by feed (xs ++ ys) ≡ count_by feed xs + count_by feed ys
count-append xs ys =
    sym (length-filter feed (xs ++ ys)) ∙ ap length (filter-append feed xs ys) ∙ length-append (filter feed xs) (filter feed ys)
    ∙ ap₂ (λ n m. n + m) (length-filter feed xs) (length-filter feed ys)

none_left : (xs : List ℕ) → list_any feed xs ≡ false → filter feed xs ≡ []
none_left [] none = refl
none_left (x ∷ xs) none =
    (elim (feed x) as (λ t. t || list_any feed xs ≡ false → cond t (x ∷ filter feed xs) (filter feed xs) ≡ []) [
      | true ↦ λ found. absurd (let no : ⊥ = cc in no)
      | false ↦ λ rest. none_left xs rest
    ]) none

count_none : (xs : List ℕ) → list_any feed xs ≡ false → count_by feed xs ≡ 0
count_none xs none = sym (length-filter feed xs) ∙ ap length (none_left xs none)

-- the lines, the beginning of one more line, and its line feed
count_whole : (bytes lines tail : List ℕ) (b : ℕ) → bytes ≡ lines ++ tail → list_any feed tail ≡ false → (b == 10) ≡ true
    → count_by feed lines + 1 ≡ count_by feed (bytes ++ b ∷ [])
count_whole bytes lines tail b parts none ends =
    let one : count_by feed (b ∷ []) ≡ 1 = ap (λ t. 0 + cond t 1 0) ends in
    let all = count-append bytes (b ∷ []) in
    let these : count_by feed bytes ≡ count_by feed lines + count_by feed tail = ap (count_by feed) parts ∙ count-append lines tail in
    let rest = count_none tail none in
    omega (arith, one, all, these, rest)

still_none : (tail : List ℕ) (b : ℕ) → list_any feed tail ≡ false → (b == 10) ≡ false → list_any feed (tail ++ b ∷ []) ≡ false
still_none tail b none other =
    list_any-append feed tail (b ∷ []) ∙ ap (λ t. t || list_any feed (b ∷ [])) none ∙ ap (λ t. t || false) other

units_more : (tail : List ℕ) (b n : ℕ) → n ≡ units tail → n + units_of b ≡ units (tail ++ b ∷ [])
units_more tail b n is =
    let last : units_of b + 0 ≡ units_of b = omega arith in
    ap (λ k. k + units_of b) is ∙ ap (λ k. units tail + k) (sym last) ∙ sym (units-append tail (b ∷ []))

-- one more byte
byte_more : (bytes : List ℕ) (p : Position) (b : ℕ) → IsPositionAfter bytes p → IsPositionAfter (bytes ++ b ∷ []) (position_after_byte p b)
byte_more bytes p b is =
    (elim (b == 10) as (λ t. (b == 10) ≡ t → IsPositionAfter (bytes ++ b ∷ [])
    (cond t (let n : Position = record { line = p.line + 1; character = 0 } in n) (record { line = p.line; character = p.character + units_of b }))) [
      | true ↦ λ ends. record {
        lines = bytes ++ b ∷ [];
        tail = [];
        parts = sym (append-nil (bytes ++ b ∷ []));
        begins_line = inr (bytes, ap (λ x. bytes ++ x ∷ []) (eqb-true b 10 ends));
        one_line = refl;
        line = ap (λ n. n + 1) is.line ∙ count_whole bytes is.lines is.tail b is.parts is.one_line ends;
        character = refl;
      }
      | false ↦ λ other. record {
        lines = is.lines;
        tail = is.tail ++ b ∷ [];
        parts = ap (λ bs. bs ++ b ∷ []) is.parts ∙ append_assoc is.lines is.tail (b ∷ []);
        begins_line = is.begins_line;
        one_line = still_none is.tail b is.one_line other;
        line = is.line;
        character = units_more is.tail b p.character is.character;
      }
    ]) refl

after : (text bytes : List ℕ) (p : Position) → IsPositionAfter bytes p → IsPositionAfter (bytes ++ text) (position_after p text)
after [] bytes p is = subst (λ bs. IsPositionAfter bs p) (sym (append-nil bytes)) is
after (b ∷ text) bytes p is =
    subst (λ bs. IsPositionAfter bs (position_after (position_after_byte p b) text)) (append_assoc bytes (b ∷ []) text)
    (after text (bytes ++ b ∷ []) (position_after_byte p b) (byte_more bytes p b is))

nothing : IsPositionAfter [] start
nothing = record { lines = []; tail = []; parts = refl; begins_line = inl refl; one_line = refl; line = refl; character = refl }

pub ranges_are_offsets : RangesAreOffsets
ranges_are_offsets text offset = after (take offset text) [] start nothing
