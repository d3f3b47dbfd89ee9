-- The number of a line is counted on from that of an earlier offset.
use Rattle.std.proofs.Common.{◌≡◌, ℕ, ◌+◌, ◌-◌, ◌≤◌, List, ◌++◌, length, min, take, drop, sym, ap, ap₂, ◌∙◌, arith}
use Rattle.std.specs.Prelude.{◌==◌, filter}
use Rattle.std.proofs.lemmas.List.{drop-take, length-append, length-take, take-append-drop, take-take, take_min}
use Rattle.std.proofs.lemmas.List.Elements.{filter-append}
use Rattle.std.proofs.lemmas.List.Sums.{count_by-le-length, length-filter}
use Rattle.meson_inventory.specs.Inventory.{line_number}

-- how many line feeds there are
abbrev pub feeds : List ℕ → ℕ
feeds bytes = length (filter (λ b. b == 10) bytes)

feeds-append : (xs ys : List ℕ) → feeds (xs ++ ys) ≡ feeds xs + feeds ys
feeds-append xs ys = ap length (filter-append (λ b. b == 10) xs ys) ∙ length-append (filter (λ b. b == 10) xs) (filter (λ b. b == 10) ys)

taken_on : (bytes : List ℕ) (from to : ℕ) → from ≤ to → take to bytes ≡ take from bytes ++ take (to - from) (drop from bytes)
taken_on bytes from to later =
    let long : to ≡ from + (to - from) = omega (arith, later) in
    sym (take-append-drop from (take to bytes)) ∙ ap₂ (λ xs ys. xs ++ ys) (take-take from to bytes later) (ap (λ n. drop from (take n bytes)) long ∙ drop-take from (to - from) bytes)

-- the bytes of a file between two offsets in it
reached : (bytes : List ℕ) (from at_ start end : ℕ) → from ≤ at_ → end ≡ min at_ (length bytes) → start ≡ min from end → take at_ bytes ≡ take from bytes ++ take (end - start) (drop start bytes)
reached bytes from at_ start end later ends starts =
    let ordered : start ≤ end = omega (arith, starts) in
    let begins : start ≡ min from (length bytes) = omega (arith, later, ends, starts) in
    let first = ap (λ n. take n bytes) begins ∙ take_min from bytes in
    sym (ap (λ n. take n bytes) ends ∙ take_min at_ bytes) ∙ taken_on bytes start end ordered ∙ ap (λ xs. xs ++ take (end - start) (drop start bytes)) first

pub counted_on : (bytes : List ℕ) (from at_ line start end fed : ℕ) → line ≡ line_number bytes from → from ≤ at_ → end ≡ min at_ (length bytes) → start ≡ min from end → fed ≡ feeds (take (end - start) (drop start bytes))
    → line + fed ≡ line_number bytes at_
counted_on bytes from at_ line start end fed is later ends starts counted =
    let passed = take (end - start) (drop start bytes) in
    let whole : feeds (take at_ bytes) ≡ feeds (take from bytes) + feeds passed = ap feeds (reached bytes from at_ start end later ends starts) ∙ feeds-append (take from bytes) passed in
    omega (arith, is, counted, whole)

pub lines_fit : (bytes : List ℕ) (at_ : ℕ) → line_number bytes at_ ≤ length bytes + 1
lines_fit bytes at_ =
    let taken = take at_ bytes in
    omega (arith, length-filter (λ (b : ℕ). b == 10) taken, count_by-le-length (λ (b : ℕ). b == 10) taken, length-take at_ bytes)
