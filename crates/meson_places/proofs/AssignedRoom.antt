-- How deep code is, by whether it is read as a list within a depth; and how many constructs are around a statement.
use Rattle.std.proofs.Common.{◌≡◌, ℕ, zero, suc, ◌-◌, ◌/◌, ◌≤◌, true, false, List, [], ◌∷◌, length, take, refl, sym, ap, ◌∙◌, arith}
use Rattle.std.specs.Prelude.{Bool}
use Rattle.meson_syntax.specs.declared.operator.Bracket.{Bracket}
use Rattle.meson_syntax.specs.Tree.{Listing, Nowhere, erase_listing}
use Rattle.meson_syntax.specs.ReadsList.{ReadsListWithin, list_items}
use Rattle.meson_syntax.proofs.parsing.Steps.{some-injective}
use Rattle.meson_syntax.proofs.lists.Complete.{whole_list-complete}
use Rattle.meson_places.specs.AssignedValues.{above, around}

pub not_true : (b : Bool) → (b ≡ true → ⊥) → false ≡ b
not_true true h = absurd (h refl)
not_true false h = refl

-- a text is read as one list
pub one_reading : (depth : ℕ) (b : Bracket) (source : List ℕ) (l m : Listing Nowhere) → ReadsListWithin depth b source l → ReadsListWithin depth b source m → l ≡ m
one_reading depth b source l m p q =
    let items = list_items p.text in
    let f = whole_list-complete source items p.text.are_items depth b l p in
    let g = whole_list-complete source items p.text.are_items depth b m q in
    sym f.1 ∙ ap erase_listing (some-injective _ _ (sym f.2 ∙ g.2)) ∙ g.1

pub read_deeper : (depth more : ℕ) (b : Bracket) (source : List ℕ) (l : Listing Nowhere) → depth ≤ more → ReadsListWithin depth b source l → ReadsListWithin more b source l
read_deeper depth more b source l deep r = let low = r.depth in record { utf8 = r.utf8; text = r.text; level = r.level; depth = omega (arith, low, deep) }

-- ---- around a statement

two_more : (n : ℕ) → suc (suc n) / 2 ≡ suc (n / 2)
two_more n = omega arith

around_half : (path : List ℕ) → around path ≡ length path / 2
around_half [] = refl
around_half (n ∷ []) = refl
around_half (n ∷ m ∷ path) = ap suc (around_half path) ∙ sym (two_more (length path))

take_length : (n : ℕ) (path : List ℕ) → n ≤ length path → length (take n path) ≡ n
take_length zero path within = refl
take_length (suc n) [] within = omega (arith, within)
take_length (suc n) (x ∷ path) within = ap suc (take_length n path (omega (arith, within)))

pub around_above : (path : List ℕ) → around (above path) ≡ (length path - 1) / 2
around_above path = around_half (above path) ∙ ap (λ n. n / 2) (take_length (length path - 1) path (omega arith))
