-- Lines that both texts have.
use Rattle.std.proofs.Common.{◌≡◌, ℕ, ◌+◌, ◌-◌, ◌<◌, ◌≤◌, List, [], ◌∷◌, get_or, length, min, drop, ap, ap₂, subst, subst₂, sym, ◌∙◌, inl, inr, arith}
use Rattle.std.proofs.lemmas.Bool.{cases_eq}
use Rattle.std.proofs.lemmas.List.{drop_more}
use Rattle.meson_diff.specs.Alignment.{IsMeeting, NoneNearer, NoneOfBoth}

-- both texts end with one more common line
pub tail_more : (old new : List (List ℕ)) (n : ℕ) → n < length old → n < length new → IsMeeting old new (length old - 1 - n) (length new - 1 - n)
    → drop (length old - n) old ≡ drop (length new - n) new → drop (length old - (n + 1)) old ≡ drop (length new - (n + 1)) new
tail_more old new n in_old in_new meets same =
    let i = length old - 1 - n in
    let j = length new - 1 - n in
    let old_at : length old - (n + 1) ≡ i = omega arith in
    let new_at : length new - (n + 1) ≡ j = omega arith in
    let old_next : i + 1 ≡ length old - n = omega arith in
    let new_next : j + 1 ≡ length new - n = omega arith in
    ap (λ k. drop k old) old_at
    ∙ drop_more old i [] meets.in_old
    ∙ ap (λ k. get_or old i [] ∷ drop k old) old_next
    ∙ ap₂ (λ x rest. x ∷ rest) (meets.one_line []) same
    ∙ ap (λ k. get_or new j [] ∷ drop k new) (sym new_next)
    ∙ sym (drop_more new j [] meets.in_new)
    ∙ ap (λ k. drop k new) (sym new_at)

-- ---- the nearest

-- so far none, of those behind so many lines in all
abbrev pub NoneYet : List (List ℕ) → List (List ℕ) → ℕ → ℕ → Type 0
NoneYet old new distance n = (gone come : ℕ) → gone < 65 → come < 65 → gone < n → gone + come ≡ distance → IsMeeting old new gone come → ⊥

pub none_more : (old new : List (List ℕ)) (distance n : ℕ) → (IsMeeting old new n (distance - n) → ⊥) → NoneYet old new distance n → NoneYet old new distance (n + 1)
none_more old new distance n apart so_far gone come near_old near_new below sum meets =
    elim (cases_eq gone n) as (λ _. ⊥) [
      | inl same ↦
          let left : come ≡ distance - n = omega arith in
          apart (subst₂ (λ i j. IsMeeting old new i j) same left meets)
      | inr other ↦ so_far gone come near_old near_new (omega arith) sum meets
    ]

pub none_farther : (old new : List (List ℕ)) (distance n : ℕ) → min distance 64 + 1 ≤ n → NoneYet old new distance n → NoneNearer old new distance
    → NoneNearer old new (distance + 1)
none_farther old new distance n all here nearer gone come near_old near_new below meets =
    elim (cases_eq (gone + come) distance) as (λ _. ⊥) [
      | inl same ↦ here gone come near_old near_new (omega arith) same meets
      | inr other ↦ nearer gone come near_old near_new (omega arith) meets
    ]

pub none_at_all : (old new : List (List ℕ)) (distance : ℕ) → 129 ≤ distance → NoneNearer old new distance → NoneOfBoth old new
none_at_all old new distance all none i j near_old near_new meets = none i j near_old near_new (omega arith) meets

pub none_till : (old new : List (List ℕ)) (distance gone : ℕ) → gone ≤ distance → NoneNearer old new distance → NoneNearer old new (gone + (distance - gone))
none_till old new distance gone within none = subst (NoneNearer old new) (let same : distance ≡ gone + (distance - gone) = omega arith in same) none
