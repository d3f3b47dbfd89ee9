-- The longest ends that two texts share, found from the shortest on.
use Rattle.std.proofs.Common.{◌≡◌, ℕ, ◌+◌, ◌-◌, ◌<◌, ◌≤◌, List, ◌∷◌, drop, get_or, length, min, ap, ap₂, sym, ◌∙◌, subst, inl, inr, arith}
use Rattle.std.proofs.lemmas.Bool.{cases_eq}
use Rattle.std.proofs.lemmas.List.{drop_more, get_or-drop, get_or-take}
use Rattle.meson_ranges.specs.Trimming.{IsCut, IsLongest, IsSharedBack, IsSharedFront}

-- of the numbers up to n, `best` is the largest for which it holds, or 0
pub record IsLongestOf (P : ℕ → Type 0) (n best : ℕ) : Type 0 where
  pub within : best ≤ n
  pub holds : 0 < best → P best
  pub longest : (m : ℕ) → best < m → m ≤ n → P m → ⊥

pub none_yet : (P : ℕ → Type 0) → IsLongestOf P 0 0
none_yet P = record { within = omega arith; holds = λ h. absurd (omega arith); longest = λ m more most holds. omega arith }

pub one_longer : (P : ℕ → Type 0) (n best : ℕ) → IsLongestOf P n best → P (n + 1) → IsLongestOf P (n + 1) (n + 1)
one_longer P n best so_far holds = record { within = omega arith; holds = λ h. holds; longest = λ m more most other. omega arith }

pub as_long : (P : ℕ → Type 0) (n best : ℕ) → IsLongestOf P n best → (P (n + 1) → ⊥) → IsLongestOf P (n + 1) best
as_long P n best so_far none = record {
  within = let w = so_far.within in omega (arith, w);
  holds = so_far.holds;
  longest = λ m more most other. elim (cases_eq m (n + 1)) as (λ _. ⊥) [
    | inl same ↦ none (subst P same other)
    | inr differs ↦ so_far.longest m more (omega arith) other
  ];
}

pub none_longer : (P : ℕ → Type 0) (n best : ℕ) → IsLongestOf P n best → ((m : ℕ) → n < m → P m → ⊥) → IsLongest P best
none_longer P n best so_far none = record {
  holds = so_far.holds;
  longest = λ m more other. elim (cases_eq (m - n) 0) as (λ _. ⊥) [
    | inl same ↦ so_far.longest m more (omega arith) other
    | inr differs ↦ none m (omega arith) other
  ];
}

-- ---- where the two differ

pub front_ends : (was now : List ℕ) (n : ℕ) → (get_or was n 0 ≡ get_or now n 0 → ⊥) → (m : ℕ) → n < m → IsSharedFront was now m → ⊥
front_ends was now n differ m more shared =
    differ (sym (get_or-take m was n 0 more) ∙ ap (λ l. get_or l n 0) shared.same ∙ get_or-take m now n 0 more)

pub front_whole : (was now : List ℕ) (n : ℕ) → min (length was) (length now) ≤ n → (m : ℕ) → n < m → IsSharedFront was now m → ⊥
front_whole was now n all m more shared =
    let in_was = shared.cut_was.whole.0 in
    let in_now = shared.cut_now.whole.0 in
    omega arith

pub back_ends : (was now : List ℕ) (n : ℕ) → n < length was → n < length now
    → (get_or was (length was - 1 - n) 0 ≡ get_or now (length now - 1 - n) 0 → ⊥) → (m : ℕ) → n < m → IsSharedBack was now m → ⊥
back_ends was now n in_was in_now differ m more shared =
    let size = shared.in_was in
    let other_size = shared.in_now in
    let was_at : length was - m + (m - 1 - n) ≡ length was - 1 - n = omega arith in
    let now_at : length now - m + (m - 1 - n) ≡ length now - 1 - n = omega arith in
    differ (
    ap (λ i. get_or was i 0) (sym was_at) ∙ sym (get_or-drop (length was - m) was (m - 1 - n) 0)
    ∙ ap (λ l. get_or l (m - 1 - n) 0) shared.same
    ∙ get_or-drop (length now - m) now (m - 1 - n) 0 ∙ ap (λ i. get_or now i 0) now_at
    )

pub back_whole : (was now : List ℕ) (n : ℕ) → min (length was) (length now) ≤ n → (m : ℕ) → n < m → IsSharedBack was now m → ⊥
back_whole was now n all m more shared =
    let in_was = shared.in_was in
    let in_now = shared.in_now in
    omega arith

-- one more byte from the end on
pub back_more : (was now : List ℕ) (n : ℕ) → n < length was → n < length now
    → get_or was (length was - 1 - n) 0 ≡ get_or now (length now - 1 - n) 0
    → drop (length was - n) was ≡ drop (length now - n) now → drop (length was - (n + 1)) was ≡ drop (length now - (n + 1)) now
back_more was now n in_was in_now one same =
    let i = length was - 1 - n in
    let j = length now - 1 - n in
    let was_at : length was - (n + 1) ≡ i = omega arith in
    let now_at : length now - (n + 1) ≡ j = omega arith in
    let was_next : i + 1 ≡ length was - n = omega arith in
    let now_next : j + 1 ≡ length now - n = omega arith in
    ap (λ k. drop k was) was_at
    ∙ drop_more was i 0 (omega arith)
    ∙ ap (λ k. get_or was i 0 ∷ drop k was) was_next
    ∙ ap₂ (λ x rest. x ∷ rest) one same
    ∙ ap (λ k. get_or now j 0 ∷ drop k now) (sym now_next)
    ∙ sym (drop_more now j 0 (omega arith))
    ∙ ap (λ k. drop k now) (sym now_at)

-- where both may be cut before that byte, they share a longer back
pub shared_back : (was now : List ℕ) (n : ℕ) → n < length was → n < length now → drop (length was - (n + 1)) was ≡ drop (length now - (n + 1)) now
    → IsCut was (length was - 1 - n) → IsCut now (length now - 1 - n) → IsSharedBack was now (n + 1)
shared_back was now n in_was in_now same cut_was cut_now =
    let was_at : length was - 1 - n ≡ length was - (n + 1) = omega arith in
    let now_at : length now - 1 - n ≡ length now - (n + 1) = omega arith in
    record {
      in_was = omega arith;
      in_now = omega arith;
      same = same;
      cut_was = subst (IsCut was) was_at cut_was;
      cut_now = subst (IsCut now) now_at cut_now;
    }

-- and else not
pub cut_was : (was now : List ℕ) (n : ℕ) → IsSharedBack was now (n + 1) → IsCut was (length was - 1 - n)
cut_was was now n shared =
    let at : length was - (n + 1) ≡ length was - 1 - n = omega arith in
    subst (IsCut was) at shared.cut_was

pub cut_now : (was now : List ℕ) (n : ℕ) → IsSharedBack was now (n + 1) → IsCut now (length now - 1 - n)
cut_now was now n shared =
    let at : length now - (n + 1) ≡ length now - 1 - n = omega arith in
    subst (IsCut now) at shared.cut_now
