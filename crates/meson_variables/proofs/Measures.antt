-- How much is left to expand: variables that may still be followed, each of the rank of all values together, and then the rank of what is expanded now.
use Rattle.meson_variables.proofs.Words.{◌≡◌, ℕ, zero, suc, ◌+◌, ◌-◌, ◌*◌, ◌<◌, ◌≤◌, arith, sym, subst, suc-mul, notes, project_of, Variables, notes_rank}

abbrev pub values_rank : Variables → ℕ
values_rank v = notes_rank (notes (project_of v))

-- of six steps between two constructs the k-th
unfoldable pub measure : ℕ → ℕ → ℕ → ℕ → ℕ
measure left all rank k = 6 * (left * suc all + rank) + k

-- ---- each step takes some of it

pub lower_step : (left all d e k j t : ℕ) → d ≤ e → k < j → t ≡ measure left all e j → measure left all d k < t
unfolding measure
lower_step left all d e k j t within step is = omega arith

pub inner_step : (left all d e k j t : ℕ) → d < e → k < 6 → t ≡ measure left all e j → measure left all d k < t
unfolding measure
inner_step left all d e k j t within step is = omega arith

pub variable_step : (left all d t : ℕ) → 0 < left → d ≤ all → t ≡ measure left all 0 1 → measure (left - 1) all d 4 < t
unfolding measure
variable_step zero all d t some within is = absurd (omega arith)
variable_step (suc left) all d t some within is =
    let less : suc left - 1 ≡ left = omega arith in
    let more : suc left * suc all ≡ left * suc all + suc all = suc-mul left (suc all) in
    let here : 6 * (left * suc all + d) + 4 < 6 * (suc left * suc all + 0) + 1 = omega arith in
    subst (λ n. 6 * (n * suc all + d) + 4 < t) (sym less) (subst (λ n. 6 * (left * suc all + d) + 4 < n) (sym is) here)
