-- How much is left to walk through: files that may still be inside one another, each with the words of all, and then the words of what is walked through now.
use Rattle.std.proofs.Common.{◌≡◌, ℕ, zero, suc, ◌+◌, ◌-◌, ◌*◌, ◌<◌, ◌≤◌, [], ◌∷◌, length, sym, subst, suc-mul, arith}
use Rattle.meson_lex.specs.declared.kinds.Span.{Span}
use Rattle.meson_syntax.specs.Grammar.{file_words}
use Rattle.meson_calls.specs.Project.{Project}

abbrev pub all_words : Project Span → ℕ
all_words [] = 0
all_words (f ∷ fs) = length (file_words f.tree) + all_words fs

-- of eight steps between two words the k-th
unfoldable pub measure : ℕ → ℕ → ℕ → ℕ → ℕ
measure left all words k = 8 * (left * suc all + words) + k

pub lower_step : (left all d e k j t : ℕ) → d ≤ e → k < j → t ≡ measure left all e j → measure left all d k < t
unfolding measure
lower_step left all d e k j t within step is = omega arith

pub inner_step : (left all d e k j t : ℕ) → d < e → k < 8 → t ≡ measure left all e j → measure left all d k < t
unfolding measure
inner_step left all d e k j t within step is = omega arith

pub file_step : (left all d t : ℕ) → 0 < left → d ≤ all → t ≡ measure left all 0 0 → measure (left - 1) all d 6 < t
unfolding measure
file_step zero all d t some within is = absurd (omega arith)
file_step (suc left) all d t some within is =
    let less : suc left - 1 ≡ left = omega arith in
    let more : suc left * suc all ≡ left * suc all + suc all = suc-mul left (suc all) in
    let here : 8 * (left * suc all + d) + 6 < 8 * (suc left * suc all + 0) + 0 = omega arith in
    subst (λ n. 8 * (n * suc all + d) + 6 < t) (sym less) (subst (λ n. 8 * (left * suc all + d) + 6 < n) (sym is) here)

-- a value, where one variable less may be followed
pub value_step : (left all d k t : ℕ) → d ≤ all → k < 8 → t ≡ measure (suc left) all 0 0 → measure left all d k < t
unfolding measure
value_step left all d k t within step is =
    let more : suc left * suc all ≡ left * suc all + suc all = suc-mul left (suc all) in
    omega (arith, within, step, is, more)

pub one_less : (left : ℕ) → 0 < left → suc (left - 1) ≡ left
one_less zero some = absurd (omega (arith, some))
one_less (suc left) some = omega arith
