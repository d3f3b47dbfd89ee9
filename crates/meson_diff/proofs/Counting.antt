-- How many lines of each text entries are.
use Rattle.std.proofs.Common.{◌≡◌, ℕ, ◌+◌, ◌<◌, ◌≤◌, Bool, cond, List, filter, get_or, length, take, ap, sym, ◌∙◌, arith}
use Rattle.std.proofs.lemmas.List.{length-map}
use Rattle.std.proofs.lemmas.List.Filters.{length-filter_more}
use Rattle.std.proofs.lemmas.List.Sums.{count_by-le-length, length-filter}
use Rattle.meson_diff.specs.Alignment.{is_new, is_old, new_lines, old_lines}
use Rattle.meson_diff.specs.declared.entry.Entry.{Entry}

old_size : (xs : List Entry) → length (old_lines xs) ≡ length (filter (λ e. is_old e.mark) xs)
old_size xs = length-map (filter (λ (e : Entry). is_old e.mark) xs) (λ e. e.line)

new_size : (xs : List Entry) → length (new_lines xs) ≡ length (filter (λ e. is_new e.mark) xs)
new_size xs = length-map (filter (λ (e : Entry). is_new e.mark) xs) (λ e. e.line)

-- no more than there are entries
pub old_within : (xs : List Entry) → length (old_lines xs) ≤ length xs
old_within xs = omega (arith, old_size xs, length-filter (λ (e : Entry). is_old e.mark) xs, count_by-le-length (λ (e : Entry). is_old e.mark) xs)

pub new_within : (xs : List Entry) → length (new_lines xs) ≤ length xs
new_within xs = omega (arith, new_size xs, length-filter (λ (e : Entry). is_new e.mark) xs, count_by-le-length (λ (e : Entry). is_new e.mark) xs)

-- one more entry
pub old_counted : (xs : List Entry) (i : ℕ) (e : Entry) → i < length xs → e ≡ get_or xs i e
    → length (old_lines (take (i + 1) xs)) ≡ length (old_lines (take i xs)) + cond (is_old e.mark) 1 0
old_counted xs i e within at =
    let passes : Entry → Bool = λ x. is_old x.mark in
    old_size (take (i + 1) xs)
    ∙ length-filter_more passes xs i e within
    ∙ ap (λ x. length (filter passes (take i xs)) + cond (is_old x.mark) 1 0) (sym at)
    ∙ ap (λ n. n + cond (is_old e.mark) 1 0) (sym (old_size (take i xs)))

pub new_counted : (xs : List Entry) (i : ℕ) (e : Entry) → i < length xs → e ≡ get_or xs i e
    → length (new_lines (take (i + 1) xs)) ≡ length (new_lines (take i xs)) + cond (is_new e.mark) 1 0
new_counted xs i e within at =
    let passes : Entry → Bool = λ x. is_new x.mark in
    new_size (take (i + 1) xs)
    ∙ length-filter_more passes xs i e within
    ∙ ap (λ x. length (filter passes (take i xs)) + cond (is_new x.mark) 1 0) (sym at)
    ∙ ap (λ n. n + cond (is_new e.mark) 1 0) (sym (new_size (take i xs)))
