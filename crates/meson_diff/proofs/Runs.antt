-- Runs of shown entries.
use Rattle.std.proofs.Common.{◌≡◌, ℕ, zero, suc, ◌+◌, ◌-◌, ◌<◌, ◌≤◌, Bool, true, false, cond, List, get_or, length, take, drop, min, refl, ap, sym, ◌∙◌, inl, inr, arith}
use Rattle.std.specs.Prelude.{slice_range}
use Rattle.std.specs.List.{list_any}
use Rattle.std.proofs.lemmas.Bool.{both_ways, cases_eq, cases_lt}
use Rattle.std.proofs.lemmas.List.{get_or-drop, get_or-take, length-drop, length-take, length-take-le, take_all, take_rest}
use Rattle.std.proofs.lemmas.List.Folds.{list_any_at}
use Rattle.meson_diff.specs.Alignment.{is_changed}
use Rattle.meson_diff.specs.Hunks.{hunk_at, is_shown, shown_len}
use Rattle.meson_diff.specs.Laws.{HiddenAreKept, HunksAreRuns}
use Rattle.meson_diff.specs.declared.entry.Entry.{Entry}
use Rattle.meson_diff.specs.declared.entry.Mark.{Mark}
use Rattle.meson_diff.specs.declared.entry.Mark.TheVariants.{Kept, Gone, Come}

-- ---- the loop that counts them

pub shown_more : (entries : List Entry) (i n : ℕ) → i < n → is_shown entries i ≡ true → shown_len entries i (n - i) ≡ 1 + shown_len entries (i + 1) (n - (i + 1))
shown_more entries i n h shown =
    let left = n - (i + 1) in
    let e : n - i ≡ suc left = omega arith in
    ap (shown_len entries i) e ∙ ap (λ b. cond b (1 + shown_len entries (i + 1) left) 0) shown

pub shown_stop : (entries : List Entry) (i n : ℕ) → i < n → is_shown entries i ≡ false → shown_len entries i (n - i) ≡ 0
shown_stop entries i n h hidden =
    let left = n - (i + 1) in
    let e : n - i ≡ suc left = omega arith in
    ap (shown_len entries i) e ∙ ap (λ b. cond b (1 + shown_len entries (i + 1) left) 0) hidden

-- a range that ends past the list ends with it
pub slice_range_min : (xs : List Entry) (a b : ℕ) → slice_range xs a (min (length xs) b) ≡ slice_range xs a b
slice_range_min xs a b =
    elim (cases_lt (length xs) b) as (λ _. slice_range xs a (min (length xs) b) ≡ slice_range xs a b) [
      | inl past ↦
          let end : min (length xs) b - a ≡ length xs - a = omega arith in
          let all : length (drop a xs) ≤ b - a = omega (arith, length-drop a xs) in
          ap (λ n. take n (drop a xs)) end ∙ take_rest xs a ∙ sym (take_all (b - a) (drop a xs) all)
      | inr within ↦
          let end : min (length xs) b - a ≡ b - a = omega arith in
          ap (λ n. take n (drop a xs)) end
    ]

-- ---- what a run is

run_shown : (entries : List Entry) (i left k : ℕ) → i ≤ k → k < i + shown_len entries i left → is_shown entries k ≡ true
run_shown entries i zero k from to = absurd (omega arith)
run_shown entries i (suc left) k from to =
    (elim (is_shown entries i) as (λ b. is_shown entries i ≡ b → k < i + cond b (1 + shown_len entries (i + 1) left) 0 → is_shown entries k ≡ true) [
      | true ↦ λ here below.
          elim (cases_eq k i) as (λ _. is_shown entries k ≡ true) [
            | inl same ↦ ap (is_shown entries) same ∙ here
            | inr other ↦
                let next : i + 1 ≤ k = omega arith in
                let before : k < (i + 1) + shown_len entries (i + 1) left = omega arith in
                run_shown entries (i + 1) left k next before
          ]
      | false ↦ λ here below. absurd (omega arith)
    ]) refl to

run_within : (entries : List Entry) (i left : ℕ) → shown_len entries i left ≤ left
run_within entries i zero = omega arith
run_within entries i (suc left) =
    let rest = run_within entries (i + 1) left in
    elim (is_shown entries i) as (λ b. cond b (1 + shown_len entries (i + 1) left) 0 ≤ suc left) [ true ↦ omega arith | false ↦ omega arith ]

run_stops : (entries : List Entry) (i left : ℕ) → shown_len entries i left < left → is_shown entries (i + shown_len entries i left) ≡ false
run_stops entries i zero h = absurd (omega arith)
run_stops entries i (suc left) h =
    let len = shown_len entries (i + 1) left in
    (elim (is_shown entries i) as (λ b. is_shown entries i ≡ b → cond b (1 + len) 0 < suc left → is_shown entries (i + cond b (1 + len) 0) ≡ false) [
      | true ↦ λ here below.
          let less : len < left = omega arith in
          let at : i + (1 + len) ≡ (i + 1) + len = omega arith in
          ap (is_shown entries) at ∙ run_stops entries (i + 1) left less
      | false ↦ λ here below.
          let at : i + 0 ≡ i = omega arith in
          ap (is_shown entries) at ∙ here
    ]) refl h

pub hunks_are_runs : HunksAreRuns
hunks_are_runs entries i within begins =
    let left = length entries - i in
    let n = shown_len entries i left in
    let fits : n ≤ length (drop i entries) = omega (arith, run_within entries i left, length-drop i entries) in
    let len : length (hunk_at entries i) ≡ n = length-take-le n (drop i entries) fits in (
      (λ k from to.
          let before : k < i + n = omega (arith, len) in
          run_shown entries i left k from before),
      (λ more.
          let less : n < left = omega (arith, len) in
          ap (λ m. is_shown entries (i + m)) len ∙ run_stops entries i left less),
    )

-- ---- what is not shown

kept_mark : (m : Mark) → is_changed m ≡ false → m ≡ Kept
kept_mark Kept h = refl
kept_mark Gone h = cc
kept_mark Come h = cc

-- the entry is one of those that are looked at
looked_at : (entries : List Entry) (i : ℕ) (d : Entry) → i < length entries
    → (k : ℕ) × (k < length (slice_range entries (i - 3) (i + 1 + 3))) × (get_or (slice_range entries (i - 3) (i + 1 + 3)) k d ≡ get_or entries i d)
looked_at entries i d within =
    let a = i - 3 in
    let b = i + 1 + 3 in
    let k = i - a in
    let size = length-take (b - a) (drop a entries) in
    let rest = length-drop a entries in
    let short : k < b - a = omega arith in
    let at : a + k ≡ i = omega arith in
    let below : k < length (slice_range entries a b) = omega (arith, size, rest) in
    (k, below, get_or-take (b - a) (drop a entries) k d short ∙ get_or-drop a entries k d ∙ ap (λ n. get_or entries n d) at)

pub hidden_are_kept : HiddenAreKept
hidden_are_kept entries i d within hidden =
    let seen = slice_range entries (i - 3) (i + 1 + 3) in
    let at = looked_at entries i d within in
    let changes : Entry → Bool = λ e. is_changed e.mark in
    (elim (is_changed (get_or entries i d).mark) as (λ b. is_changed (get_or entries i d).mark ≡ b → (get_or entries i d).mark ≡ Kept) [
      | true ↦ λ e.
          let any : list_any changes seen ≡ true = list_any_at changes seen at.0 d at.1 (ap changes at.2 ∙ e) in
          absurd (both_ways (list_any changes seen) hidden any)
      | false ↦ λ e. kept_mark (get_or entries i d).mark e
    ]) refl
