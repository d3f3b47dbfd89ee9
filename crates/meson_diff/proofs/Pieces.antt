-- The hunks and the entries that no hunk shows are all entries.
use Rattle.std.proofs.Common.{◌≡◌, ℕ, zero, suc, ◌+◌, ◌-◌, ◌<◌, ◌≤◌, Bool, true, false, not, cond, ◌&&◌, ◌||◌, List, [], ◌++◌, length, take, drop, refl, ap, ap₂, sym, ◌∙◌, add-one, add-zero, arith}
use Rattle.std.specs.Prelude.{◌==◌, slice_range}
use Rattle.std.proofs.lemmas.Bool.{ne_eqb}
use Rattle.std.proofs.lemmas.List.{append-nil, drop-take, take-append-drop, take-take, take_all}
use Rattle.meson_diff.specs.Hunks.{is_shown, shown_len}
use Rattle.meson_diff.specs.Laws.{HunksHoldAll, piece, pieces_before}
use Rattle.meson_diff.specs.declared.entry.Entry.{Entry}
use Rattle.meson_diff.proofs.Runs.{shown_more, shown_stop}

take_add : (n k : ℕ) (xs : List Entry) → take (n + k) xs ≡ take n xs ++ take k (drop n xs)
take_add n k xs =
    let within : n ≤ n + k = omega arith in
    sym (take-append-drop n (take (n + k) xs)) ∙ ap₂ (λ a b. a ++ b) (take-take n (n + k) xs within) (drop-take n k xs)

one_more : (xs : List Entry) (i : ℕ) → take i xs ++ slice_range xs i (i + 1) ≡ take (i + 1) xs
one_more xs i =
    let all : i + (i + 1 - i) ≡ i + 1 = omega arith in
    sym (take_add i (i + 1 - i) xs) ∙ ap (λ n. take n xs) all

-- whether no entry is shown directly before entry i
abbrev alone : List Entry → ℕ → Bool
alone entries i = i == 0 || not (is_shown entries (i - 1))

alone_after : (entries : List Entry) (i : ℕ) → alone entries (suc i) ≡ not (is_shown entries i)
alone_after entries i =
    let positive : (suc i == 0) ≡ false = ne_eqb (suc i) 0 (λ e. omega arith) in
    let before : suc i - 1 ≡ i = omega arith in
    ap (λ b. b || not (is_shown entries (suc i - 1))) positive ∙ ap (λ k. not (is_shown entries k)) before

piece_more : (es : List Entry) (i n m : ℕ) (shown first : Bool) → (shown ≡ true → n ≡ 1 + m) → (shown ≡ false → n ≡ 0)
    → take (i + cond first 0 n) es ++ cond (shown && first) (take n (drop i es)) (cond shown [] (slice_range es i (i + 1)))
    ≡ take (suc i + cond (not shown) 0 m) es
piece_more es i n m true true more none =
    let longer = more refl in
    let all : i + n ≡ suc i + m = omega arith in
    ap (λ k. take k es ++ take n (drop i es)) (add-zero i) ∙ sym (take_add i n es) ∙ ap (λ k. take k es) all
piece_more es i n m true false more none =
    let longer = more refl in
    let all : i + n ≡ suc i + m = omega arith in
    append-nil (take (i + n) es) ∙ ap (λ k. take k es) all
piece_more es i n m false true more none =
    let all : i + 1 ≡ suc i + 0 = omega arith in
    ap (λ k. take k es ++ slice_range es i (i + 1)) (add-zero i) ∙ one_more es i ∙ ap (λ k. take k es) all
piece_more es i n m false false more none =
    let empty = none refl in
    let here : i + n ≡ i = omega arith in
    let all : i + 1 ≡ suc i + 0 = omega arith in
    ap (λ k. take k es ++ slice_range es i (i + 1)) here ∙ one_more es i ∙ ap (λ k. take k es) all

-- how many entries the pieces before entry i hold: those before it, and within a hunk the rest of that
abbrev held : List Entry → ℕ → ℕ
held entries i = i + cond (alone entries i) 0 (shown_len entries i (length entries - i))

pieces_held : (entries : List Entry) (i : ℕ) → i ≤ length entries → pieces_before entries i ≡ take (held entries i) entries
pieces_held entries zero h = refl
pieces_held entries (suc i) h =
    let size = length entries in
    let within : i < size = omega arith in
    let n = shown_len entries i (size - i) in
    let m = shown_len entries (suc i) (size - suc i) in
    let more : is_shown entries i ≡ true → n ≡ 1 + m =
    λ shown. shown_more entries i size within shown ∙ ap (λ k. 1 + shown_len entries k (size - k)) (add-one i) in
    ap (λ p. p ++ piece entries i) (pieces_held entries i (omega arith))
    ∙ piece_more entries i n m (is_shown entries i) (alone entries i) more (shown_stop entries i size within)
    ∙ ap (λ b. take (suc i + cond b 0 m) entries) (sym (alone_after entries i))

pub hunks_hold_all : HunksHoldAll
hunks_hold_all entries =
    let size = length entries in
    let all : size ≤ held entries size = omega arith in
    pieces_held entries size (omega arith) ∙ take_all (held entries size) entries all
