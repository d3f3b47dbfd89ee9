-- The hunks that are written, one after another.
use Rattle.std.proofs.Common.{◌≡◌, ℕ, ◌+◌, ◌-◌, true, false, cond, List, [], ◌++◌, length, take, drop, ap, ap₂, sym, ◌∙◌, add-one, arith}
use Rattle.std.specs.Prelude.{flat_map}
use Rattle.std.proofs.lemmas.List.{append-nil, append_assoc}
use Rattle.meson_diff.specs.Alignment.{new_lines, old_lines}
use Rattle.meson_diff.specs.Hunks.{begins_hunk, entry_text, head_text, hunk_at, hunk_text, shown_len, hunk_text_at, texts_before}
use Rattle.meson_diff.specs.declared.entry.Entry.{Entry}

one_more : (entries : List Entry) (i : ℕ) (start more : List ℕ) → hunk_text_at entries i ≡ more
    → (start ++ texts_before entries i) ++ more ≡ start ++ texts_before entries (i + 1)
one_more entries i start more is =
    append_assoc start (texts_before entries i) more
    ∙ ap (λ l. start ++ (texts_before entries i ++ l)) (sym is)
    ∙ ap (λ k. start ++ texts_before entries k) (sym (add-one i))

pub hunk_written : (entries : List Entry) (i : ℕ) (start was now : List ℕ) → begins_hunk entries i ≡ true
    → was ≡ start ++ texts_before entries i → now ≡ was ++ hunk_text (take i entries) (hunk_at entries i) → now ≡ start ++ texts_before entries (i + 1)
hunk_written entries i start was now begins before written =
    let hunk = hunk_text (take i entries) (hunk_at entries i) in
    written ∙ ap (λ l. l ++ hunk) before ∙ one_more entries i start hunk (ap (λ b. cond b hunk []) begins)

pub nothing_written : (entries : List Entry) (i : ℕ) (start was : List ℕ) → begins_hunk entries i ≡ false
    → was ≡ start ++ texts_before entries i → was ≡ start ++ texts_before entries (i + 1)
nothing_written entries i start was none before =
    before ∙ sym (append-nil (start ++ texts_before entries i))
    ∙ one_more entries i start [] (ap (λ b. cond b (hunk_text (take i entries) (hunk_at entries i)) []) none)

-- ---- one hunk

hunk_is : (entries : List Entry) (at n : ℕ) → n ≡ shown_len entries at (length entries - at) → take (at + n - at) (drop at entries) ≡ hunk_at entries at
hunk_is entries at n e =
    let len : at + n - at ≡ n = omega arith in
    ap (λ k. take k (drop at entries)) (len ∙ e)

pub text_written : (entries : List Entry) (at n old_before old_count new_before new_count : ℕ) (was line now : List ℕ)
    → old_before ≡ length (old_lines (take at entries)) → new_before ≡ length (new_lines (take at entries)) → n ≡ shown_len entries at (length entries - at)
    → old_count ≡ length (old_lines (take (at + n - at) (drop at entries))) → new_count ≡ length (new_lines (take (at + n - at) (drop at entries)))
    → line ≡ head_text old_before old_count new_before new_count
    → now ≡ (was ++ line) ++ flat_map entry_text (take (at + n - at) (drop at entries))
    → now ≡ was ++ hunk_text (take at entries) (hunk_at entries at)
text_written entries at n ob oc nb nc was line now is_ob is_nb is_n is_oc is_nc is_line written =
    let hunk = take (at + n - at) (drop at entries) in
    let body = flat_map entry_text hunk in
    written
    ∙ append_assoc was line body
    ∙ ap (λ l. was ++ (l ++ body)) is_line
    ∙ ap₂ (λ a b. was ++ (head_text a b nb nc ++ body)) is_ob is_oc
    ∙ ap₂ (λ a b. was ++ (head_text (length (old_lines (take at entries))) (length (old_lines hunk)) a b ++ body)) is_nb is_nc
    ∙ ap (λ h. was ++ hunk_text (take at entries) h) (hunk_is entries at n is_n)
