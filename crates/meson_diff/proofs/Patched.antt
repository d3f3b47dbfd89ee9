-- The old text with the hunks' new lines in it is the new text.
use Rattle.std.proofs.Common.{◌≡◌, ℕ, zero, suc, ◌+◌, ◌-◌, ◌<◌, ◌≤◌, true, false, cond, List, [], ◌∷◌, ◌++◌, get_or, length, take, drop, refl, ap, ap₂, sym, ◌∙◌, arith}
use Rattle.std.specs.Prelude.{slice_range}
use Rattle.std.proofs.lemmas.List.{drop_more}
use Rattle.meson_diff.specs.Alignment.{new_lines, old_lines}
use Rattle.meson_diff.specs.Hunks.{begins_hunk, hunk_at, is_shown}
use Rattle.meson_diff.specs.Laws.{PatchedIsNew, patched_before, patched_piece, piece, pieces_before}
use Rattle.meson_diff.specs.declared.entry.Entry.{Entry}
use Rattle.meson_diff.specs.declared.entry.Mark.{Mark}
use Rattle.meson_diff.specs.declared.entry.Mark.TheVariants.{Kept, Gone, Come}
use Rattle.meson_diff.proofs.Joins.{new_lines-append}
use Rattle.meson_diff.proofs.Pieces.{hunks_hold_all}
use Rattle.meson_diff.proofs.Runs.{hidden_are_kept}

nothing : Entry
nothing = record { mark = Kept; line = [] }

kept_alike : (e : Entry) (m : Mark) → e.mark ≡ m → m ≡ Kept → old_lines (record e { mark = m } ∷ []) ≡ new_lines (record e { mark = m } ∷ [])
kept_alike e Kept is kept = refl
kept_alike e Gone is kept = absurd (let no : ⊥ = cc in no)
kept_alike e Come is kept = absurd (let no : ⊥ = cc in no)

-- a line that no hunk shows is one of both texts
hidden_alike : (entries : List Entry) (i : ℕ) → i < length entries → is_shown entries i ≡ false
    → old_lines (slice_range entries i (i + 1)) ≡ new_lines (slice_range entries i (i + 1))
hidden_alike entries i within hidden =
    let e = get_or entries i nothing in
    let one : i + 1 - i ≡ 1 = omega arith in
    let is = ap (λ n. take n (drop i entries)) one ∙ ap (take 1) (drop_more entries i nothing within) in
    ap old_lines is ∙ kept_alike e e.mark refl (hidden_are_kept entries i nothing within hidden) ∙ sym (ap new_lines is)

piece_alike : (entries : List Entry) (i : ℕ) → i < length entries → patched_piece entries i ≡ new_lines (piece entries i)
piece_alike entries i within =
    let hunk = hunk_at entries i in
    let one = slice_range entries i (i + 1) in
    elim (begins_hunk entries i) as (λ b. cond b (new_lines hunk) (cond (is_shown entries i) [] (old_lines one)) ≡ new_lines (cond b hunk (cond (is_shown entries i) [] one))) [
      | true ↦ refl
      | false ↦
          (elim (is_shown entries i) as (λ b. is_shown entries i ≡ b → cond b [] (old_lines one) ≡ new_lines (cond b [] one)) [
            | true ↦ λ shown. refl
            | false ↦ λ hidden. hidden_alike entries i within hidden
          ]) refl
    ]

patched_alike : (entries : List Entry) (n : ℕ) → n ≤ length entries → patched_before entries n ≡ new_lines (pieces_before entries n)
patched_alike entries zero h = refl
patched_alike entries (suc n) h =
    ap₂ (λ a b. a ++ b) (patched_alike entries n (omega arith)) (piece_alike entries n (omega arith))
    ∙ sym (new_lines-append (pieces_before entries n) (piece entries n))

pub patched_is_new : PatchedIsNew
patched_is_new entries = patched_alike entries (length entries) (omega arith) ∙ ap new_lines (hunks_hold_all entries)
