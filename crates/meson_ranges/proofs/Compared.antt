-- The files that differ, one after another.
use Rattle.std.proofs.Common.{◌≡◌, ℕ, ◌+◌, ◌<◌, true, false, not, List, [], ◌∷◌, ◌++◌, drop, get_or, length, subst, subst₂, sym, ◌∙◌}
use Rattle.std.specs.Prelude.{bytes_eq}
use Rattle.std.proofs.lemmas.List.{append_assoc, drop_more}
use Rattle.std.proofs.lemmas.Slice.Eq.{bytes_eq-Decides}
use Rattle.meson_splice.specs.Files.{bytes_at}
use Rattle.meson_splice.specs.declared.file_set.File.{File}
use Rattle.meson_splice.proofs.Sets.{bytes_at-get_or}
use Rattle.meson_ranges.specs.Files.{AreFileEdits, AreRangedEdits, differing, equal}
use Rattle.meson_ranges.specs.declared.files.FileEdits.{FileEdits}
use Rattle.meson_ranges.proofs.Runs.{no_difference, some_difference}

pub same_bytes : (xs ys : List ℕ) → not (bytes_eq xs ys) ≡ false → xs ≡ ys
same_bytes xs ys is = (bytes_eq-Decides xs ys).0 (no_difference (bytes_eq xs ys) is)

pub other_bytes : (xs ys : List ℕ) → not (bytes_eq xs ys) ≡ true → xs ≡ ys → ⊥
other_bytes xs ys differ same =
    let one = (bytes_eq-Decides xs ys).1 same in
    let other = some_difference (bytes_eq xs ys) differ in
    let no : ⊥ = cc in
    no

nobody : File
nobody = record { name = []; bytes = [] }

-- the changes so far, whatever the files that are left come to
abbrev pub IsUnderWay : List File → List File → ℕ → List FileEdits → Type 0
IsUnderWay old new i changes = (more : List FileEdits) → AreFileEdits (drop i old) (drop i new) more → AreFileEdits old new (changes ++ more)

both : (old new : List File) (i : ℕ) (more : List FileEdits) → i < length old → i < length new
    → AreFileEdits (get_or old i nobody ∷ drop (i + 1) old) (get_or new i nobody ∷ drop (i + 1) new) more → AreFileEdits (drop i old) (drop i new) more
both old new i more in_old in_new are =
    subst₂ (λ os ns. AreFileEdits os ns more) (sym (drop_more old i nobody in_old)) (sym (drop_more new i nobody in_new)) are

pub one_equal : (old new : List File) (i : ℕ) (changes : List FileEdits) (was now : List ℕ) → i < length old → i < length new
    → was ≡ bytes_at i old → now ≡ bytes_at i new → was ≡ now → IsUnderWay old new i changes → IsUnderWay old new (i + 1) changes
one_equal old new i changes was now in_old in_new is_was is_now same so_far more rest =
    let o = get_or old i nobody in
    let n = get_or new i nobody in
    let bytes : o.bytes ≡ n.bytes = bytes_at-get_or old i nobody in_old ∙ sym is_was ∙ same ∙ is_now ∙ sym (bytes_at-get_or new i nobody in_new) in
    so_far more (both old new i more in_old in_new (equal o n (drop (i + 1) old) (drop (i + 1) new) more bytes rest))

pub one_differs : (old new : List File) (i : ℕ) (changes : List FileEdits) (change : FileEdits) (was now : List ℕ) → i < length old → i < length new
    → was ≡ bytes_at i old → now ≡ bytes_at i new → (was ≡ now → ⊥) → ((d : File) → change.name.now ≡ (get_or old i d).name)
    → AreRangedEdits was now change.edits.items → IsUnderWay old new i changes → IsUnderWay old new (i + 1) (changes ++ change ∷ [])
one_differs old new i changes change was now in_old in_new is_was is_now differ is_name are so_far more rest =
    let o = get_or old i nobody in
    let n = get_or new i nobody in
    let same_was : was ≡ o.bytes = is_was ∙ sym (bytes_at-get_or old i nobody in_old) in
    let same_now : now ≡ n.bytes = is_now ∙ sym (bytes_at-get_or new i nobody in_new) in
    let here = subst₂ (λ w b. AreRangedEdits w b change.edits.items) same_was same_now are in
    let apart : o.bytes ≡ n.bytes → ⊥ = λ same. differ (same_was ∙ same ∙ sym same_now) in
    subst (AreFileEdits old new) (sym (append_assoc changes (change ∷ []) more))
    (so_far (change ∷ more) (both old new i (change ∷ more) in_old in_new
    (differing o n (drop (i + 1) old) (drop (i + 1) new) change more apart (is_name nobody) here rest)))
