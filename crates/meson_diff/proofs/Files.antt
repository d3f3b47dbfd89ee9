-- Diffs of several files.
use Rattle.std.proofs.Common.{◌≡◌, ℕ, ◌+◌, ◌<◌, List, [], ◌∷◌, ◌++◌, get_or, length, map, drop, refl, ap, ap₂, subst, subst₂, sym, ◌∙◌, inl, inr}
use Rattle.std.proofs.lemmas.List.{append_assoc, drop_more, length-map}
use Rattle.std.specs.List.{concat}
use Rattle.meson_splice.specs.Files.{bytes_at}
use Rattle.meson_splice.specs.declared.file_set.File.{File}
use Rattle.meson_splice.proofs.Sets.{bytes_at-get_or}
use Rattle.meson_diff.specs.Diff.{IsDiff, IsFileDiff, no_files, files}
use Rattle.meson_diff.specs.Laws.{EmptyMeansEqual, TextsAreReadOff}
use Rattle.meson_diff.proofs.Cuts.{concat-lines}

nobody : File
nobody = record { name = []; bytes = [] }

-- the text so far, whatever the files that are left come to
abbrev pub IsUnderWay : List File → List File → ℕ → List ℕ → Type 0
IsUnderWay old new i text = (more : List ℕ) → IsDiff (drop i old) (drop i new) more → IsDiff old new (text ++ more)

pub as_many : (old new : List File) → map (λ f. f.name) old ≡ map (λ f. f.name) new → length old ≡ length new
as_many old new same = sym (length-map old (λ f. f.name)) ∙ ap length same ∙ length-map new (λ f. f.name)

-- one more file
pub file_more : (old new : List File) (i : ℕ) (text name was now of_file : List ℕ) → i < length old → i < length new
    → ((d : File) → name ≡ (get_or old i d).name) → was ≡ bytes_at i old → now ≡ bytes_at i new → IsFileDiff name was now of_file
    → IsUnderWay old new i text → IsUnderWay old new (i + 1) (text ++ of_file)
file_more old new i text name was now of_file in_old in_new is_name is_was is_now one so_far more rest =
    let o = get_or old i nobody in
    let n = get_or new i nobody in
    let same_was : was ≡ o.bytes = is_was ∙ sym (bytes_at-get_or old i nobody in_old) in
    let same_now : now ≡ n.bytes = is_now ∙ sym (bytes_at-get_or new i nobody in_new) in
    let of_both : IsFileDiff o.name o.bytes n.bytes of_file =
    subst (λ b. IsFileDiff o.name o.bytes b of_file) same_now
    (subst (λ b. IsFileDiff o.name b now of_file) same_was (subst (λ a. IsFileDiff a was now of_file) (is_name nobody) one)) in
    let here = files o n (drop (i + 1) old) (drop (i + 1) new) of_file more of_both rest in
    let there = subst₂ (λ os ns. IsDiff os ns (of_file ++ more)) (sym (drop_more old i nobody in_old)) (sym (drop_more new i nobody in_new)) here in
    subst (IsDiff old new) (sym (append_assoc text of_file more)) (so_far (of_file ++ more) there)

-- ---- laws

pub texts_are_read_off : TextsAreReadOff
texts_are_read_off old new entries aligned =
    (ap concat aligned.of_old ∙ concat-lines old, ap concat aligned.of_new ∙ concat-lines new)

nothing_both : (xs ys : List ℕ) → xs ++ ys ≡ [] → (xs ≡ []) × (ys ≡ [])
nothing_both [] ys e = (refl, e)
nothing_both (x ∷ xs) ys e = absurd (let no : ⊥ = cc in no)

-- a file whose diff is empty is the same
file_equal : (o n : File) (text : List ℕ) → o.name ≡ n.name → IsFileDiff o.name o.bytes n.bytes text → text ≡ [] → o ≡ n
file_equal o n text names (inl same) none = ap₂ (λ a b. let f : File = record { name = a; bytes = b } in f) names same.0
file_equal o n text names (inr differs) none = absurd (let told = sym differs.1.printed ∙ none in let no : ⊥ = cc in no)

file_empty : (o n : File) (text : List ℕ) → o ≡ n → IsFileDiff o.name o.bytes n.bytes text → text ≡ []
file_empty o n text same (inl nothing) = nothing.1
file_empty o n text same (inr differs) = absurd (differs.0 (ap (λ f. f.bytes) same))

all_equal : (old new : List File) (text : List ℕ) → map (λ f. f.name) old ≡ map (λ f. f.name) new → IsDiff old new text → text ≡ [] → old ≡ new
all_equal _ _ _ names no_files none = refl
all_equal _ _ _ names (files o n old new text more one rest) none =
    let both = nothing_both text more none in
    let first : o.name ≡ n.name = cc in
    let others : map (λ f. f.name) old ≡ map (λ f. f.name) new = cc in
    ap₂ (λ f fs. f ∷ fs) (file_equal o n text first one both.0) (all_equal old new more others rest both.1)

all_empty : (old new : List File) (text : List ℕ) → IsDiff old new text → old ≡ new → text ≡ []
all_empty _ _ _ no_files same = refl
all_empty _ _ _ (files o n old new text more one rest) same =
    let first : o ≡ n = cc in
    let others : old ≡ new = cc in
    ap₂ (λ a b. a ++ b) (file_empty o n text first one) (all_empty old new more rest others)

pub empty_means_equal : EmptyMeansEqual
empty_means_equal old new text names diff = (all_equal old new text names diff, all_empty old new text diff)
