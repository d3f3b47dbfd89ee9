-- The edits of the files that differ make the new files of the old ones.
use Rattle.std.proofs.Common.{◌≡◌, ◌≢◌, ℕ, suc, ◌<◌, true, false, cond, List, [], ◌∷◌, get_or, length, map, refl, ap, ap₂, sym, ◌∙◌, arith}
use Rattle.std.specs.List.{All}
use Rattle.std.specs.Prelude.{bytes_eq}
use Rattle.std.proofs.lemmas.List.Elements.{All-head, All-tail}
use Rattle.std.proofs.lemmas.Slice.Eq.{bytes_eq-Decides}
use Rattle.meson_splice.specs.Files.{IsDistinct}
use Rattle.meson_splice.specs.declared.file_set.File.{File}
use Rattle.meson_ranges.specs.Edits.{made_by}
use Rattle.meson_ranges.specs.FileLaws.{FileEditsMake, edits_for, with_edits}
use Rattle.meson_ranges.specs.Files.{AreFileEdits, AreRangedEdits, differing, equal, no_files}
use Rattle.meson_ranges.specs.Ranges.{ranged}
use Rattle.meson_ranges.specs.Trimming.{TextEdit}
use Rattle.meson_ranges.specs.declared.files.FileEdits.{FileEdits}
use Rattle.meson_ranges.proofs.Making.{edits_make}

-- ---- files of different names

others : (f : File) (files : List File) → IsDistinct (f ∷ files) → All (λ g. f.name ≢ g.name) files
others f files distinct = λ k d within. distinct 0 (suc k) d (omega arith) (omega arith)

others_distinct : (f : File) (files : List File) → IsDistinct (f ∷ files) → IsDistinct files
others_distinct f files distinct = λ i j d order within. distinct (suc i) (suc j) d (omega arith) (omega arith)

unlike : (xs ys : List ℕ) → (xs ≡ ys → ⊥) → bytes_eq xs ys ≡ false
unlike xs ys differ = (elim (bytes_eq xs ys) as (λ b. bytes_eq xs ys ≡ b → b ≡ false) [
  | true ↦ λ e. absurd (differ ((bytes_eq-Decides xs ys).0 e))
  | false ↦ λ e. refl
]) refl

alike : (xs ys : List ℕ) → xs ≡ ys → bytes_eq xs ys ≡ true
alike xs ys same = (bytes_eq-Decides xs ys).1 same

-- no file of other names has an entry
absent : (name : List ℕ) (old new : List File) (changes : List FileEdits) → All (λ g. name ≢ g.name) old → AreFileEdits old new changes
    → edits_for name changes ≡ []
absent name _ _ _ apart no_files = refl
absent name _ _ _ apart (equal o n old new changes same rest) = absent name old new changes (All-tail (λ g. name ≢ g.name) o old apart) rest
absent name _ _ _ apart (differing o n old new change changes differ named are rest) =
    let other = All-head (λ g. name ≢ g.name) o old apart in
    ap (λ b. cond b (map (λ r. r.edit) change.edits.items) (edits_for name changes)) (unlike change.name.now name (λ same. other (sym same ∙ named)))
    ∙ absent name old new changes (All-tail (λ g. name ≢ g.name) o old apart) rest

-- an entry for another name changes no file
passed : (files : List File) (change : FileEdits) (changes : List FileEdits) → All (λ g. change.name.now ≢ g.name) files
    → map (with_edits (change ∷ changes)) files ≡ map (with_edits changes) files
passed [] change changes apart = refl
passed (f ∷ files) change changes apart =
    let other = unlike change.name.now f.name (All-head (λ g. change.name.now ≢ g.name) f files apart) in
    ap₂ (λ es fs. (let g : File = record { name = f.name; bytes = made_by es f.bytes } in g) ∷ fs)
    (ap (λ b. cond b (map (λ r. r.edit) change.edits.items) (edits_for f.name changes)) other)
    (passed files change changes (All-tail (λ g. change.name.now ≢ g.name) f files apart))

-- ---- one file

without_ranges : (text : List ℕ) (edits : List TextEdit) → map (λ r. r.edit) (map (ranged text) edits) ≡ edits
without_ranges text [] = refl
without_ranges text (e ∷ edits) = ap (λ es. e ∷ es) (without_ranges text edits)

-- a file that differs, with its own edits done
made_new : (o n : File) (change : FileEdits) (changes : List FileEdits) → o.name ≡ n.name → change.name.now ≡ o.name
    → AreRangedEdits o.bytes n.bytes change.edits.items → with_edits (change ∷ changes) o ≡ n
made_new o n change changes names named are =
    let own = ap (λ b. cond b (map (λ r. r.edit) change.edits.items) (edits_for o.name changes)) (alike change.name.now o.name named) in
    let bare = ap (map (λ r. r.edit)) are.with_ranges ∙ without_ranges o.bytes are.edits in
    let makes = edits_make o.bytes n.bytes are.edits are.are in
    ap₂ (λ a b. let f : File = record { name = a; bytes = b } in f) names (ap (λ es. made_by es o.bytes) (own ∙ bare) ∙ makes.made)

-- a file without edits
kept_new : (o n : File) (changes : List FileEdits) → o.name ≡ n.name → o.bytes ≡ n.bytes → edits_for o.name changes ≡ [] → with_edits changes o ≡ n
kept_new o n changes names same none =
    ap₂ (λ a b. let f : File = record { name = a; bytes = b } in f) names (ap (λ es. made_by es o.bytes) none ∙ same)

-- ---- the law

pub file_edits_make : FileEditsMake
file_edits_make _ _ _ distinct names no_files = refl
file_edits_make _ _ _ distinct names (equal o n old new changes same rest) =
    let first : o.name ≡ n.name = cc in
    let more : map (λ f. f.name) old ≡ map (λ f. f.name) new = cc in
    ap₂ (λ f fs. f ∷ fs) (kept_new o n changes first same (absent o.name old new changes (others o old distinct) rest))
    (file_edits_make old new changes (others_distinct o old distinct) more rest)
file_edits_make _ _ _ distinct names (differing o n old new change changes differ named are rest) =
    let first : o.name ≡ n.name = cc in
    let more : map (λ f. f.name) old ≡ map (λ f. f.name) new = cc in
    let apart = λ (k : ℕ) (d : File) (within : k < length old). λ (same : change.name.now ≡ (get_or old k d).name). others o old distinct k d within (sym named ∙ same) in
    ap₂ (λ f fs. f ∷ fs) (made_new o n change changes first named are)
    (passed old change changes apart ∙ file_edits_make old new changes (others_distinct o old distinct) more rest)
