-- What holds of the edits of files.
use Rattle.std.specs.Prelude.{◌≡◌, ℕ, List, [], ◌∷◌, bytes_eq, if◌then◌else◌, map}
use Rattle.std.specs.List.{All}
use Rattle.std.specs.Str.{IsUtf8}
use Rattle.meson_splice.specs.Files.{IsDistinct}
use Rattle.meson_splice.specs.declared.file_set.File.{File}
use Rattle.meson_ranges.specs.Edits.{made_by}
use Rattle.meson_ranges.specs.Files.{AreFileEdits}
use Rattle.meson_ranges.specs.Trimming.{TextEdit}
use Rattle.meson_ranges.specs.declared.files.FileEdits.{FileEdits}

-- the edits of the file of that name: none where it is not among those that differ
abbrev pub edits_for : List ℕ → List FileEdits → List TextEdit
edits_for name [] = []
edits_for name (change ∷ changes) = if bytes_eq change.name.now name then map (λ r. r.edit) change.edits.items else edits_for name changes

-- the file with its edits done
abbrev pub with_edits : List FileEdits → File → File
with_edits changes f = record { name = f.name; bytes = made_by (edits_for f.name changes) f.bytes }

-- the edits of two sets of the same files make the second of the first
abbrev pub FileEditsMake : Type 0
FileEditsMake = (old new : List File) (changes : List FileEdits) → IsDistinct old → map (λ f. f.name) old ≡ map (λ f. f.name) new
    → AreFileEdits old new changes → map (with_edits changes) old ≡ new

-- where all files are UTF-8, so is what each edit removes, and what it inserts
abbrev pub FileEditsAreUtf8 : Type 0
FileEditsAreUtf8 = (old new : List File) (changes : List FileEdits) → AreFileEdits old new changes
    → All (λ f. IsUtf8 f.bytes) old → All (λ f. IsUtf8 f.bytes) new
    → All (λ change. All (λ r. IsUtf8 r.edit.was × IsUtf8 r.edit.now) change.edits.items) changes
