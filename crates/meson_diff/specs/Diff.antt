-- The diff of files.
use Rattle.std.specs.Prelude.{◌≡◌, ◌≢◌, ◌⊎◌, ℕ, List, [], ◌∷◌, ◌++◌, ◌==◌, if◌then◌else◌, codes}
use Rattle.std.specs.List.{list_any}
use Rattle.meson_splice.specs.declared.file_set.File.{File}
use Rattle.meson_diff.specs.Alignment.{IsAlignment, KeepsEnds}
use Rattle.meson_diff.specs.Changes.{AreChanges}
use Rattle.meson_diff.specs.Hunks.{hunks_text}
use Rattle.meson_diff.specs.declared.entry.Entry.{Entry}

-- after a name that has a space there is a tab
abbrev pub name_end : List ℕ → List ℕ
name_end name = if list_any (λ b. b == 32) name then codes "\t" else []

-- the two lines above the hunks of a file
abbrev pub file_head : List ℕ → List ℕ
file_head name = codes "--- a/" ++ (name ++ (name_end name ++ (codes "\n+++ b/" ++ (name ++ (name_end name ++ codes "\n")))))

-- the text is that of some alignment of the file's two texts which keeps the lines at both ends and shows what differs as changes
pub record IsPrinted (name old new text : List ℕ) : Type 0 where
  pub entries : List Entry
  pub aligned : IsAlignment old new entries
  pub ends : KeepsEnds entries
  pub changes : AreChanges entries
  pub printed : text ≡ file_head name ++ hunks_text entries

-- nothing if the two texts are the same
abbrev pub IsFileDiff : List ℕ → List ℕ → List ℕ → List ℕ → Type 0
IsFileDiff name old new text = ((old ≡ new) × (text ≡ [])) ⊎ ((old ≢ new) × IsPrinted name old new text)

-- the diffs of the files, in order
pub data IsDiff : List File → List File → List ℕ → Type 0 where
  no_files : IsDiff [] [] []
  files : (o n : File) (old new : List File) (text more : List ℕ) → IsFileDiff o.name o.bytes n.bytes text → IsDiff old new more
      → IsDiff (o ∷ old) (n ∷ new) (text ++ more)
