-- What holds of lines, alignments, hunks and diffs.
use Rattle.std.specs.Prelude.{◌≡◌, ◌↔◌, ℕ, zero, suc, ◌+◌, ◌<◌, ◌≤◌, true, false, List, [], ◌∷◌, ◌++◌, ◌==◌, get_or, length, map, slice_range, if◌then◌else◌}
use Rattle.std.specs.List.{concat, list_any}
use Rattle.meson_splice.specs.declared.file_set.File.{File}
use Rattle.meson_diff.specs.Alignment.{IsAlignment, new_lines, old_lines}
use Rattle.meson_diff.specs.Changes.{AreChanges}
use Rattle.meson_diff.specs.Diff.{IsDiff}
use Rattle.meson_diff.specs.Hunks.{begins_hunk, hunk_at, is_shown}
use Rattle.meson_diff.specs.Lines.{lines}
use Rattle.meson_diff.specs.declared.entry.Entry.{Entry}
use Rattle.meson_diff.specs.declared.entry.Mark.TheVariants.{Kept, Gone, Come}

-- Each line but the last ends with a line feed and has no other; the last may have none, and is not empty.
pub data AreLines : List (List ℕ) → Type 0 where
  no_lines : AreLines []
  unended : (b : ℕ) (line : List ℕ) → list_any (λ c. c == 10) (b ∷ line) ≡ false → AreLines ((b ∷ line) ∷ [])
  ended : (line : List ℕ) (more : List (List ℕ)) → list_any (λ c. c == 10) line ≡ false → AreLines more → AreLines ((line ++ 10 ∷ []) ∷ more)

-- the lines of a text are such lines, and join to it
abbrev pub LinesAreTheText : Type 0
LinesAreTheText = (text : List ℕ) → AreLines (lines text) × (concat (lines text) ≡ text)

-- the lines that are kept or removed are the old text, those that are kept or added the new one
abbrev pub TextsAreReadOff : Type 0
TextsAreReadOff = (old new : List ℕ) (entries : List Entry) → IsAlignment old new entries
    → (concat (old_lines entries) ≡ old) × (concat (new_lines entries) ≡ new)

-- no added line is directly before a removed one
abbrev pub GoneBeforeCome : Type 0
GoneBeforeCome = (before behind : List Entry) (first second : Entry) → AreChanges (before ++ (first ∷ second ∷ behind))
    → first.mark ≡ Come → second.mark ≡ Gone → ⊥

-- a diff of files of the same names is empty exactly if no file differs
abbrev pub EmptyMeansEqual : Type 0
EmptyMeansEqual = (old new : List File) (text : List ℕ) → map (λ f. f.name) old ≡ map (λ f. f.name) new → IsDiff old new text
    → (text ≡ []) ↔ (old ≡ new)

-- a hunk is a longest run of shown entries
abbrev pub HunksAreRuns : Type 0
HunksAreRuns = (entries : List Entry) (i : ℕ) → i < length entries → begins_hunk entries i ≡ true
    → ((k : ℕ) → i ≤ k → k < i + length (hunk_at entries i) → is_shown entries k ≡ true)
    × (i + length (hunk_at entries i) < length entries → is_shown entries (i + length (hunk_at entries i)) ≡ false)

-- what is not shown is kept
abbrev pub HiddenAreKept : Type 0
HiddenAreKept = (entries : List Entry) (i : ℕ) (d : Entry) → i < length entries → is_shown entries i ≡ false → (get_or entries i d).mark ≡ Kept

-- the hunk that begins with entry i, or the entry itself if it is not shown
abbrev pub piece : List Entry → ℕ → List Entry
piece entries i = if begins_hunk entries i then hunk_at entries i else (if is_shown entries i then [] else slice_range entries i (i + 1))

-- those of the first n entries
abbrev pub pieces_before : List Entry → ℕ → List Entry
pieces_before entries zero = []
pieces_before entries (suc n) = pieces_before entries n ++ piece entries n

-- the hunks and the entries that are not shown are all entries, each once and in order
abbrev pub HunksHoldAll : Type 0
HunksHoldAll = (entries : List Entry) → pieces_before entries (length entries) ≡ entries

-- the new lines of the hunk that begins with entry i, or the line of the old text there that no hunk shows
abbrev pub patched_piece : List Entry → ℕ → List (List ℕ)
patched_piece entries i =
    if begins_hunk entries i then new_lines (hunk_at entries i) else (if is_shown entries i then [] else old_lines (slice_range entries i (i + 1)))

-- those of the first n entries
abbrev pub patched_before : List Entry → ℕ → List (List ℕ)
patched_before entries zero = []
patched_before entries (suc n) = patched_before entries n ++ patched_piece entries n

-- the old text with the new lines of each hunk in place of its old ones is the new text
abbrev pub PatchedIsNew : Type 0
PatchedIsNew = (entries : List Entry) → patched_before entries (length entries) ≡ new_lines entries
