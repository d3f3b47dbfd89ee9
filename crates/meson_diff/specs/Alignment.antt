-- Alignments of two texts: each line is kept, removed or added.
use Rattle.std.specs.Prelude.{◌≡◌, ℕ, ◌+◌, ◌<◌, Bool, true, false, List, [], ◌∷◌, ◌++◌, filter, get_or, length, map}
use Rattle.meson_diff.specs.Lines.{lines}
use Rattle.meson_diff.specs.declared.entry.Entry.{Entry}
use Rattle.meson_diff.specs.declared.entry.Mark.{Mark}
use Rattle.meson_diff.specs.declared.entry.Mark.TheVariants.{Kept, Gone, Come}

-- whether a line of that mark is one of the old text
abbrev pub is_old : Mark → Bool
is_old Kept = true
is_old Gone = true
is_old Come = false

-- whether it is a line of the new text
abbrev pub is_new : Mark → Bool
is_new Kept = true
is_new Gone = false
is_new Come = true

abbrev pub is_changed : Mark → Bool
is_changed Kept = false
is_changed Gone = true
is_changed Come = true

-- the lines of the old text: those that are kept or removed, in order
abbrev pub old_lines : List Entry → List (List ℕ)
old_lines entries = map (λ e. e.line) (filter (λ e. is_old e.mark) entries)

-- the lines of the new text: those that are kept or added, in order
abbrev pub new_lines : List Entry → List (List ℕ)
new_lines entries = map (λ e. e.line) (filter (λ e. is_new e.mark) entries)

-- the entries are the lines of both texts
pub record IsAlignment (old new : List ℕ) (entries : List Entry) : Type 0 where
  pub of_old : old_lines entries ≡ lines old
  pub of_new : new_lines entries ≡ lines new

-- ---- how one is made

-- these lines, all of that mark
abbrev pub marked : Mark → List (List ℕ) → List Entry
marked mark these = map (λ line. record { mark = mark; line = line }) these

-- after this number of lines of each, both texts continue with one line
pub record IsMeeting (old new : List (List ℕ)) (gone come : ℕ) : Type 0 where
  pub in_old : gone < length old
  pub in_new : come < length new
  pub one_line : (d : List ℕ) → get_or old gone d ≡ get_or new come d

-- ---- what is kept

-- the two do not begin with one line
abbrev pub BeginApart : List (List ℕ) → List (List ℕ) → Type 0
BeginApart old new = (line : List ℕ) (os ns : List (List ℕ)) → old ≡ line ∷ os → new ≡ line ∷ ns → ⊥

-- nor end with one
abbrev pub EndApart : List (List ℕ) → List (List ℕ) → Type 0
EndApart old new = (line : List ℕ) (os ns : List (List ℕ)) → old ≡ os ++ line ∷ [] → new ≡ ns ++ line ∷ [] → ⊥

-- of the first 65 lines of each, no line of the one text is a line of the other
abbrev pub NoneOfBoth : List (List ℕ) → List (List ℕ) → Type 0
NoneOfBoth old new = (i j : ℕ) → i < 65 → j < 65 → IsMeeting old new i j → ⊥

-- of the first 65 lines of each, none is one of both after fewer lines in all than this number
abbrev pub NoneNearer : List (List ℕ) → List (List ℕ) → ℕ → Type 0
NoneNearer old new distance = (i j : ℕ) → i < 65 → j < 65 → i + j < distance → IsMeeting old new i j → ⊥

-- The next line of both texts that is kept is always the nearest. Of the first 65 lines of each, none is one of both after fewer lines in all. If none is kept
-- any more, none of these is one of both.
pub data KeepsNearest : List Entry → Type 0 where
  none_left : (gone come : List (List ℕ)) → NoneOfBoth gone come → KeepsNearest (marked Gone gone ++ marked Come come)
  nearest : (gone come : List (List ℕ)) (line : List ℕ) (behind : List Entry)
      → NoneNearer (gone ++ line ∷ old_lines behind) (come ++ line ∷ new_lines behind) (length gone + length come) → KeepsNearest behind
      → KeepsNearest (marked Gone gone ++ (marked Come come ++ (marked Kept (line ∷ []) ++ behind)))

-- The lines with which both texts end are kept, and of those before them the ones with which both begin.
-- What is between them neither begins nor ends with one line of both; of its lines the nearest ones are kept.
pub record KeepsEnds (entries : List Entry) : Type 0 where
  pub head : List (List ℕ)
  pub between : List Entry
  pub tail : List (List ℕ)
  pub parts : entries ≡ marked Kept head ++ (between ++ marked Kept tail)
  pub begin_apart : BeginApart (old_lines between) (new_lines between)
  pub end_apart : EndApart (old_lines between) (new_lines between)
  pub nearest : KeepsNearest between

-- ---- how they are kept

-- followed by any entries of these lines that keep the nearest ones, these entries keep them too
abbrev pub GoOn : List (List ℕ) → List (List ℕ) → List Entry → Type 0
GoOn old new entries = (behind : List Entry) → old_lines behind ≡ old → new_lines behind ≡ new → KeepsNearest behind → KeepsNearest (entries ++ behind)
