-- The edits that make one text of another.
use Rattle.std.specs.Prelude.{◌≡◌, ◌≢◌, ◌⊎◌, ℕ, ◌+◌, ◌-◌, ◌≤◌, List, [], ◌∷◌, ◌++◌, bytes_eq, drop, if◌then◌else◌, length, take}
use Rattle.std.specs.List.{All}
use Rattle.meson_diff.specs.Alignment.{IsAlignment, KeepsEnds, is_changed, is_new, is_old}
use Rattle.meson_diff.specs.Changes.{AreChanges}
use Rattle.meson_diff.specs.declared.entry.Entry.{Entry}
use Rattle.meson_ranges.specs.Trimming.{IsTrimmed, TextEdit}

-- ---- which edits there are

-- the bytes of an entry in the old text, and in the new one
abbrev pub old_part : Entry → List ℕ
old_part e = if is_old e.mark then e.line else []

abbrev pub new_part : Entry → List ℕ
new_part e = if is_new e.mark then e.line else []

-- the edit of a run of changed lines, where they differ
abbrev pub whole_edit : ℕ → List ℕ → List ℕ → List TextEdit
whole_edit at was now = if bytes_eq was now then [] else record { at = at; was = was; now = now } ∷ []

-- The edits of the entries, one for each run of changed lines between two kept ones. The entries before these end with a run
-- that begins at that offset of the old text; so far these bytes of it are removed, and those are added.
abbrev pub whole_edits_from : ℕ → List ℕ → List ℕ → List Entry → List TextEdit
whole_edits_from at was now [] = whole_edit at was now
whole_edits_from at was now (e ∷ entries) = if is_changed e.mark
    then whole_edits_from at (was ++ old_part e) (now ++ new_part e) entries
    else whole_edit at was now ++ whole_edits_from (at + length was + length e.line) [] [] entries

abbrev pub whole_edits : List Entry → List TextEdit
whole_edits entries = whole_edits_from 0 [] [] entries

-- each edit is the whole one in its place without the ends that both of its texts share
pub data AreTrimmed : List TextEdit → List TextEdit → Type 0 where
  no_edits : AreTrimmed [] []
  one_more : (whole edit : TextEdit) (wholes edits : List TextEdit) → IsTrimmed whole edit → AreTrimmed wholes edits
      → AreTrimmed (whole ∷ wholes) (edit ∷ edits)

-- The edits are those of an alignment which keeps the lines at both ends and shows what differs as changes.
pub record AreEditsOf (old new : List ℕ) (edits : List TextEdit) : Type 0 where
  pub entries : List Entry
  pub aligned : IsAlignment old new entries
  pub ends : KeepsEnds entries
  pub changes : AreChanges entries
  pub trimmed : AreTrimmed (whole_edits entries) edits

-- there are none where the two texts are equal
abbrev pub AreEdits : List ℕ → List ℕ → List TextEdit → Type 0
AreEdits old new edits = ((old ≡ new) × (edits ≡ [])) ⊎ ((old ≢ new) × AreEditsOf old new edits)

-- the edits after the ones before are those of these whole ones
pub record AddsEdits (wholes before after : List TextEdit) : Type 0 where
  pub more : List TextEdit
  pub trimmed : AreTrimmed wholes more
  pub added : after ≡ before ++ more

-- ---- what edits make

-- what a text becomes that begins at that offset: the bytes of each edit are replaced
abbrev pub made_from : ℕ → List TextEdit → List ℕ → List ℕ
made_from at [] text = text
made_from at (e ∷ edits) text =
    take (e.at - at) text ++ (e.now ++ made_from (e.at + length e.was) edits (drop (e.at - at + length e.was) text))

abbrev pub made_by : List TextEdit → List ℕ → List ℕ
made_by edits text = made_from 0 edits text

-- the bytes that an edit removes are in the text, at its offset
pub record IsThere (text : List ℕ) (e : TextEdit) : Type 0 where
  pub within : e.at + length e.was ≤ length text
  pub same : take (length e.was) (drop e.at text) ≡ e.was

-- the first edit is at that offset or after it, and each other one is after the end of the one before it, with a byte in between
abbrev pub AreApart : ℕ → List TextEdit → Type 0
AreApart from [] = Unit {0}
AreApart from (e ∷ edits) = (from ≤ e.at) × AreApart (e.at + length e.was + 1) edits

-- the edits make the new text of the old one
pub record Make (old new : List ℕ) (edits : List TextEdit) : Type 0 where
  pub made : made_by edits old ≡ new
  pub apart : AreApart 0 edits
  pub there : All (IsThere old) edits
