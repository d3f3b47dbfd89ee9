-- What holds of edits.
use Rattle.std.specs.Prelude.{ℕ, ◌+◌, List, length}
use Rattle.std.specs.List.{All}
use Rattle.std.specs.Str.{IsUtf8}
use Rattle.meson_ranges.specs.Edits.{AreEdits, Make}
use Rattle.meson_ranges.specs.Trimming.{KeepsLineEnd, TextEdit}

-- the edits of two texts make the second of the first
abbrev pub EditsMake : Type 0
EditsMake = (old new : List ℕ) (edits : List TextEdit) → AreEdits old new edits → Make old new edits

-- where both texts are UTF-8, so is what each edit removes, and what it inserts
abbrev pub EditsAreUtf8 : Type 0
EditsAreUtf8 = (old new : List ℕ) (edits : List TextEdit) → AreEdits old new edits → IsUtf8 old → IsUtf8 new
    → All (λ e. IsUtf8 e.was × IsUtf8 e.now) edits

-- no edit begins or ends between the two bytes of a line end CR LF
abbrev pub EditsKeepLineEnds : Type 0
EditsKeepLineEnds = (old new : List ℕ) (edits : List TextEdit) → AreEdits old new edits
    → All (λ e. KeepsLineEnd old e.at × KeepsLineEnd old (e.at + length e.was)) edits
