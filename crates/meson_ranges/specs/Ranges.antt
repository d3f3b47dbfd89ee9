-- Edits with the ranges that they have in the text as it was.
use Rattle.std.specs.Prelude.{ℕ, ◌+◌, List, length}
use Rattle.meson_ranges.specs.Positions.{position_of}
use Rattle.meson_ranges.specs.Trimming.{TextEdit}
use Rattle.meson_ranges.specs.declared.ranges.Range.{Range}
use Rattle.meson_ranges.specs.declared.ranges.RangedEdit.{RangedEdit}

-- from the position of the first byte of an edit to that after the last one
abbrev pub range_of : List ℕ → TextEdit → Range
range_of text e = record { start = position_of text e.at; end = position_of text (e.at + length e.was) }

abbrev pub ranged : List ℕ → TextEdit → RangedEdit
ranged text e = record { edit = e; range = range_of text e }
