-- Which blank lines are removed along with a statement, by the items before the line on which it begins and those after the line on which it ends.
use Rattle.std.specs.Prelude.{ℕ, ◌-◌, ◌==◌, Bool, not, ◌&&◌, ◌||◌, List, length, drop, reverse, take, if◌then◌else◌}
use Rattle.std.specs.List.{prefix_len}
use Rattle.meson_lex.specs.Items.{Lexeme}
use Rattle.meson_layout.specs.declared.primitive.BlankLines.{BlankLines}
use Rattle.meson_layout.specs.declared.primitive.BlankLines.TheVariants as blank
use Rattle.meson_layout.specs.declared.removal.Growth.{Growth}
use Rattle.meson_layout.specs.LineSpots.{comment_line_len, rest_of_line_len}
use Rattle.meson_layout.specs.Looks.{but_last, first_is, is_blank_kind, is_comment, is_white, last_few, one_if}

-- the number of blanks and line ends at the front
abbrev pub white_len : List Lexeme → ℕ
white_len xs = prefix_len (λ (x : Lexeme). is_white x.kind) xs

-- The number of items of the blank lines directly above a line. The line end of a line with text is not among them.
abbrev pub blank_above_len : (before : List Lexeme) → ℕ
blank_above_len before =
    let n = white_len (reverse before) in
    if n == length before then n else n - rest_of_line_len (last_few n before)

-- The number of items of the blank lines directly below a line. The blank with which a line with text begins is not among them.
abbrev pub blank_below_len : (behind : List Lexeme) → ℕ
blank_below_len behind =
    let n = white_len behind in
    if n == length behind then n else n - one_if is_blank_kind (reverse (take n behind))

-- whether a comment line ends there, and whether one begins there
abbrev pub ends_with_note : (before : List Lexeme) → Bool
ends_with_note before = not (comment_line_len (reverse before) == 0)

abbrev pub begins_with_note : (behind : List Lexeme) → Bool
begins_with_note behind = first_is is_comment (drop (one_if is_blank_kind behind) behind)

-- The blank lines below go if some are above too, or if nothing is above or below in the block; those above if nothing is below. A comment on a line of its own is
-- something in the block.
abbrev pub trimmed_by : (above below : ℕ) (is_first is_last : Bool) → Growth
trimmed_by above below is_first is_last = record {
  before = if is_last then above else 0;
  behind = if not (above == 0) || (is_first || is_last) then below else 0;
}

abbrev pub trimmed : (first last : Bool) (before behind : List Lexeme) → Growth
trimmed first last before behind =
    let above = blank_above_len before in
    let below = blank_below_len behind in
    trimmed_by above below (first && not (ends_with_note (but_last above before))) (last && not (begins_with_note (drop below behind)))

-- the numbers of items of the blank lines that go
abbrev pub blank_growth : BlankLines → (before behind : List Lexeme) → Growth
blank_growth blank.Stay before behind = record { before = 0; behind = 0 }
blank_growth (blank.Trim first last) before behind = trimmed first last before behind
