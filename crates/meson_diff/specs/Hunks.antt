-- The hunks of an alignment, in the unified format of the manual of GNU diffutils ("Detailed Description of Unified Format").
use Rattle.std.specs.Prelude.{ℕ, zero, suc, ◌+◌, ◌-◌, Bool, ◌&&◌, ◌||◌, not, List, [], ◌∷◌, ◌++◌, length, take, drop, slice_range, flat_map, ◌==◌, if◌then◌else◌, codes, decimal}
use Rattle.std.specs.List.{list_any}
use Rattle.meson_diff.specs.Alignment.{is_changed, new_lines, old_lines}
use Rattle.meson_diff.specs.Lines.{is_ended}
use Rattle.meson_diff.specs.declared.entry.Entry.{Entry}
use Rattle.meson_diff.specs.declared.entry.Mark.{Mark}
use Rattle.meson_diff.specs.declared.entry.Mark.TheVariants.{Kept, Gone, Come}

-- ---- which entries they show

-- an entry is shown if it is changed, or one of the three before it or of the three after it is
abbrev pub is_shown : List Entry → ℕ → Bool
is_shown entries i = list_any (λ e. is_changed e.mark) (slice_range entries (i - 3) (i + 1 + 3))

-- a hunk begins with each shown entry before which none is shown
abbrev pub begins_hunk : List Entry → ℕ → Bool
begins_hunk entries i = is_shown entries i && (i == 0 || not (is_shown entries (i - 1)))

-- the number of the `left` entries from entry i on that are shown, up to the first that is not
abbrev pub shown_len : List Entry → ℕ → ℕ → ℕ
shown_len entries i zero = 0
shown_len entries i (suc left) = if is_shown entries i then 1 + shown_len entries (i + 1) left else 0

-- the hunk that begins with entry i: the entries from there up to the first that is not shown
abbrev pub hunk_at : List Entry → ℕ → List Entry
hunk_at entries i = take (shown_len entries i (length entries - i)) (drop i entries)

-- ---- their text

abbrev pub mark_byte : Mark → ℕ
mark_byte Kept = 32
mark_byte Gone = 45
mark_byte Come = 43

-- if a line has no line end, that is said after it
abbrev pub missing_end : List ℕ → List ℕ
missing_end line = if is_ended line then [] else codes "\n\\ No newline at end of file\n"

-- a line after its mark
abbrev pub entry_text : Entry → List ℕ
entry_text e = mark_byte e.mark ∷ (e.line ++ missing_end e.line)

-- the number of the first of `count` lines, if `before` lines are before them; for no lines, that of the line before them
abbrev pub first_line : ℕ → ℕ → ℕ
first_line before count = if count == 0 then before else before + 1

-- the first line of a hunk that has these numbers of lines of each text, with these numbers of lines before them
abbrev pub head_text : ℕ → ℕ → ℕ → ℕ → List ℕ
head_text old_before old_count new_before new_count =
    codes "@@ -" ++ (decimal (first_line old_before old_count) ++ (codes "," ++ (decimal old_count
    ++ (codes " +" ++ (decimal (first_line new_before new_count) ++ (codes "," ++ (decimal new_count ++ codes " @@\n")))))))

-- a hunk after these entries
abbrev pub hunk_text : List Entry → List Entry → List ℕ
hunk_text before hunk =
    head_text (length (old_lines before)) (length (old_lines hunk)) (length (new_lines before)) (length (new_lines hunk)) ++ flat_map entry_text hunk

-- the hunk that begins with entry i, if there is one
abbrev pub hunk_text_at : List Entry → ℕ → List ℕ
hunk_text_at entries i = if begins_hunk entries i then hunk_text (take i entries) (hunk_at entries i) else []

-- the hunks that begin with one of the first n entries, in order
abbrev pub texts_before : List Entry → ℕ → List ℕ
texts_before entries zero = []
texts_before entries (suc n) = texts_before entries n ++ hunk_text_at entries n

-- all hunks
abbrev pub hunks_text : List Entry → List ℕ
hunks_text entries = texts_before entries (length entries)
