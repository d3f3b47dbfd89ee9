-- Where whole lines are inserted, by the items beside a statement. What is before it is looked at backwards: the nearest item first.
use Rattle.std.specs.Prelude.{ℕ, ◌+◌, ◌-◌, not, ◌&&◌, List, [], ◌∷◌, length, take, drop, reverse, if◌then◌else◌}
use Rattle.std.specs.List.{prefix_len}
use Rattle.meson_lex.specs.Items.{Lexeme}
use Rattle.meson_layout.specs.Looks.{is_blank_kind, is_comment, is_line_end, first_is, one_if, but_last}
use Rattle.meson_layout.specs.Pieces.{Piece, Keep, Change}
use Rattle.meson_layout.specs.Statements.{at_line_start, line_end_of}

-- the number of items before the next line end, in either direction
abbrev pub in_line_len : List Lexeme → ℕ
in_line_len xs = prefix_len (λ (x : Lexeme). not (is_line_end x.kind)) xs

-- the number of items of the rest of a line, with its line end
abbrev pub rest_of_line_len : List Lexeme → ℕ
rest_of_line_len right = let n = in_line_len right in if first_is is_line_end (drop n right) then n + 1 else n

-- The number of items of the comment line that ends here, nearest first, and 0 if there is no such line.
abbrev pub comment_line_len : List Lexeme → ℕ
comment_line_len (end ∷ note ∷ xs) =
    let n = one_if is_blank_kind xs in
    if is_line_end end.kind && is_comment note.kind then (if at_line_start (drop n xs) then n + 2 else 0) else 0
comment_line_len _ = 0

-- The number of items of the comment lines that end here, nearest first. Such a line is a comment, with at most a blank before it, and its line end.
abbrev pub comment_lines_len : List Lexeme → ℕ
comment_lines_len [] = 0
comment_lines_len (end ∷ []) = 0
comment_lines_len (end ∷ note ∷ []) = if is_line_end end.kind && is_comment note.kind then 2 else 0
comment_lines_len (end ∷ note ∷ x ∷ xs) =
    if is_line_end end.kind && is_comment note.kind then
    (if is_line_end x.kind then 2 + comment_lines_len (x ∷ xs)
    else (if is_blank_kind x.kind && at_line_start xs then 3 + comment_lines_len xs else 0))
    else 0

-- the number of items before the line on which a statement begins, and before the comment lines directly above that line
abbrev pub above_len : (left : List Lexeme) → ℕ
above_len left =
    let before = but_last (in_line_len (reverse left)) left in
    length before - comment_lines_len (reverse before)

-- the number of items up to the end of the line on which a statement ends
abbrev pub below_len : (left own right : List Lexeme) → ℕ
below_len left own right = length left + (length own + rest_of_line_len right)

-- New lines after n items, with a line end before them if those do not end their line.
unfoldable pub lines_after : ℕ → List Lexeme → List Lexeme → List Piece
lines_after n items new =
    Keep (take n items) ∷ Change [] (if at_line_start (reverse (take n items)) then new else line_end_of items ∷ new) ∷ Keep (drop n items) ∷ []
