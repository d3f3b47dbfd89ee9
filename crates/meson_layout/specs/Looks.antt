-- Looks at the items beside an element or a statement. Each answers with a number of items, or says that there are none such. What is before an element is
-- looked at backwards: the nearest item first.
use Rattle.std.specs.Prelude.{ℕ, suc, ◌+◌, ◌-◌, Bool, true, false, ◌&&◌, List, [], ◌∷◌, length, take, drop, reverse, if◌then◌else◌, Option, Some, None}
use Rattle.std.specs.List.{list_all, prefix_len}
use Rattle.meson_lex.specs.declared.kinds.Kind.{Kind}
use Rattle.meson_lex.specs.declared.kinds.Kind.TheVariants.{Blank, LineEnd, Comment, Continuation, Comma, CloseRound, CloseSquare, CloseCurly}
use Rattle.meson_lex.specs.Items.{Lexeme}

-- ---- kinds

abbrev pub is_blank_kind : Kind → Bool
is_blank_kind Blank = true
is_blank_kind _ = false

-- a continuation is not a line end
abbrev pub is_line_end : Kind → Bool
is_line_end LineEnd = true
is_line_end _ = false

abbrev pub is_comment : Kind → Bool
is_comment Comment = true
is_comment _ = false

abbrev pub is_comma : Kind → Bool
is_comma Comma = true
is_comma _ = false

abbrev pub is_closing : Kind → Bool
is_closing CloseRound = true
is_closing CloseSquare = true
is_closing CloseCurly = true
is_closing _ = false

-- what is not a token inside brackets
abbrev pub is_gap : Kind → Bool
is_gap Blank = true
is_gap LineEnd = true
is_gap Comment = true
is_gap Continuation = true
is_gap _ = false

abbrev pub is_white : Kind → Bool
is_white Blank = true
is_white LineEnd = true
is_white _ = false

-- the first item is of such a kind
abbrev pub first_is : (Kind → Bool) → List Lexeme → Bool
first_is test [] = false
first_is test (x ∷ xs) = test x.kind

-- 1, if the first item is of such a kind
abbrev pub one_if : (Kind → Bool) → List Lexeme → ℕ
one_if test xs = if first_is test xs then 1 else 0

-- all but the last n, and the last n
abbrev pub but_last : ℕ → List Lexeme → List Lexeme
but_last n xs = take (length xs - n) xs

abbrev pub last_few : ℕ → List Lexeme → List Lexeme
last_few n xs = drop (length xs - n) xs

-- ---- lines

-- The number of items between a line end and what follows it: none, or one blank. (Nearest first.)
abbrev pub line_near : List Lexeme → Option ℕ
line_near [] = None
line_near (x ∷ xs) = if is_line_end x.kind then Some 0 else (if is_blank_kind x.kind && first_is is_line_end xs then Some 1 else None)

abbrev pub line_before : List Lexeme → Option ℕ
line_before left = line_near (reverse left)

-- The number of items that end a line: nothing or one blank, and a line end.
abbrev pub line_behind : List Lexeme → Option ℕ
line_behind right =
    let n = one_if is_blank_kind right in
    if first_is is_line_end (drop n right) then Some (suc n) else None

-- The number of items before the line end of this line, if these are at most a blank and a comment.
abbrev pub note_len : List Lexeme → Option ℕ
note_len right =
    let n = one_if is_blank_kind right in
    let m = one_if is_comment (drop n right) in
    if first_is is_line_end (drop m (drop n right)) then Some (n + m) else None

abbrev pub more_by : ℕ → Option ℕ → Option ℕ
more_by n None = None
more_by n (Some m) = Some (n + m)

-- The same, if a comma is before these, with at most a blank before it.
abbrev pub comma_note_len : List Lexeme → Option ℕ
comma_note_len right =
    let n = one_if is_blank_kind right in
    if first_is is_comma (drop n right) then more_by (n + 1) (note_len (drop 1 (drop n right))) else None

-- a closing bracket follows, and before it at most a blank
abbrev pub closing_follows : List Lexeme → Bool
closing_follows right = first_is is_closing (drop (one_if is_blank_kind right) right)

-- ---- gaps

-- the number of items at the front that are not tokens
abbrev pub gap_len : List Lexeme → ℕ
gap_len xs = prefix_len (λ (x : Lexeme). is_gap x.kind) xs

abbrev pub all_white : List Lexeme → Bool
all_white xs = list_all (λ (x : Lexeme). is_white x.kind) xs

-- nothing, or one blank
abbrev pub at_most_blank : List Lexeme → Bool
at_most_blank [] = true
at_most_blank (x ∷ []) = is_blank_kind x.kind
at_most_blank (x ∷ y ∷ ys) = false
