-- The items of a text as a function: the item at the front, and then the rest. `Items` has what is said of it.
use Rattle.std.specs.Prelude.{ℕ, zero, suc, ◌+◌, ◌==◌, not, List, [], ◌∷◌, length, take, drop, if◌then◌else◌, Option, Some, None, option_map, Result, Ok, Err, bytes_eq}
use Rattle.std.specs.List.{prefix_len}
use Rattle.meson_lex.specs.declared.kinds.Item.{Item}
use Rattle.meson_lex.specs.declared.kinds.Kind.{Kind}
use Rattle.meson_lex.specs.declared.kinds.Kind.TheVariants.{Blank, LineEnd, Comment, Continuation, Identifier, Integer, PlainString, FormatString, OpenRound, CloseRound, OpenSquare, CloseSquare, OpenCurly, CloseCurly, Comma, Dot, Colon, Question, Minus, Star, Slash, Percent, Plus, Assign, Less, Greater, PlusAssign, Equal, NotEqual, LessEqual, GreaterEqual}
use Rattle.meson_lex.specs.declared.fault.LexFault.{LexFault}
use Rattle.meson_lex.specs.declared.fault.LexFault.TheVariants.{StrayByte, OpenString, BadNumber, BareCarriageReturn}
use Rattle.meson_lex.specs.Bytes.{is_blank, is_line_byte, is_digit, is_word_start, is_word_byte, is_equals, is_line_feed, begins, begins_three_quotes, begins_bare_return, first_bare_return}
use Rattle.meson_lex.specs.Kinds.{is_integer, opener, spelling, reserved}
use Rattle.meson_lex.specs.Faults.{opened_string}

-- a kind and a length, or a fault
abbrev pub Front : Type 0
Front = Result (Kind × ℕ) LexFault

-- the number of bytes after a quote, up to the closing one and with it
abbrev pub quoted_len : List ℕ → Option ℕ
quoted_len [] = None
quoted_len (b ∷ []) = if b == 39 then Some 1 else None
quoted_len (b ∷ c ∷ bs) = if b == 39 then Some 1 else (if b == 92 then option_map (λ n. n + 2) (quoted_len bs)
    else option_map (λ n. n + 1) (quoted_len (c ∷ bs)))

-- the first kind in the list with this spelling
abbrev pub kind_among : List Kind → List ℕ → Kind
kind_among [] text = Identifier
kind_among (k ∷ ks) text = if bytes_eq text (spelling k) then k else kind_among ks text

abbrev pub word_kind : List ℕ → Kind
word_kind text = kind_among reserved text

unfoldable pub word_front : List ℕ → Front
word_front bytes =
    let n = prefix_len is_word_byte bytes in
    Ok (word_kind (take n bytes), n)

unfoldable pub number_front : ℕ → List ℕ → Front
number_front at bytes =
    let n = prefix_len is_word_byte bytes in
    if is_integer (take n bytes) then Ok (Integer, n) else Err (BadNumber at)

-- a comment of n bytes, and what follows it
abbrev pub comment_of : ℕ → ℕ → List ℕ → Front
comment_of at n rest = if begins_bare_return rest then Err (BareCarriageReturn (at + n)) else Ok (Comment, n)

unfoldable pub comment_front : ℕ → List ℕ → Front
comment_front at bytes =
    let n = prefix_len (λ b. not (is_line_byte b)) bytes in
    comment_of at n (drop n bytes)

-- n bytes of a comment at the front, or none
abbrev pub comment_len : List ℕ → ℕ
comment_len [] = 0
comment_len (b ∷ bs) = if b == 35 then prefix_len (λ c. not (is_line_byte c)) (b ∷ bs) else 0

-- a backslash, blanks and a comment have n bytes, and what follows them
abbrev pub continuation_of : ℕ → ℕ → List ℕ → Front
continuation_of at n [] = Err (StrayByte at)
continuation_of at n (b ∷ bs) =
    if b == 10 then Ok (Continuation, n + 1)
    else (if b == 13 then (if begins is_line_feed bs then Ok (Continuation, n + 2) else Err (BareCarriageReturn (at + n))) else Err (StrayByte at))

-- bs follow a backslash
unfoldable pub continuation_front : ℕ → List ℕ → Front
continuation_front at bs =
    let m = prefix_len is_blank bs in
    let n = comment_len (drop m bs) in
    continuation_of at (1 + (m + n)) (drop n (drop m bs))

-- the fault of a bare CR, if there is one
abbrev pub unless_bare : ℕ → Option ℕ → Front → Front
unless_bare at None found = found
unless_bare at (Some k) found = Err (BareCarriageReturn (at + k))

-- the number of bytes after three quotes, up to the first three quotes and with them
abbrev pub tripled_len : List ℕ → Option ℕ
tripled_len [] = None
tripled_len (b ∷ bs) = if begins_three_quotes (b ∷ bs) then Some 3 else option_map (λ n. n + 1) (tripled_len bs)

-- the number of bytes after what opens a string
abbrev pub rest_len : Kind → List ℕ → Option ℕ
rest_len PlainString bytes = quoted_len bytes
rest_len FormatString bytes = quoted_len bytes
rest_len _ bytes = tripled_len bytes

-- a string whose rest has n bytes, or one that is not closed
abbrev pub quoted_front : ℕ → Kind → List ℕ → Option ℕ → Front
quoted_front at k bytes None = unless_bare at (first_bare_return bytes) (Err (OpenString at))
quoted_front at k bytes (Some n) = unless_bare at (first_bare_return (take (length (opener k) + n) bytes)) (Ok (k, length (opener k) + n))

unfoldable pub string_front : ℕ → Kind → List ℕ → Front
string_front at k bytes = quoted_front at k bytes (rest_len k (drop (length (opener k)) bytes))

-- the mark that a byte is by itself, and the one that it is with a `=` after it
abbrev pub plain_mark : ℕ → Option Kind
plain_mark b =
    if b == 40 then Some OpenRound else (
    if b == 41 then Some CloseRound else (
    if b == 91 then Some OpenSquare else (
    if b == 93 then Some CloseSquare else (
    if b == 123 then Some OpenCurly else (
    if b == 125 then Some CloseCurly else (
    if b == 44 then Some Comma else (
    if b == 46 then Some Dot else (
    if b == 58 then Some Colon else (
    if b == 63 then Some Question else (
    if b == 45 then Some Minus else (
    if b == 42 then Some Star else (
    if b == 47 then Some Slash else (
    if b == 37 then Some Percent else (
    if b == 43 then Some Plus else (
    if b == 61 then Some Assign else (
    if b == 60 then Some Less else (
    if b == 62 then Some Greater else (
    None))))))))))))))))))

abbrev pub equal_mark : ℕ → Option Kind
equal_mark b =
    if b == 43 then Some PlusAssign else (
    if b == 61 then Some Equal else (
    if b == 33 then Some NotEqual else (
    if b == 60 then Some LessEqual else (
    if b == 62 then Some GreaterEqual else (
    None)))))

abbrev pub plain_front : ℕ → Option Kind → Front
plain_front at None = Err (StrayByte at)
plain_front at (Some k) = Ok (k, 1)

abbrev pub equal_front : ℕ → ℕ → Option Kind → Front
equal_front at b None = plain_front at (plain_mark b)
equal_front at b (Some k) = Ok (k, 2)

unfoldable pub mark_front : ℕ → ℕ → List ℕ → Front
mark_front at b bs = if begins is_equals bs then equal_front at b (equal_mark b) else plain_front at (plain_mark b)

unfoldable pub line_front : ℕ → ℕ → List ℕ → Front
line_front at b bs =
    if b == 10 then Ok (LineEnd, 1)
    else (if begins is_line_feed bs then Ok (LineEnd, 2) else Err (BareCarriageReturn at))

-- what is not a string at the front
unfoldable pub plain : ℕ → ℕ → List ℕ → Front
plain at b bs =
    if is_blank b then Ok (Blank, prefix_len is_blank (b ∷ bs))
    else (if is_line_byte b then line_front at b bs
    else (if b == 35 then comment_front at (b ∷ bs)
    else (if b == 92 then continuation_front at bs
    else (if is_word_start b then word_front (b ∷ bs)
    else (if is_digit b then number_front at (b ∷ bs)
    else mark_front at b bs)))))

-- a string, if one is opened
abbrev pub front_of : ℕ → ℕ → List ℕ → Option Kind → Front
front_of at b bs None = plain at b bs
front_of at b bs (Some k) = string_front at k (b ∷ bs)

-- the item at the front of a text that is not empty and begins at place at
unfoldable pub front : ℕ → List ℕ → Front
front at [] = Err (StrayByte at)
front at (b ∷ bs) = front_of at b bs (opened_string (b ∷ bs))

-- the item at the front, and then what follows it
abbrev pub scan_after : (ℕ → List ℕ → List (Result Item LexFault)) → ℕ → List ℕ → Front → List (Result Item LexFault)
scan_after follow at bytes (Ok found) = Ok (record { kind = found.0; span = record { from = at; to = at + found.1 } })
    ∷ follow (at + found.1) (drop found.1 bytes)
scan_after follow at bytes (Err fault) = Err fault ∷ []

-- the items that follow one another from place at on, for at most this number
abbrev pub scan_within : ℕ → ℕ → List ℕ → List (Result Item LexFault)
scan_within zero at bytes = []
scan_within (suc fuel) at [] = []
scan_within (suc fuel) at (b ∷ bs) = scan_after (scan_within fuel) at (b ∷ bs) (front at (b ∷ bs))

-- the items from place at on
abbrev pub scan : ℕ → List ℕ → List (Result Item LexFault)
scan at bytes = scan_within (length bytes) at bytes
