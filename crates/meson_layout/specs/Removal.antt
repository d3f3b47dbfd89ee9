-- What is removed along with an element: `left`, `own` and `right` are the items before, of and after it.
use Rattle.std.specs.Prelude.{ℕ, ◌+◌, List, [], ◌∷◌, ◌++◌, take, drop, reverse, if◌then◌else◌, Option, Some, None}
use Rattle.meson_lex.specs.Items.{Lexeme}
use Rattle.meson_splice.specs.declared.splice.Splice.{Splice}
use Rattle.meson_layout.specs.declared.removal.Growth.{Growth}
use Rattle.meson_layout.specs.Looks.{is_blank_kind, is_comma, first_is, one_if, but_last, last_few, line_before, line_behind, gap_len, all_white, at_most_blank}
use Rattle.meson_layout.specs.Pieces.{Piece, Keep, Change}

-- ---- whole lines

-- The number of items that a removed range takes along before and after it.
abbrev pub grown_by : Option ℕ → Option ℕ → Growth
grown_by (Some n) (Some m) = record { before = n; behind = m }
grown_by (Some n) None = record { before = 0; behind = 0 }
grown_by None o = record { before = 0; behind = 0 }

-- A range may be alone on its lines, but for a blank before and after it. Then it begins after the line end before it and ends after the one that follows it.
abbrev pub grown : List Lexeme → List Lexeme → Growth
grown left right = grown_by (line_before left) (line_behind right)

-- the bytes are removed
abbrev pub gone : List ℕ → ℕ → List ℕ → Splice
gone file at was = record { file = file; at = at; was = was; now = [] }

-- one range is removed
abbrev pub one_gone : Growth → List Lexeme → List Lexeme → List Lexeme → List Piece
one_gone g left range right = Keep (but_last g.before left) ∷ Change (last_few g.before left ++ (range ++ take g.behind right)) []
    ∷ Keep (drop g.behind right) ∷ []

abbrev pub one_range : List Lexeme → List Lexeme → List Lexeme → List Piece
one_range left range right = one_gone (grown left right) left range right

-- Two ranges are removed, and `mid` between them stays. It is more than a blank, so that neither takes along what the other one looks at.
abbrev pub two_gone : Growth → Growth → List Lexeme → List Lexeme → List Lexeme → List Lexeme → List Lexeme → List Piece
two_gone g h left range mid other right =
    let between = but_last h.before mid in
    Keep (but_last g.before left) ∷ Change (last_few g.before left ++ (range ++ take g.behind between)) [] ∷ Keep (drop g.behind between)
    ∷ Change (last_few h.before mid ++ (other ++ take h.behind right)) [] ∷ Keep (drop h.behind right) ∷ []

abbrev pub two_ranges_by : Growth → List Lexeme → List Lexeme → List Lexeme → List Lexeme → List Lexeme → List Piece
two_ranges_by h left range mid other right = two_gone (grown left (but_last h.before mid)) h left range mid other right

abbrev pub two_ranges : List Lexeme → List Lexeme → List Lexeme → List Lexeme → List Lexeme → List Piece
two_ranges left range mid other right = two_ranges_by (grown mid right) left range mid other right

-- ---- the comma that is removed along

-- the number of items of a comma with the blank after it
abbrev pub comma_len : List Lexeme → ℕ
comma_len after = 1 + one_if is_blank_kind (drop 1 after)

abbrev pub comma_behind_by : ℕ → List Lexeme → List Lexeme → List Lexeme → List Lexeme → List Piece
comma_behind_by n left own mid after = if at_most_blank mid then one_range left (own ++ (mid ++ take n after)) (drop n after)
    else two_ranges left own mid (take n after) (drop n after)

-- After the element are `mid`, and then `after`, which begins with a comma. That comma is removed with the blank after it, in one range with the element if at
-- most a blank is between the two.
abbrev pub comma_behind : List Lexeme → List Lexeme → List Lexeme → List Lexeme → List Piece
comma_behind left own mid after = comma_behind_by (comma_len after) left own mid after

-- No comma after it. Before the element are `left`, and then `range`, a comma and `mid`. That comma is removed, in one range with the element if only blanks
-- and line ends are between the two.
abbrev pub comma_before : List Lexeme → List Lexeme → List Lexeme → List Lexeme → List Lexeme → List Piece
comma_before left range mid own right =
    if all_white mid
    then one_range left (range ++ (mid ++ own)) right
    else two_ranges left range mid own right

-- No comma after it, and before it m items that are not tokens.
abbrev pub no_comma_behind : ℕ → List Lexeme → List Lexeme → List Lexeme → List Piece
no_comma_behind m left own right =
    let before = but_last m left in
    if first_is is_comma (reverse before) then comma_before (but_last 1 before) (last_few 1 before) (last_few m left) own right else one_range left own right

unfoldable pub removed : List Lexeme → List Lexeme → List Lexeme → List Piece
removed left own right =
    let n = gap_len right in
    if first_is is_comma (drop n right)
    then comma_behind left own (take n right) (drop n right)
    else no_comma_behind (gap_len (reverse left)) left own right
