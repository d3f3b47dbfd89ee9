-- What is removed along with a statement: `left`, `own` and `right` are the items before, of and after it.
use Rattle.std.specs.Prelude.{ℕ, ◌+◌, ◌==◌, ◌&&◌, List, [], ◌∷◌, ◌++◌, take, drop, reverse, if◌then◌else◌}
use Rattle.meson_lex.specs.Items.{Lexeme}
use Rattle.meson_layout.specs.declared.primitive.BlankLines.{BlankLines}
use Rattle.meson_layout.specs.declared.removal.Growth.{Growth}
use Rattle.meson_layout.specs.BlankLines.{blank_growth}
use Rattle.meson_layout.specs.LineSpots.{in_line_len, rest_of_line_len}
use Rattle.meson_layout.specs.Looks.{is_blank_kind, one_if, but_last, last_few}
use Rattle.meson_layout.specs.Pieces.{Piece, Keep, Change}
use Rattle.meson_layout.specs.Statements.{at_line_start}

-- these numbers of items before and after it are removed with it
abbrev pub statement_gone : Growth → List Lexeme → List Lexeme → List Lexeme → List Piece
statement_gone g left own right =
    Keep (but_last g.before left) ∷ Change (last_few g.before left ++ (own ++ take g.behind right)) [] ∷ Keep (drop g.behind right) ∷ []

-- The blank directly before and the one directly after go. If nothing else is on its lines, so do the line end and blank lines.
abbrev pub growth_by : BlankLines → (n m : ℕ) (before behind : List Lexeme) → Growth
growth_by blank n m before behind =
    let end = rest_of_line_len behind in
    let more = blank_growth blank before (drop end behind) in
    if at_line_start (reverse before) && in_line_len behind == 0 then record { before = n + more.before; behind = m + (end + more.behind) }
    else record { before = n; behind = m }

abbrev pub statement_growth : BlankLines → (left right : List Lexeme) → Growth
statement_growth blank left right =
    let n = one_if is_blank_kind (reverse left) in
    let m = one_if is_blank_kind right in
    growth_by blank n m (but_last n left) (drop m right)

unfoldable pub statement_removed : BlankLines → List Lexeme → List Lexeme → List Lexeme → List Piece
statement_removed blank left own right = statement_gone (statement_growth blank left right) left own right
