-- What is left to be written of lines.
use Rattle.std.specs.Prelude.{ℕ, true, false, List, [], ◌∷◌, ◌++◌}
use Rattle.meson_lex.specs.declared.kinds.Kind.TheVariants.{Blank}
use Rattle.meson_lex.specs.Items.{Lexeme, joined}
use Rattle.meson_statements.specs.declared.indenting.Lines.{Lines}
use Rattle.meson_statements.specs.declared.indenting.Spot.{Spot}
use Rattle.meson_statements.specs.declared.indenting.Spot.TheVariants as spot
use Rattle.meson_statements.specs.Indented.{indented, lexeme}

-- the bytes of these items, of which the first comes there in its line
abbrev pub left_of : Lines → Spot → List Lexeme → List ℕ
left_of lines spot.Start xs = joined (indented lines.indent.now lines.end.now true xs)
left_of lines (spot.Blanks bytes) xs = joined (indented lines.indent.now lines.end.now true (lexeme Blank bytes.now ∷ xs))
left_of lines spot.Inside xs = joined (indented lines.indent.now lines.end.now false xs)

-- what is written before an item with text there
abbrev pub before : Lines → Spot → List ℕ
before lines spot.Start = lines.indent.now
before lines (spot.Blanks bytes) = lines.indent.now ++ bytes.now
before lines spot.Inside = []
