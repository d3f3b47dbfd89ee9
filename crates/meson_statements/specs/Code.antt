-- Texts that are statements of the grammar.
use Rattle.std.specs.Prelude.{◌≡◌, ℕ, false, List}
use Rattle.meson_syntax.specs.Reads.{Reads}
use Rattle.meson_syntax.specs.Tree.{Plain}
use Rattle.meson_edit.specs.Edits.{is_empty}
use Rattle.meson_edit.specs.ExchangedLines.{file_statements}

-- The text parses as a file that has a statement.
pub record IsStatements (text : List ℕ) : Type 0 where
  pub tree : Plain
  pub reads : Reads text tree
  pub some : is_empty (file_statements tree) ≡ false
