-- Values and variables as the code finds them.
use Rattle.std.specs.Prelude.{◌≡◌, List}
use Rattle.meson_lex.specs.declared.kinds.Span.{Span}
use Rattle.meson_splice.specs.declared.file_set.File.{File}
use Rattle.meson_splice.specs.Files.{bytes_at}
use Rattle.meson_syntax.specs.Grammar.{expression_words}
use Rattle.meson_syntax.specs.Tree.{Expression}
use Rattle.meson_syntax.specs.View.{expr_view}
use Rattle.meson_calls.specs.declared.call.CallRef.{CallRef}
use Rattle.meson_calls.specs.Strings.{AreGood}
use Rattle.meson_places.specs.declared.variables.FoundValue.{FoundValue}
use Rattle.meson_places.specs.declared.variables.Variable.{Variable}
use Rattle.meson_places.specs.Behind.{Behind}

abbrev pub found_value : FoundValue → Expression Span
found_value v = expr_view v.source.now v.value.now

-- the value at a place of some files: its source, and its strings
pub record IsFoundAt (files : List File) (c : CallRef) (v : FoundValue) : Type 0 where
  pub source : v.source.now ≡ bytes_at c.file files
  pub good : AreGood (expression_words (found_value v))

abbrev pub behind_view : Variable → Behind
behind_view v = record { variable = v.name.now; read_at = v.read_at; value_at = v.value_at }
