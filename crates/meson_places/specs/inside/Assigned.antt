-- Assigned values as the code finds them.
use Rattle.std.specs.Prelude.{◌≡◌, List}
use Rattle.meson_splice.specs.declared.file_set.File.{File}
use Rattle.meson_splice.specs.Files.{bytes_at}
use Rattle.meson_syntax.specs.Grammar.{expression_words}
use Rattle.meson_syntax.specs.View.{expr_view}
use Rattle.meson_calls.specs.Strings.{AreGood}
use Rattle.meson_places.specs.declared.assigned_arrays.Lone.{Lone}
use Rattle.meson_places.specs.AssignedArrays.{LoneValue}

abbrev pub lone_view : Lone → LoneValue
lone_view v = record { place = v.place.now; value = expr_view v.source.now v.value.now; token = v.token.now }

-- in some files: its source, and its strings
pub record IsLoneAt (files : List File) (v : Lone) : Type 0 where
  pub source : v.source.now ≡ bytes_at v.place.now.file files
  pub good : AreGood (expression_words (expr_view v.source.now v.value.now))
